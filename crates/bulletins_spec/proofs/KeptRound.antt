-- One round: a station's set becomes the union of those that it hears, and its clock the latest of
-- theirs. What stands at a place stays, for its issuer held it before.
use mathlib.Core.Bool.{Bool, true, false, ◌&&◌}
use mathlib.Core.List.{List}
use mathlib.Core.Path.{◌≡◌, refl, sym, ap, ◌∙◌, subst}
use Prim.Native.Nat.{ℕ, suc, ◌*◌, ◌≤◌, ◌<◌}
use native.Mathlib.Decide.{ℕ_discrete}
use native.Mathlib.Omega.{arith}
use borrow.Author.Tests.{lt-ltb}
use lib.Dec.{ltb}
use lib.ListN.{length}
use Rattle.lists.proofs.Laws.{set_below_inside, length-set_below}
use Rattle.links.specs.Log.{bit, masks_in, hears_in}
use Rattle.links.specs.Relay.{Links, of_log}
use Rattle.links.specs.Inner.Clock.{news, hearing}
use Rattle.links.specs.Inner.Know.{either}
use Rattle.links.proofs.Clock.{news_own}
use Rattle.links.proofs.Hearing.{hearing_all, hearing_own}
use Rattle.planning.proofs.Stands.{united-bit, either_ext}
use Rattle.bulletins_spec.specs.declared.Bulletins.{Bulletins}
use Rattle.bulletins_spec.specs.State.{issuer_of, set_of, holds, stands, tag_at, event_at, event_inside}
use Rattle.bulletins_spec.specs.Calls.{set_after, bulletins_after}
use Rattle.bulletins_spec.proofs.Hearing.{either_clock, either_none}
use Rattle.bulletins_spec.proofs.Kept.{Kept, issuer_below}

module _ (n : ℕ) (high : n ≤ 16) (log : List (List ℕ)) (masks : List ℕ) (u : ℕ) (T : ℕ → ℕ) (B : Bulletins)
    (here : masks_in log (suc u) ≡ masks) (k : Kept n (of_log n log) u T B) where
  abbrev L : Links
  L = of_log n log

  abbrev B' : Bulletins
  B' = bulletins_after B masks

  -- what p holds after the round
  set_bit : (p s : ℕ) → bit (set_after B masks p) s ≡ either n (λ j. L.hears (suc u) p j) (λ j. holds B j s) (holds B p s)
  unfolding set_after
  set_bit p s =
      united-bit B.n (λ j. hears_in B.n masks p j) (set_of B) (set_of B p) s
      ∙ ap (λ (m : ℕ). either m (λ j. hears_in m masks p j) (λ j. holds B j s) (holds B p s)) k.size
      ∙ ap (λ (m : List ℕ). either n (λ j. hears_in n m p j) (λ j. holds B j s) (holds B p s)) (sym here)

  -- by the clock in the middle of the round
  set_hearing : (p s : ℕ) → p < n → s < 4 * n → bit (set_after B masks p) s ≡ (stands B s && ltb (T s) (hearing L u p (issuer_of s) n))
  unfolding hearing
  set_hearing p s lp ls =
      set_bit p s
      ∙ either_ext n (λ j. L.hears (suc u) p j) (λ j. L.hears (suc u) p j) (λ j. holds B j s)
      (λ j. stands B s && ltb (T s) (news L u j (issuer_of s)))
      (holds B p s) (stands B s && ltb (T s) (news L u p (issuer_of s)))
      (λ j l. refl)
      (λ j l. k.held j s l ls)
      (k.held p s lp ls)
      ∙ either_clock (T s) (stands B s) (λ j. L.hears (suc u) p j) (λ j. news L u j (issuer_of s)) (news L u p (issuer_of s)) n

  -- and so by the clock after it
  pub set_clock : (p s : ℕ) → p < n → s < 4 * n → bit (set_after B masks p) s ≡ (stands B s && ltb (T s) (news L (suc u) p (issuer_of s)))
  set_clock p s lp ls =
      set_hearing p s lp ls
      ∙ elim (ℕ_discrete p (issuer_of s)) [
        | no d ↦ ap (λ (v : ℕ). stands B s && ltb (T s) v) (hearing_all L u p (issuer_of s) d)
        | yes e ↦ itself e (stands B s) refl
      ]
    where
      itself : p ≡ issuer_of s → (b : Bool) → stands B s ≡ b
          → (stands B s && ltb (T s) (hearing L u p (issuer_of s) n)) ≡ (stands B s && ltb (T s) (news L (suc u) p (issuer_of s)))
      itself e false q = rw q
      itself e true q =
          let a : hearing L u p (issuer_of s) n ≡ suc u = subst (λ (i : ℕ). hearing L u p i n ≡ suc u) e (hearing_own L u p n) in
          let c : news L (suc u) p (issuer_of s) ≡ suc (suc u) = subst (λ (i : ℕ). news L (suc u) p i ≡ suc (suc u)) e (news_own L (suc u) p) in
          let t = k.past s ls q in
          ap (λ (b : Bool). stands B s && b)
          (lt-ltb (T s) (hearing L u p (issuer_of s) n) (omega arith) ∙ sym (lt-ltb (T s) (news L (suc u) p (issuer_of s)) (omega arith)))

  set_beyond : (p s : ℕ) → p < n → 4 * n ≤ s → bit (set_after B masks p) s ≡ false
  set_beyond p s lp m =
      set_bit p s
      ∙ ap (λ (b : Bool). either n (λ j. L.hears (suc u) p j) (λ j. holds B j s) b) (k.beyond p s lp m)
      ∙ either_none n (λ j. L.hears (suc u) p j) (λ j. holds B j s) (λ j l. k.beyond j s l m)

  set_now : (p : ℕ) → p < n → set_of B' p ≡ set_after B masks p
  unfolding bulletins_after
  set_now p l = set_below_inside B.n (set_after B masks) B.held p 0 (omega (arith, k.size)) (omega (arith, k.held_size))

  -- what p holds in the state after the round
  pub holds_after : (p s : ℕ) → p < n → holds B' p s ≡ bit (set_after B masks p) s
  holds_after p s l = ap (λ (x : ℕ). bit x s) (set_now p l)

  -- a bulletin stands where one stood
  pub stands_after : (s : ℕ) → s < 4 * n → stands B' s ≡ stands B s
  stands_after s ls =
      let i = issuer_of s in
      let li = issuer_below n s ls in
      holds_after i s li ∙ set_clock i s li ls ∙ same (stands B s) refl
    where
      same : (b : Bool) → stands B s ≡ b → (stands B s && ltb (T s) (news L (suc u) (issuer_of s) (issuer_of s))) ≡ stands B s
      same false q = rw q
      same true q =
          let t = k.past s ls q in
          ap (λ (b : Bool). stands B s && b) (lt-ltb (T s) _ (omega (arith, news_own L (suc u) (issuer_of s)))) ∙ and_one (stands B s)
        where
          and_one : (b : Bool) → (b && true) ≡ b
          and_one true = refl
          and_one false = refl

  after_size : B'.n ≡ n
  unfolding bulletins_after
  after_size = k.size

  pub after_tag : (s : ℕ) → tag_at B' s ≡ tag_at B s
  unfolding bulletins_after
  after_tag s = refl

  pub after_event : (s : ℕ) → event_at B' s ≡ event_at B s
  unfolding bulletins_after
  after_event s = refl

  after_tags : length B'.tags ≡ 64
  unfolding bulletins_after
  after_tags = k.tags_size

  after_events : length B'.events ≡ 64
  unfolding bulletins_after
  after_events = k.events_size

  after_held : length B'.held ≡ 16
  unfolding bulletins_after
  after_held = length-set_below B.n (set_after B masks) B.held ∙ k.held_size

  pub kept_round : Kept n L (suc u) T B'
  kept_round =
      record {
        size = after_size;
        tags_size = after_tags;
        events_size = after_events;
        held_size = after_held;
        held =
            λ p s lp ls.
            holds_after p s lp
            ∙ set_clock p s lp ls
            ∙ ap (λ (b : Bool). b && ltb (T s) (news L (suc u) p (issuer_of s))) (sym (stands_after s ls));
        beyond = λ p s lp m. holds_after p s lp ∙ set_beyond p s lp m;
        past = λ s ls h. let g = k.past s ls (sym (stands_after s ls) ∙ h) in omega arith;
        events = λ s ls h. ap event_inside (after_event s) ∙ k.events s ls (sym (stands_after s ls) ∙ h);
        tags =
            λ r s lr ls i hr hs t.
            k.tags r s lr ls i (sym (stands_after r lr) ∙ hr) (sym (stands_after s ls) ∙ hs) (sym (after_tag r) ∙ t ∙ after_tag s);
      }
