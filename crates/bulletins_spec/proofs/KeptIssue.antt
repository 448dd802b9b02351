-- An issue that is not refused puts a bulletin at a free place of its issuer. Nobody else holds
-- anything there, and nobody's news of the issuer is from after the present round but the issuer's
-- own.
use mathlib.Core.Bool.{Bool, true, false, cond, not, ◌&&◌, ◌||◌, false≢true}
use mathlib.Core.Path.{◌≡◌, refl, sym, ap, ◌∙◌, subst}
use Prim.Native.Nat.{ℕ, zero, suc, ◌+◌, ◌*◌, ◌-◌, ◌^◌, ◌≤◌, ◌<◌}
use native.Mathlib.Decide.{ℕ_discrete}
use native.Mathlib.Omega.{arith}
use borrow.Author.Tests.{eq-eqb, ne_eqb, lt-ltb, le-ltb, ltb-true, eqb-false}
use lib.Bits.{bit_or}
use lib.Dec.{eqb, ltb}
use lib.ListN.{length, length-set}
use lib.Seq.{get_or-set_same, get_or-set_other}
use Rattle.bodies.specs.Refusals.{done, bad_number, outside_limits, not_an_edit, already_issued, refuse_number}
use Rattle.lists.proofs.Laws.{any_below_at, and_both}
use Rattle.links.specs.Log.{bit}
use Rattle.links.specs.Relay.{Links}
use Rattle.links.specs.Inner.Clock.{news}
use Rattle.links.proofs.Clock.{news_own, news_other}
use Rattle.planning.proofs.Bits.{bit_or_lem, bit-pow}
use Rattle.bulletins_spec.specs.declared.Bulletins.{Bulletins}
use Rattle.bulletins_spec.specs.State.{issuer_of, set_of, holds, stands, tag_at, event_at, event_inside, bulletins_inside}
use Rattle.bulletins_spec.specs.Calls.{free_from, free_place, has_tag, has_four, issue_refusal, issued}
use Rattle.bulletins_spec.proofs.Kept.{Kept}

-- the free place is among those looked at, or one past them; inside it is free
pub free_range : (B : Bulletins) (m s : ℕ) → (s ≤ free_from B m s) × (free_from B m s ≤ s + m)
unfolding free_from
free_range B zero s = (omega arith, omega arith)
free_range B (suc m) s = go (stands B s) (free_range B m (suc s))
  where
    go : (c : Bool) → (suc s ≤ free_from B m (suc s)) × (free_from B m (suc s) ≤ suc s + m)
        → (s ≤ cond c (free_from B m (suc s)) s) × (cond c (free_from B m (suc s)) s ≤ s + suc m)
    go true h = (omega (arith, h.0), omega (arith, h.1))
    go false h = (omega arith, omega arith)

pub free_free : (B : Bulletins) (m s : ℕ) → free_from B m s < s + m → stands B (free_from B m s) ≡ false
unfolding free_from
free_free B zero s l = absurd (omega arith)
free_free B (suc m) s l = go (stands B s) refl l (λ k. free_free B m (suc s) k)
  where
    go : (c : Bool) → stands B s ≡ c → cond c (free_from B m (suc s)) s < s + suc m
        → (free_from B m (suc s) < suc s + m → stands B (free_from B m (suc s)) ≡ false)
        → stands B (cond c (free_from B m (suc s)) s) ≡ false
    go true e k rest = rest (omega arith)
    go false e k rest = e

-- what an accepted issue says
pub record Accepted (B : Bulletins) (i tag event : ℕ) : Type 0 where
  pub below : i < B.n
  pub event_is_inside : event_inside event ≡ true
  pub new_tag : has_tag B i tag ≡ false
  pub room : has_four B i ≡ false

pub accepted : (B : Bulletins) (i tag event : ℕ) → issue_refusal B i tag event ≡ done → Accepted B i tag event
unfolding issue_refusal
accepted B i tag event e =
    go (bulletins_inside B) (ltb i B.n) (event_inside event) (has_tag B i tag) (has_four B i) refl refl refl refl e
  where
    go : (a b c d f : Bool) → ltb i B.n ≡ b → event_inside event ≡ c → has_tag B i tag ≡ d → has_four B i ≡ f
        → refuse_number (not a) outside_limits (refuse_number (not b) bad_number (refuse_number (not c) not_an_edit (refuse_number (d || f) already_issued done))) ≡ done
        → Accepted B i tag event
    go true true true false false q r s t z =
        record { below = ltb-true i B.n q; event_is_inside = r; new_tag = s; room = t }
    go true true true false true q r s t z = absurd (omega (arith, z))
    go true true true true f q r s t z = absurd (omega (arith, z))
    go true true false d f q r s t z = absurd (omega (arith, z))
    go true false c d f q r s t z = absurd (omega (arith, z))
    go false b c d f q r s t z = absurd (omega (arith, z))

module _ (n : ℕ) (high : n ≤ 16) (L : Links) (u : ℕ) (T : ℕ → ℕ) (B : Bulletins) (k : Kept n L u T B)
    (i tag event : ℕ) (a : Accepted B i tag event) where
  abbrev P : ℕ
  P = free_place B i

  abbrev B' : Bulletins
  B' = issued B i tag event

  li : i < n
  li = omega (arith, a.below, k.size)

  p_low : 4 * i ≤ P
  p_low = (free_range B 4 (4 * i)).0

  p_high : P < 4 * i + 4
  p_high =
      let d : P ≡ 4 * i + 4 → ⊥ = eqb-false P (4 * i + 4) a.room in
      let h = (free_range B 4 (4 * i)).1 in
      elim (ℕ_discrete P (4 * i + 4)) [ yes e ↦ absurd (d e) | no q ↦ omega arith ]

  pub place_issuer : issuer_of P ≡ i
  place_issuer = omega (arith, p_low, p_high)

  pub place_below : P < 4 * n
  place_below = omega (arith, p_high, li)

  pub own_empty : stands B P ≡ false
  own_empty = free_free B 4 (4 * i) p_high

  -- the round of issue of each place
  pub time : ℕ → ℕ
  time s = cond (eqb s P) u (T s)

  pub time_new : time P ≡ u
  unfolding time
  time_new = rw (eq-eqb P P refl)

  pub time_other : (s : ℕ) → (s ≡ P → ⊥) → time s ≡ T s
  unfolding time
  time_other s d = rw (ne_eqb s P d)

  -- ---- the state after the issue

  set_issuer : set_of B' i ≡ bit_or (set_of B i) (2 ^ P)
  unfolding issued
  set_issuer = get_or-set_same B.held i (bit_or (set_of B i) (2 ^ P)) 0 (omega (arith, li, k.held_size))

  set_other : (p : ℕ) → (p ≡ i → ⊥) → set_of B' p ≡ set_of B p
  unfolding issued
  set_other p d = get_or-set_other B.held i p (bit_or (set_of B i) (2 ^ P)) 0 d

  holds_issuer : (s : ℕ) → holds B' i s ≡ (holds B i s || eqb P s)
  holds_issuer s =
      ap (λ (x : ℕ). bit x s) set_issuer ∙ bit_or_lem (set_of B i) (2 ^ P) s ∙ ap (λ (b : Bool). holds B i s || b) (bit-pow P s)

  or_no : (b : Bool) → (b || false) ≡ b
  or_no true = refl
  or_no false = refl

  or_yes : (b : Bool) → (b || true) ≡ true
  or_yes true = refl
  or_yes false = refl

  holds_other : (p s : ℕ) → (s ≡ P → ⊥) → holds B' p s ≡ holds B p s
  holds_other p s d =
      elim (ℕ_discrete p i) [
        | yes e ↦
            subst (λ (q : ℕ). holds B' q s ≡ holds B q s) (sym e)
            (holds_issuer s ∙ ap (λ (b : Bool). holds B i s || b) (ne_eqb P s (λ q. d (sym q))) ∙ or_no (holds B i s))
        | no q ↦ ap (λ (x : ℕ). bit x s) (set_other p q)
      ]

  holds_new : holds B' i P ≡ true
  holds_new = holds_issuer P ∙ ap (λ (b : Bool). holds B i P || b) (eq-eqb P P refl) ∙ or_yes (holds B i P)

  pub stands_new : stands B' P ≡ true
  stands_new = ap (λ (q : ℕ). holds B' q P) place_issuer ∙ holds_new

  pub stands_other : (s : ℕ) → (s ≡ P → ⊥) → stands B' s ≡ stands B s
  stands_other s d = holds_other (issuer_of s) s d

  pub tag_new : tag_at B' P ≡ tag
  unfolding issued
  tag_new = get_or-set_same B.tags P tag 0 (omega (arith, place_below, k.tags_size))

  pub tag_other : (s : ℕ) → (s ≡ P → ⊥) → tag_at B' s ≡ tag_at B s
  unfolding issued
  tag_other s d = get_or-set_other B.tags P s tag 0 d

  pub event_new : event_at B' P ≡ event
  unfolding issued
  event_new = get_or-set_same B.events P event 0 (omega (arith, place_below, k.events_size))

  pub event_other : (s : ℕ) → (s ≡ P → ⊥) → event_at B' s ≡ event_at B s
  unfolding issued
  event_other s d = get_or-set_other B.events P s event 0 d

  -- ---- by the clocks

  held_new : (p : ℕ) → p < n → holds B' p P ≡ (stands B' P && ltb (time P) (news L u p (issuer_of P)))
  held_new p lp =
      elim (ℕ_discrete p i) [
        | yes e ↦
            subst (λ (q : ℕ). holds B' q P ≡ (stands B' P && ltb (time P) (news L u q (issuer_of P)))) (sym e)
            (holds_new
            ∙ sym (and_both stands_new
            (lt-ltb (time P) (news L u i (issuer_of P))
            (omega (arith, time_new, subst (λ (q : ℕ). news L u i q ≡ suc u) (sym place_issuer) (news_own L u i))))))
        | no d ↦
            ap (λ (x : ℕ). bit x P) (set_other p d)
            ∙ k.held p P lp place_below
            ∙ ap (λ (b : Bool). b && ltb (T P) (news L u p (issuer_of P))) own_empty
            ∙ sym (ap (λ (b : Bool). stands B' P && b)
            (le-ltb (time P) (news L u p (issuer_of P))
            (omega (arith, time_new, subst (λ (q : ℕ). news L u p q ≤ u) (sym place_issuer) (news_other L u p i d))))
            ∙ and_none (stands B' P))
      ]
    where
      and_none : (b : Bool) → (b && false) ≡ false
      and_none true = refl
      and_none false = refl

  held_issued : (p s : ℕ) → p < n → s < 4 * n → holds B' p s ≡ (stands B' s && ltb (time s) (news L u p (issuer_of s)))
  held_issued p s lp ls =
      elim (ℕ_discrete s P) [
        | yes e ↦ subst (λ (r : ℕ). holds B' p r ≡ (stands B' r && ltb (time r) (news L u p (issuer_of r)))) (sym e) (held_new p lp)
        | no d ↦
            holds_other p s d
            ∙ k.held p s lp ls
            ∙ ap (λ (b : Bool). b && ltb (T s) (news L u p (issuer_of s))) (sym (stands_other s d))
            ∙ ap (λ (t : ℕ). stands B' s && ltb t (news L u p (issuer_of s))) (sym (time_other s d))
      ]

  past_issued : (s : ℕ) → s < 4 * n → stands B' s ≡ true → time s ≤ u
  past_issued s ls h =
      elim (ℕ_discrete s P) [
        | yes e ↦ omega (arith, ap time e, time_new)
        | no d ↦ omega (arith, time_other s d, k.past s ls (sym (stands_other s d) ∙ h))
      ]

  events_issued : (s : ℕ) → s < 4 * n → stands B' s ≡ true → event_inside (event_at B' s) ≡ true
  events_issued s ls h =
      elim (ℕ_discrete s P) [
        | yes e ↦ ap (λ (r : ℕ). event_inside (event_at B' r)) e ∙ ap event_inside event_new ∙ a.event_is_inside
        | no d ↦ ap event_inside (event_other s d) ∙ k.events s ls (sym (stands_other s d) ∙ h)
      ]

  -- no bulletin of the issuer had that tag
  pub new_tag : (s : ℕ) → issuer_of s ≡ i → stands B s ≡ true → tag_at B s ≡ tag → ⊥
  unfolding has_tag
  new_tag s e h t =
      let f : 4 * i + (s - 4 * i) ≡ s = omega arith in
      let x =
      any_below_at 4 (λ j. stands B (4 * i + j) && eqb (tag_at B (4 * i + j)) tag) a.new_tag (s - 4 * i) (omega arith) in
      let y : (stands B s && eqb (tag_at B s) tag) ≡ false = subst (λ (r : ℕ). (stands B r && eqb (tag_at B r) tag) ≡ false) f x in
      false≢true (sym y ∙ and_both h (eq-eqb (tag_at B s) tag t))

  tags_issued : (r s : ℕ) → r < 4 * n → s < 4 * n → issuer_of r ≡ issuer_of s → stands B' r ≡ true → stands B' s ≡ true
      → tag_at B' r ≡ tag_at B' s → r ≡ s
  tags_issued r s lr ls e hr hs t =
      elim (ℕ_discrete r P) [
        | yes er ↦
            elim (ℕ_discrete s P) [
              | yes es ↦ er ∙ sym es
              | no ds ↦
                  absurd (new_tag s (sym e ∙ ap issuer_of er ∙ place_issuer) (sym (stands_other s ds) ∙ hs)
                  (sym (tag_other s ds) ∙ sym t ∙ ap (tag_at B') er ∙ tag_new))
            ]
        | no dr ↦
            elim (ℕ_discrete s P) [
              | yes es ↦
                  absurd (new_tag r (e ∙ ap issuer_of es ∙ place_issuer) (sym (stands_other r dr) ∙ hr)
                  (sym (tag_other r dr) ∙ t ∙ ap (tag_at B') es ∙ tag_new))
              | no ds ↦
                  k.tags r s lr ls e (sym (stands_other r dr) ∙ hr) (sym (stands_other s ds) ∙ hs) (sym (tag_other r dr) ∙ t ∙ tag_other s ds)
            ]
      ]

  issued_size : B'.n ≡ n
  unfolding issued
  issued_size = k.size

  issued_tags : length B'.tags ≡ 64
  unfolding issued
  issued_tags = length-set B.tags P tag ∙ k.tags_size

  issued_events : length B'.events ≡ 64
  unfolding issued
  issued_events = length-set B.events P event ∙ k.events_size

  issued_held : length B'.held ≡ 16
  unfolding issued
  issued_held = length-set B.held i (bit_or (set_of B i) (2 ^ P)) ∙ k.held_size

  pub kept_issue : Kept n L u time B'
  kept_issue =
      record {
        size = issued_size;
        tags_size = issued_tags;
        events_size = issued_events;
        held_size = issued_held;
        held = held_issued;
        beyond = λ p s lp m. holds_other p s (λ e. omega (arith, place_below)) ∙ k.beyond p s lp m;
        past = past_issued;
        events = events_issued;
        tags = tags_issued;
      }
