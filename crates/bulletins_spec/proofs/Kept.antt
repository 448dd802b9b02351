-- The state after u rounds, by the clocks: a station holds the bulletin at a place exactly if one
-- stands there and its news of the issuer is from after the round of issue, T s. With it the state
-- is inside its limits.
use mathlib.Core.Bool.{Bool, true, false, not, ◌&&◌, ◌||◌, false≢true}
use mathlib.Core.List.{List, ◌++◌}
use mathlib.Core.Path.{◌≡◌, refl, sym, ap, ◌∙◌}
use Prim.Native.Nat.{ℕ, suc, ◌+◌, ◌*◌, ◌≤◌, ◌<◌}
use native.Mathlib.Decide.{ℕ_discrete, dec_le}
use native.Mathlib.Omega.{arith}
use borrow.Author.Tests.{le-leb, lt-ltb, eq-eqb, ne_eqb}
use lib.Dec.{ltb, eqb}
use lib.ListN.{length, get_or-replicate}
use Rattle.lists.specs.Below.{all_below}
use Rattle.lists.proofs.Laws.{all_below_make, and_both, and_left}
use Rattle.links.specs.Log.{bit}
use Rattle.links.specs.Relay.{Links, of_log}
use Rattle.links.specs.Inner.Clock.{news}
use Rattle.links.proofs.Log.{bit_zero}
use Rattle.links.proofs.Facts.{p_news}
use Rattle.bulletins_spec.specs.declared.Bulletins.{Bulletins}
use Rattle.bulletins_spec.specs.State.{issuer_of, holds, stands, tag_at, event_at, event_inside, held_inside, other_tag, own_inside, bulletins_inside, fresh_bulletins}

pub issuer_below : (n s : ℕ) → s < 4 * n → issuer_of s < n
issuer_below n s l = omega arith

pub record Kept (n : ℕ) (L : Links) (u : ℕ) (T : ℕ → ℕ) (B : Bulletins) : Type 0 where
  pub size : B.n ≡ n
  pub tags_size : length B.tags ≡ 64
  pub events_size : length B.events ≡ 64
  pub held_size : length B.held ≡ 16
  pub held : (p s : ℕ) → p < n → s < 4 * n → holds B p s ≡ (stands B s && ltb (T s) (news L u p (issuer_of s)))
  pub beyond : (p s : ℕ) → p < n → 4 * n ≤ s → holds B p s ≡ false
  pub past : (s : ℕ) → s < 4 * n → stands B s ≡ true → T s ≤ u
  pub events : (s : ℕ) → s < 4 * n → stands B s ≡ true → event_inside (event_at B s) ≡ true
  pub tags : (r s : ℕ) → r < 4 * n → s < 4 * n → issuer_of r ≡ issuer_of s → stands B r ≡ true → stands B s ≡ true
      → tag_at B r ≡ tag_at B s → r ≡ s

-- more rounds at the end of a log change nothing
pub kept_log : (n : ℕ) (log more : List (List ℕ)) (u : ℕ) (T : ℕ → ℕ) (B : Bulletins) → u ≤ length log
    → Kept n (of_log n log) u T B → Kept n (of_log n (log ++ more)) u T B
kept_log n log more u T B l k =
    record {
      size = k.size;
      tags_size = k.tags_size;
      events_size = k.events_size;
      held_size = k.held_size;
      held =
          λ p s lp ls.
          k.held p s lp ls ∙ ap (λ (v : ℕ). stands B s && ltb (T s) v) (p_news n log more u p (issuer_of s) l);
      beyond = k.beyond;
      past = k.past;
      events = k.events;
      tags = k.tags;
    }

unless : (a b : Bool) → (a ≡ true → b ≡ true) → (not a || b) ≡ true
unless true b h = h refl
unless false b h = refl

module _ (n : ℕ) (low : 1 ≤ n) (high : n ≤ 16) (L : Links) (u : ℕ) (T : ℕ → ℕ) (B : Bulletins) (k : Kept n L u T B) where
  held_inside_lem : (p s : ℕ) → p < n → held_inside B p s ≡ true
  held_inside_lem p s lp = unless (holds B p s) (ltb (issuer_of s) B.n && stands B s) (λ h. below h)
    where
      below : holds B p s ≡ true → (ltb (issuer_of s) B.n && stands B s) ≡ true
      below h =
          elim (dec_le (suc s) (4 * n)) [
            | yes l ↦
                and_both
                (lt-ltb (issuer_of s) B.n (omega (arith, issuer_below n s l, k.size)))
                (and_left (stands B s) (ltb (T s) (news L u p (issuer_of s))) (sym (k.held p s lp l) ∙ h))
            | no l ↦ absurd (false≢true (sym (k.beyond p s lp (omega arith)) ∙ h))
          ]

  other_tags : (s r : ℕ) → s < 4 * n → r < 4 * n → issuer_of r ≡ issuer_of s → stands B s ≡ true → other_tag B s r ≡ true
  other_tags s r ls lr i us =
      elim (ℕ_discrete r s) [
        | yes e ↦ rw (eq-eqb r s e)
        | no d ↦
            rw (ne_eqb r s d)
            (unless (stands B r) (not (eqb (tag_at B r) (tag_at B s)))
            (λ ur. ap not (ne_eqb (tag_at B r) (tag_at B s) (λ t. d (k.tags r s lr ls i ur us t)))))
      ]

  own_inside_lem : (s : ℕ) → s < 4 * n → own_inside B s ≡ true
  own_inside_lem s l =
      unless (stands B s) _
      (λ h.
      and_both (k.events s l h)
      (all_below_make 4 (λ j. other_tag B s (4 * issuer_of s + j)) (λ j lj. other_tags s (4 * issuer_of s + j) l (omega arith) (omega arith) h)))

  pub kept_inside : bulletins_inside B ≡ true
  unfolding bulletins_inside
  kept_inside =
      let e = k.size in
      and_both (and_both (le-leb 1 B.n (omega arith)) (le-leb B.n 16 (omega arith)))
      (and_both
      (all_below_make B.n (λ p. all_below 64 (held_inside B p)) (λ p lp. all_below_make 64 (held_inside B p) (λ s ls. held_inside_lem p s (omega arith))))
      (all_below_make (4 * B.n) (own_inside B) (λ s ls. own_inside_lem s (omega arith))))

-- fresh: nobody holds anything
pub fresh_holds : (n p s : ℕ) → p < 16 → holds (fresh_bulletins n) p s ≡ false
unfolding fresh_bulletins
fresh_holds n p s l = ap (λ (x : ℕ). bit x s) (get_or-replicate 16 p 0 0 l) ∙ bit_zero s

pub fresh_empty : (n s : ℕ) → n ≤ 16 → s < 4 * n → stands (fresh_bulletins n) s ≡ true → ⊥
fresh_empty n s high ls h = false≢true (sym (fresh_holds n (issuer_of s) s (omega (arith, issuer_below n s ls))) ∙ h)

fresh_sizes : (n : ℕ)
    → ((fresh_bulletins n).n ≡ n) × (length (fresh_bulletins n).tags ≡ 64) × (length (fresh_bulletins n).events ≡ 64)
    × (length (fresh_bulletins n).held ≡ 16)
unfolding fresh_bulletins
fresh_sizes n = (refl, refl, refl, refl)

pub kept_fresh : (n : ℕ) → n ≤ 16 → (L : Links) (T : ℕ → ℕ) → Kept n L 0 T (fresh_bulletins n)
kept_fresh n high L T =
    record {
      size = (fresh_sizes n).0;
      tags_size = (fresh_sizes n).1;
      events_size = (fresh_sizes n).2;
      held_size = (fresh_sizes n).3;
      held =
          λ p s lp ls.
          fresh_holds n p s (omega arith)
          ∙ sym (ap (λ (b : Bool). b && ltb (T s) (news L 0 p (issuer_of s))) (fresh_holds n (issuer_of s) s (omega (arith, issuer_below n s ls))));
      beyond = λ p s lp m. fresh_holds n p s (omega arith);
      past = λ s ls h. absurd (fresh_empty n s high ls h);
      events = λ s ls h. absurd (fresh_empty n s high ls h);
      tags = λ r s lr ls i hr hs t. absurd (fresh_empty n s high ls hs);
    }
