-- The answers of a round, each with the tests on its way decided.
use Prim.Native.Nat.{ℕ, ◌≤◌}
use mathlib.Core.Bool.{Bool, true, false, false≢true}
use mathlib.Core.List.{List}
use mathlib.Core.Path.{◌≡◌, refl, sym, ap, ◌∙◌}
use native.Mathlib.Omega.{arith}
use borrow.Author.Tests.{le-leb, lt-ltb}
use Rattle.lists.specs.Below.{all_below}
use Rattle.lists.proofs.Laws.{and_both}
use Rattle.frame_spec.specs.Frame.{valid_number}
use Rattle.station_spec.specs.declared.Station.{Station}
use Rattle.station_spec.specs.Calls.{own_count_inside}
use Rattle.group_spec.specs.State.{station_at, size_of, member_inside, group_inside}
use Rattle.group_spec.specs.Calls.{round_call}
use Rattle.group_spec.proofs.Members.{group_low, group_high}
use Rattle.group_spec.proofs.CallSteps.{refused, round_outside, round_count}
use Rattle.rounds.specs.Frames.{judged_below}
use Rattle.group.proofs.GroupLimits.{group_judged}
use Rattle.rounds.proofs.SendSteps.{judged_is}

-- a group of a number of stations that there is not
pub size_outside : (g : List Station) → valid_number (size_of g) 0 ≡ false → group_inside g ≡ false
size_outside g v = go (group_inside g) refl
  where
    go : (t : Bool) → group_inside g ≡ t → group_inside g ≡ false
    go true e =
        absurd
        (false≢true
        (sym v
        ∙ and_both (and_both (le-leb 1 (size_of g) (group_low g e)) (le-leb (size_of g) 16 (group_high g e))) (lt-ltb 0 (size_of g) (group_low g e))))
    go false e = e

-- what is judged of the stations is a small number
pub judged_small : (g : List Station) (k : ℕ) → judged_below g k ≤ 10
judged_small g k = go (all_below k (member_inside g)) refl (all_below k (λ j. own_count_inside (station_at g j))) refl
  where
    go :
        (a : Bool) → all_below k (member_inside g) ≡ a → (b : Bool) → all_below k (λ j. own_count_inside (station_at g j)) ≡ b → judged_below g k ≤ 10
    go true p true q = omega (arith, judged_is g k true p true q)
    go true p false q = omega (arith, judged_is g k true p false q)
    go false p b q = omega (arith, judged_is g k false p b q)

module _ (g : List Station) (masks : List ℕ) where
  -- a group of which a station is refused
  pub round_judged :
      (k r : ℕ) → k ≡ size_of g → 1 ≤ size_of g → r ≡ judged_below g k → (r ≡ 0 → ⊥) → refused g masks r ≡ round_call g masks
  round_judged k r e low is d =
      go (all_below (size_of g) (member_inside g)) refl (all_below (size_of g) (λ j. own_count_inside (station_at g j))) refl
    where
      at : r ≡ judged_below g (size_of g)
      at = is ∙ ap (judged_below g) e

      go :
          (a : Bool) → all_below (size_of g) (member_inside g) ≡ a →
          (b : Bool) → all_below (size_of g) (λ j. own_count_inside (station_at g j)) ≡ b →
          refused g masks r ≡ round_call g masks
      go true p true q = absurd (d (at ∙ judged_is g (size_of g) true p true q))
      go true p false q =
          ap (refused g masks) (at ∙ judged_is g (size_of g) true p false q) ∙ round_count g masks (group_judged g low ∙ p) q
      go false p b q =
          ap (refused g masks) (at ∙ judged_is g (size_of g) false p b q) ∙ round_outside g masks (group_judged g low ∙ p)
