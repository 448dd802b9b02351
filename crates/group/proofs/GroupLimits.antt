-- When a group is inside its limits, as a call judges it: its N first, then station after station.
use Prim.Native.Nat.{◌≤◌, ◌<◌}
use native.Mathlib.Omega.{arith}
use mathlib.Core.Bool.{Bool, true, false, ◌&&◌}
use mathlib.Core.List.{List}
use mathlib.Core.Path.{◌≡◌, refl}
use Rattle.lists.specs.Below.{all_below}
use Rattle.lists.proofs.Laws.{all_below_at}
use Rattle.station_spec.specs.declared.Station.{Station}
use Rattle.group_spec.specs.State.{size_of, member_inside, group_inside}
use Rattle.group_spec.proofs.Members.{group_low, group_high}

nowhere : (a : Bool) → (a && false) ≡ false
nowhere true = refl
nowhere false = refl

module _ (g : List Station) where
  pub none_outside : size_of g < 1 → group_inside g ≡ false
  none_outside l = go (group_inside g) refl
    where
      go : (t : Bool) → group_inside g ≡ t → group_inside g ≡ false
      go true e = absurd (omega (arith, group_low g e))
      go false e = e

  pub many_outside : 16 < size_of g → group_inside g ≡ false
  many_outside l = go (group_inside g) refl
    where
      go : (t : Bool) → group_inside g ≡ t → group_inside g ≡ false
      go true e = absurd (omega (arith, group_high g e))
      go false e = e

  -- a group of one or more is inside its limits where all its stations are members
  pub group_judged : 1 ≤ size_of g → group_inside g ≡ all_below (size_of g) (member_inside g)
  unfolding group_inside
  group_judged low = go (all_below (size_of g) (member_inside g)) refl
    where
      go :
          (t : Bool) → all_below (size_of g) (member_inside g) ≡ t →
          member_inside g 0 && all_below (size_of g) (member_inside g) ≡ all_below (size_of g) (member_inside g)
      go true e = rw (all_below_at (size_of g) (member_inside g) e 0 low)
      go false e = rw e (nowhere (member_inside g 0))
