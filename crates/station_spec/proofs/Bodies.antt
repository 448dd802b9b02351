-- All bodies that a station inside its limits holds are inside theirs in its edition, wherever they
-- stand. So a station that holds one outside them is outside its own, and each of its calls is
-- refused with 2. No limit of a kind is named here: the table decides.
use Prim.Native.Nat.{ℕ}
use mathlib.Core.Bool.{Bool, true, false, true≢false}
use mathlib.Core.List.{List}
use mathlib.Core.Path.{◌≡◌, refl, sym, ◌∙◌}
use Rattle.bodies.specs.declared.Body.{Body}
use Rattle.bodies.specs.Refusals.{outside_limits}
use Rattle.bodies.specs.Limits.{body_inside}
use Rattle.bodies.proofs.LimitLaws.{waiting_inside}
use Rattle.queues.proofs.WaitingLaws.{waiting_fits}
use Rattle.station_spec.specs.declared.Station.{Station}
use Rattle.station_spec.specs.Limits.{station_inside, allowed}
use Rattle.station_spec.specs.Bodies.{Holds}
use Rattle.station_spec.specs.Bodies.Holds.{present, waiting, recorded, lane_first, lane_second}
use Rattle.station_spec.specs.Calls.{post_call, write_refusal, write_call, hear_call, turn_call}
use Rattle.station_spec.proofs.BodyLaws.{takeable_inside, allowed_inside}
use Rattle.station_spec.proofs.StationLimits.{inside_open}
use Rattle.station_spec.proofs.LimitsLane.{lane_first as first_takeable, lane_second as second_takeable}

held_allowed : (s : Station) (b : Body) → station_inside s ≡ true → Holds s b → allowed s b ≡ true
held_allowed s b i present = (inside_open s i).body
held_allowed s b i (waiting d j l) =
    waiting_inside (allowed s) b (waiting_fits (allowed s) s.waiting (inside_open s i).waiting d j l)
held_allowed s b i (recorded k l e) = (((inside_open s i).places k l).held e).body
held_allowed s b i (lane_first k l p) = takeable_inside (allowed s) b (first_takeable _ _ _ ((inside_open s i).places k l).lane p)
held_allowed s b i (lane_second k l p) = takeable_inside (allowed s) b (second_takeable _ _ _ ((inside_open s i).places k l).lane p)

pub held_inside : (s : Station) (b : Body) → station_inside s ≡ true → Holds s b → body_inside s.edition b ≡ true
held_inside s b i holds = allowed_inside s b (held_allowed s b i holds)

module _ (s : Station) (b : Body) (h : body_inside s.edition b ≡ false) (holds : Holds s b) where
  pub holds_outside : station_inside s ≡ false
  holds_outside = go (station_inside s) refl
    where
      go : (t : Bool) → station_inside s ≡ t → station_inside s ≡ false
      go true e = absurd (true≢false (sym (held_inside s b e holds) ∙ h))
      go false e = e

  pub post_two : (d : ℕ) (c : Body) → (post_call s d c).refusal ≡ outside_limits
  unfolding post_call
  post_two d c = rw holds_outside

  pub write_two : (room : ℕ) → (write_call s room).refusal ≡ outside_limits
  unfolding write_call write_refusal
  write_two room = rw holds_outside

  pub hear_two : (bytes : List ℕ) → (hear_call s bytes).refusal ≡ outside_limits
  unfolding hear_call
  hear_two bytes = rw holds_outside

  pub turn_two : (turn_call s).refusal ≡ outside_limits
  unfolding turn_call
  turn_two = rw holds_outside
