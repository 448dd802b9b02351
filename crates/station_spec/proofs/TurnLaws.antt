-- What a turn starts, in three cases: the next edit or Neutral, for which the own lane is empty
-- after the airing step, or nothing.
use Prim.Native.Nat.{◌<◌}
use mathlib.Core.Bool.{Bool, true, false}
use mathlib.Core.Path.{◌≡◌, refl}
use lib.Dec.{ltb}
use borrow.Author.Tests.{ltb-true, eqb-true}
use Rattle.bodies.specs.declared.Body.TheVariants.{Empty, Neutral}
use Rattle.queues.specs.Waiting.{waiting_count, next_edit}
use Rattle.station_spec.specs.declared.Station.{Station}
use Rattle.station_spec.specs.Turn.{broadcast_ends, may_start, starts_edit, started_body}
use Rattle.station_spec.proofs.TurnCells.{lane_after}

-- what a turn starts: the next edit, Neutral, or nothing
pub data Start (s : Station) : Type 0 where
  an_edit : starts_edit s ≡ true → (lane_after s s.own).len ≡ 0 → 0 < waiting_count s.waiting → started_body s ≡ next_edit s.waiting → Start s
  a_neutral : starts_edit s ≡ false → (lane_after s s.own).len ≡ 0 → started_body s ≡ Neutral → Start s
  nothing : starts_edit s ≡ false → started_body s ≡ Empty → Start s

pub start : (s : Station) → Start s
unfolding started_body
start s = go (broadcast_ends s) (may_start s) (ltb 0 (waiting_count s.waiting)) refl refl refl
  where
    go : (a b c : Bool) → broadcast_ends s ≡ a → may_start s ≡ b → ltb 0 (waiting_count s.waiting) ≡ c → Start s
    go true true true e m w =
        an_edit (rw (e, m, w)) (eqb-true (lane_after s s.own).len 0 m) (ltb-true 0 (waiting_count s.waiting) w) (rw (e, m, w))
    go true true false e m w = a_neutral (rw (e, m, w)) (eqb-true (lane_after s s.own).len 0 m) (rw (e, m, w))
    go true false c e m w = nothing (rw (e, m)) (rw (e, m))
    go false b c e m w = nothing (rw e) (rw e)
