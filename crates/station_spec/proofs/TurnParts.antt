-- What a turn does, case by case: the body it starts, the body it leaves, and what it reports. Each
-- is the definition at one value of its test.
use mathlib.Core.Bool.{Bool, true, false, cond}
use mathlib.Core.Path.{◌≡◌, refl, ap}
use Prim.Native.Nat.{ℕ, ◌<◌, ◌≤◌}
use native.Mathlib.Omega.{arith}
use lib.Dec.{ltb}
use lib.ListN.{get_or, replicate}
use Rattle.bodies.specs.declared.Body.{Body}
use Rattle.bodies.specs.declared.Body.TheVariants.{Empty}
use Rattle.lists.specs.Below.{all_below}
use Rattle.lists.proofs.Laws.{set_below_inside}
use Rattle.queues.specs.declared.Slot.{Slot}
use Rattle.queues.specs.Queue.{no_slot}
use Rattle.station_spec.specs.declared.Station.{Station}
use Rattle.station_spec.specs.State.{acked_of, lane_at}
use Rattle.station_spec.specs.Turn.{airs, row_of, broadcast_ends, may_start, started_body, after_turn, turn_report}
use Rattle.station_spec.proofs.TurnCells.{turn_body}

-- a row is aired where every lane has a body, and the broadcast ends where every station is
-- acknowledged
pub airs_each : (s : Station) → airs s ≡ all_below s.n (λ k. ltb 0 (lane_at s k).len)
unfolding airs
airs_each s = refl

pub ends_each : (s : Station) → broadcast_ends s ≡ all_below s.n (acked_of s)
unfolding broadcast_ends
ends_each s = refl

-- the body that starts
pub started_waits : (s : Station) → may_start s ≡ false → started_body s ≡ Empty
unfolding started_body
started_waits s e = rw e (go (broadcast_ends s))
  where
    go : (b : Bool) → ◌≡◌ {A = Body} (cond b Empty Empty) Empty
    go true = refl
    go false = refl

-- the body that the turn leaves
pub body_ends : (s : Station) → broadcast_ends s ≡ true → (after_turn s).body ≡ started_body s
body_ends s e = rw e at (turn_body s)

pub body_stays : (s : Station) → broadcast_ends s ≡ false → (after_turn s).body ≡ s.body
body_stays s e = rw e at (turn_body s)

-- what it reports
pub report_started : (s : Station) → (turn_report s).started_body ≡ started_body s
unfolding turn_report
report_started s = refl

pub report_ended : (s : Station) → (turn_report s).ended ≡ broadcast_ends s
unfolding turn_report
report_ended s = refl

pub report_aired : (s : Station) → (turn_report s).aired ≡ airs s
unfolding turn_report
report_aired s = refl

pub report_row : (s : Station) → airs s ≡ true → (turn_report s).row ≡ row_of s
unfolding turn_report
report_row s e = rw e

-- the row that is aired
pub row_at : (s : Station) (k : ℕ) → k < s.n → s.n ≤ 16 → (get_or (row_of s) k no_slot).body ≡ (lane_at s k).first
unfolding row_of
row_at s k l b =
    ap
    (λ (x : Slot). x.body)
    (set_below_inside s.n (λ i. record { body = (lane_at s i).first }) (replicate 16 no_slot) k no_slot l (omega arith))
