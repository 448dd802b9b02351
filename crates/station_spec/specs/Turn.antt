-- Document 01, "A station and its calls", Turn: airing, the end of the broadcast and the next
-- start, the own record rewritten.
use Rattle.std.specs.Prelude.{Bool, cond, ◌&&◌, List, replicate, ltb, eqb}
use Rattle.bodies.specs.declared.Body.{Body}
use Rattle.bodies.specs.declared.Body.TheVariants.{Empty, Neutral}
use Rattle.bodies.specs.Body.{is_empty}
use Rattle.labels.specs.Label.{successor}
use Rattle.labels.specs.Packing.{labels_over}
use Rattle.frame_spec.specs.declared.Record.{Record}
use Rattle.lists.specs.Below.{all_below, set_below}
use Rattle.queues.specs.declared.Slot.{Slot}
use Rattle.station_spec.specs.declared.Station.{Station}
use Rattle.station_spec.specs.declared.TurnReport.{TurnReport}
use Rattle.queues.specs.Lane.{pushed, popped}
use Rattle.queues.specs.Queue.{no_slot}
use Rattle.queues.specs.Waiting.{waiting_count, next_edit, without_next}
use Rattle.station_spec.specs.State.{cell_of, label_of, acked_of, record_of, lane_at}
use Rattle.station_spec.specs.State.{with_label, with_entry, with_lane, with_waiting, with_broadcast}
use Rattle.station_spec.specs.State.{with_cell, with_acked, with_lanes}

-- every lane has a body, so a row is aired (source document 001, Algorithm 3, lines 5 to 9; H2:
-- there at each delivery, here at the turn, one row)
unfoldable pub airs : Station → Bool
airs s = all_below s.n (λ k. ltb 0 (lane_at s k).len)

-- the row: the oldest body of each lane
unfoldable pub row_of : Station → List Slot
row_of s = set_below s.n (λ k. record { body = (lane_at s k).first }) (replicate 16 no_slot)

-- the station after the airing step
unfoldable pub after_airing : Station → Station
after_airing s = cond (airs s) (with_lanes s (λ k. popped (lane_at s k))) s

-- all N are acknowledged, so the broadcast ends (Algorithm 2, line 18)
unfoldable pub broadcast_ends : Station → Bool
broadcast_ends s = all_below s.n (acked_of s)

-- the own lane is empty after the airing step, so a body may start (H3: the paper starts what is
-- queued whenever a broadcast ends, line 21)
abbrev pub may_start : Station → Bool
may_start s = eqb (lane_at (after_airing s) s.own).len 0

-- an edit waits, and may start
abbrev pub starts_edit : Station → Bool
starts_edit s = broadcast_ends s && (may_start s && ltb 0 (waiting_count s.waiting))

-- what starts where the broadcast ends: the oldest waiting edit of the desk that is next, Neutral
-- where none waits (Algorithm 3, line 11), Empty where the own lane is not empty (Algorithm 2,
-- lines 21 to 24)
unfoldable pub started_body : Station → Body
started_body s =
    cond (broadcast_ends s)
    (cond (may_start s) (cond (ltb 0 (waiting_count s.waiting)) (next_edit s.waiting) Neutral) Empty) Empty

-- the station with its broadcast ended and one of another body begun: nothing counted, nobody but
-- itself acknowledged, its own label the next (lines 19 and 20)
unfoldable pub begins : Station → Body → Station
begins s b =
    let t = with_acked (with_broadcast s b 0) (λ k. eqb k s.own) in
    with_cell t s.own (with_label (cell_of t s.own) (successor (label_of s s.own)))

-- a body that starts is taken into the own lane, unless it is Empty
unfoldable pub takes_own : Station → Body → Station
takes_own s b =
    cond (is_empty b) s
    (with_cell s s.own (with_lane (cell_of s s.own) (pushed (lane_at s s.own) b)))

-- the station after the airing, the end and the start, before its own record is rewritten
unfoldable pub after_end : Station → Station
after_end s =
    cond (broadcast_ends s)
    (with_waiting (takes_own (begins (after_airing s) (started_body s)) (started_body s))
    (cond (starts_edit s) (without_next s.waiting) s.waiting))
    (after_airing s)

-- the own record with the station's present values; its labels from n up stay (lines 25 and 26)
unfoldable pub own_record : Station → Record
own_record s =
    record {
      station = s.own;
      count = s.count;
      body = s.body;
      labels = labels_over s.n (label_of s) (record_of s s.own).labels;
    }

unfoldable pub with_own_record : Station → Station
with_own_record s = with_cell s s.own (with_entry (cell_of s s.own) (own_record s))

-- the station after its turn
unfoldable pub after_turn : Station → Station
after_turn s = with_own_record (after_end s)

-- what the turn reports
unfoldable pub turn_report : Station → TurnReport
turn_report s =
    record {
      aired = airs s;
      row = cond (airs s) (row_of s) (replicate 16 no_slot);
      ended = broadcast_ends s;
      ended_body = cond (broadcast_ends s) s.body Empty;
      started_body = started_body s;
    }
