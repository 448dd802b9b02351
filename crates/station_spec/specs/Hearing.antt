-- Document 01, "A station and its calls", Hear: what one record does to the hearer, and a frame's
-- records in order.
use Rattle.std.specs.Prelude.{ℕ, max, ◌+◌, Bool, true, cond, not, ◌&&◌, ◌||◌, List, [], ◌∷◌, ◌++◌, leb, ltb, eqb}
use Rattle.bodies.specs.declared.Body.TheVariants.{Empty}
use Rattle.bodies.specs.Body.{is_empty, same_body}
use Rattle.bodies.specs.Refusals.{done, lane_full, conflict, refuse_number}
use Rattle.labels.specs.Label.{successor}
use Rattle.labels.specs.declared.Age.{Age}
use Rattle.labels.specs.declared.Age.TheVariants.{Newer, Same, Conflicting, Older}
use Rattle.labels.specs.Newer.{age_of}
use Rattle.labels.specs.Packing.{labels_over}
use Rattle.frame_spec.specs.declared.Record.{Record}
use Rattle.frame_spec.specs.Record.{record_label}
use Rattle.lists.specs.Below.{all_below}
use Rattle.station_spec.specs.declared.Station.{Station}
use Rattle.station_spec.specs.declared.Taking.{Taking}
use Rattle.queues.specs.Lane.{pushed}
use Rattle.station_spec.specs.State.{label_of, acked_of, held_of, record_of, lane_at}
use Rattle.station_spec.specs.State.{own_label, with_broadcast, with_cell}

-- two records of a station agree in all but own label and count: in the body, and in the labels of
-- the n stations (document 02, A4)
unfoldable pub agree : ℕ → Record → Record → Bool
agree n a b = same_body a.body b.body && all_below n (λ j. eqb (record_label a j) (record_label b j))

-- what a record is beside the one held of its station (source document 001, Algorithm 2, lines 6 to
-- 8)
abbrev pub age_in : Station → Record → Age
age_in s r =
    let k = r.station in
    let h = record_of s k in
    age_of (held_of s k) (record_label h k) h.count (own_label r) r.count (agree s.n h r)

-- the record's own label comes after this one
abbrev pub follows : ℕ → Record → Bool
follows label r = eqb (own_label r) (successor label)

-- it shows the next broadcast of its station: its own label comes after the hearer's label for that
-- station (line 14)
abbrev pub advances : Station → Record → Bool
advances s r = follows (label_of s r.station) r

-- its body is taken (line 17; Algorithm 3, line 4)
abbrev pub takes : Station → Record → Bool
takes s r = advances s r && not (is_empty r.body)

-- a seen record r in the place of the held one h, whose labels from n up stay (lines 9 to 11)
unfoldable pub replaced : ℕ → Record → Record → Record
replaced n h r =
    record { station = r.station; count = r.count; body = r.body; labels = labels_over n (record_label r) h.labels }

-- one more, and 255 stays 255
abbrev pub saturating_suc : ℕ → ℕ
saturating_suc count = cond (ltb count 255) (count + 1) 255

-- the hearer after a newer record: replaced, acknowledged, advanced, taken (lines 9 to 17). H1: a
-- record of a station that was not seen before is no discovery, for all N stations are known
unfoldable pub heard_newer : Station → Record → Station
heard_newer s r =
    let k = r.station in
    with_cell (with_broadcast s s.body (cond (advances s r) (saturating_suc s.count) s.count)) k
    (record {
      label = cond (advances s r) (successor (label_of s k)) (label_of s k);
      acked = acked_of s k || eqb (record_label r s.own) (label_of s s.own);
      held = true;
      entry = replaced s.n (record_of s k) r;
      lane = cond (takes s r) (pushed (lane_at s k) r.body) (lane_at s k);
    })

-- an entry that no taking uses
abbrev pub no_taking : Taking
no_taking = record { source = 0; body = Empty }

-- its body is to be taken, and the lane of its station has two already
abbrev pub overfills : Station → Record → Bool
overfills s r = takes s r && leb 2 (lane_at s r.station).len

-- a station while it hears: what it took so far, in the order heard, and the refusal of the first
-- refused frame
pub record Hearing : Type 0 where
  pub station : Station
  pub takings : List Taking
  pub refusal : ℕ

abbrev pub initial_hearing : Station → Hearing
initial_hearing s = record { station = s; takings = []; refusal = done }

-- what a record of another station does, by what it is. A conflicting one refuses the frame, and in
-- one frame 14 goes before 8
unfoldable pub heard_as : Hearing → Record → Age → Hearing
heard_as h r Newer =
    let s = h.station in
    record {
      station = heard_newer s r;
      takings = h.takings ++ cond (takes s r) (record { source = r.station; body = r.body } ∷ []) [];
      refusal = max h.refusal (refuse_number (overfills s r) lane_full done);
    }
heard_as h r Same = h
heard_as h r Conflicting = record { station = h.station; takings = h.takings; refusal = conflict }
heard_as h r Older = h

-- what one record does; one of the hearer itself does nothing
unfoldable pub hear_record : Hearing → Record → Hearing
hear_record h r = cond (eqb r.station h.station.own) h (heard_as h r (age_in h.station r))

-- a frame's records in order
unfoldable pub hear_records : Hearing → List Record → Hearing
hear_records h [] = h
hear_records h (r ∷ rs) = hear_records (hear_record h r) rs

-- one more frame; after a refused one none is heard, so that the first refused frame decides
unfoldable pub hear_frame : Hearing → List Record → Hearing
hear_frame h rs = cond (eqb h.refusal done) (hear_records h rs) h
