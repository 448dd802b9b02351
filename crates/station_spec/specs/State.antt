-- Document 01, "A station and its calls": what a station has of station k, a station of which
-- something else is changed, and the fresh station. Only here is it said in which arrays a station
-- keeps what it has of the others.
use Rattle.std.specs.Prelude.{ℕ, Bool, true, false, List, get_or, set, replicate}
use Rattle.bodies.specs.declared.Body.{Body}
use Rattle.bodies.specs.declared.Body.TheVariants.{Empty}
use Rattle.labels.specs.Packing.{packed}
use Rattle.lists.specs.Below.{set_below, filter_map}
use Rattle.frame_spec.specs.declared.Record.{Record}
use Rattle.frame_spec.specs.Record.{record_label, no_record, framed}
use Rattle.queues.specs.declared.Lane.{Lane}
use Rattle.queues.specs.declared.Waiting.{Waiting}
use Rattle.station_spec.specs.declared.Setup.{Setup}
use Rattle.station_spec.specs.declared.Station.{Station}
use Rattle.queues.specs.Lane.{no_lane}
use Rattle.queues.specs.Waiting.{default_limit, none_waiting}

-- what a station has of station k: its label for it, whether it is acknowledged, whether the table
-- holds a record of it, that record, and its lane
pub record Cell : Type 0 where
  pub label : ℕ
  pub acked : Bool
  pub held : Bool
  pub entry : Record
  pub lane : Lane

unfoldable pub cell_of : Station → ℕ → Cell
cell_of s k =
    record {
      label = get_or s.labels k 0;
      acked = get_or s.acked k false;
      held = get_or s.held k false;
      entry = get_or s.table k no_record;
      lane = get_or s.lanes k no_lane;
    }

-- the label for station k
abbrev pub label_of : Station → ℕ → ℕ
label_of s k = (cell_of s k).label

-- station k is acknowledged
abbrev pub acked_of : Station → ℕ → Bool
acked_of s k = (cell_of s k).acked

-- the table holds a record of station k
abbrev pub held_of : Station → ℕ → Bool
held_of s k = (cell_of s k).held

-- that record
abbrev pub record_of : Station → ℕ → Record
record_of s k = (cell_of s k).entry

-- the lane of station k
abbrev pub lane_at : Station → ℕ → Lane
lane_at s k = (cell_of s k).lane

-- the own label of a record: the one for its station
abbrev pub own_label : Record → ℕ
own_label r = record_label r r.station

-- a cell with another label, another record, another lane
abbrev pub with_label : Cell → ℕ → Cell
with_label c label = record { label = label; acked = c.acked; held = c.held; entry = c.entry; lane = c.lane }

abbrev pub with_entry : Cell → Record → Cell
with_entry c r = record { label = c.label; acked = c.acked; held = c.held; entry = r; lane = c.lane }

abbrev pub with_lane : Cell → Lane → Cell
with_lane c lane = record { label = c.label; acked = c.acked; held = c.held; entry = c.entry; lane = lane }

-- a station with all else changed than its numbers n and own and its edition
abbrev pub changed : Station → Waiting → Body → ℕ → List Bool → List ℕ → List Bool → List Record → List Lane → Station
changed s waiting b count acked labels held table lanes =
    record {
      n = s.n;
      own = s.own;
      edition = s.edition;
      waiting = waiting;
      acked = acked;
      body = b;
      count = count;
      labels = labels;
      held = held;
      table = table;
      lanes = lanes;
    }

-- with other waiting edits
abbrev pub with_waiting : Station → Waiting → Station
with_waiting s w = changed s w s.body s.count s.acked s.labels s.held s.table s.lanes

-- with another body and count
abbrev pub with_broadcast : Station → Body → ℕ → Station
with_broadcast s b count = changed s s.waiting b count s.acked s.labels s.held s.table s.lanes

-- with other arrays
abbrev pub with_arrays : Station → List Bool → List ℕ → List Bool → List Record → List Lane → Station
with_arrays s = changed s s.waiting s.body s.count

-- with another cell for station k
unfoldable pub with_cell : Station → ℕ → Cell → Station
with_cell s k c =
    with_arrays s (set s.acked k c.acked) (set s.labels k c.label) (set s.held k c.held)
    (set s.table k c.entry) (set s.lanes k c.lane)

-- with other acknowledgements, or other lanes, of the stations below n
unfoldable pub with_acked : Station → (ℕ → Bool) → Station
with_acked s acked = with_arrays s (set_below s.n acked s.acked) s.labels s.held s.table s.lanes

unfoldable pub with_lanes : Station → (ℕ → Lane) → Station
with_lanes s lane = with_arrays s s.acked s.labels s.held s.table (set_below s.n lane s.lanes)

-- the records of the table in station order, as the station's frame carries them (source document
-- 001, Algorithm 2, line 4)
unfoldable pub sent_records : Station → List Record
sent_records s = filter_map s.n (held_of s) (λ k. framed s.n (record_of s k))

-- what is given where neither limit nor edition is named (document 02, A2 and A9)
abbrev pub sized : ℕ → Setup
sized n = record { n = n; limit = default_limit; edition = 0 }

-- what a station alone is given: a refused fresh call answers with it, and it stands in a fresh
-- group's places from N up
abbrev pub alone_setup : Setup
alone_setup = sized 1

-- the labels of a fresh station: 1 for itself, 0 for others
abbrev pub fresh_labels : ℕ → List ℕ
fresh_labels own = set (replicate 16 0) own 1

-- its own record, which has the same labels
abbrev pub fresh_record : ℕ → Record
fresh_record own = record { station = own; count = 0; body = Empty; labels = packed (fresh_labels own) }

-- the term "fresh": label 1 for itself and 0 for others, nothing counted, Empty as its body, nobody
-- but itself acknowledged, no record but its own, an Empty record standing in the other places of
-- the table (Algorithm 1, the initial values)
unfoldable pub fresh_station : Setup → ℕ → Station
fresh_station setup own =
    record {
      n = setup.n;
      own = own;
      edition = setup.edition;
      waiting = none_waiting setup.limit;
      acked = set (replicate 16 false) own true;
      body = Empty;
      count = 0;
      labels = fresh_labels own;
      held = set (replicate 16 false) own true;
      table = set (replicate 16 no_record) own (fresh_record own);
      lanes = replicate 16 no_lane;
    }
