-- The places that include/relay.h gives, in its numbers. The round trips alone would let a field
-- move, as long as both ways move it; here each place is named.
use mathlib.Core.Path.{◌≡◌, refl}
use mathlib.Core.List.{List, [], ◌∷◌, ◌++◌}
use Prim.Native.Nat.{ℕ, ◌+◌, ◌*◌, ◌<◌}
use native.Mathlib.Omega.{arith}
use lib.ListN.{get_or, length, length-append}
use Rattle.bodies.specs.declared.Body.{Body}
use Rattle.bodies.specs.Body.{kind_of, event_of, argument_of, channel_of}
use Rattle.frame_spec.specs.Words.{word_at, word_bytes, unsigned}
use Rattle.frame_spec.specs.declared.Record.{Record}
use Rattle.queues.specs.Queue.{no_slot}
use Rattle.queues.specs.Waiting.{desk_count, waiting_at}
use Rattle.station_spec.specs.declared.Station.{Station}
use Rattle.station_spec.specs.State.{Cell, cell_of}
use Rattle.station_spec.specs.declared.TurnReport.{TurnReport}
use Rattle.station_spec.specs.Hearing.{no_taking}
use Rattle.group_spec.specs.declared.Report.{Report}
use Rattle.station_bytes_spec.specs.Bytes.{byte_at, flag_byte, as_byte, joined_below}
use Rattle.station_bytes_spec.specs.Body.{encode_body, encode_record}
use Rattle.station_bytes_spec.specs.Station.{station_width, encode_cell, encode_station}
use Rattle.station_bytes_spec.specs.Group.{group_width}
use Rattle.station_bytes_spec.specs.Reports.{turn_width, encode_turn, encode_taking, report_width, encode_report, reports_width}
use Rattle.station_bytes_spec.proofs.Bytes.{Stands, stands_left, stands_right, stands_word, stands_joined, first_byte, byte_small, length_word}
use Rattle.station_bytes_spec.proofs.Body.{BodyFits, length-body, body_bytes, body_words, RecordFits, labels_there, event_there, argument_there, four_there}
use Rattle.station_bytes_spec.proofs.Reports.{length-taking, length_takings}
use Rattle.station_bytes_spec.proofs.Waiting.{count_there, limit_there, first_there, edits_there}
use Rattle.station_bytes_spec.proofs.Station.{CellFits, StationFits, stands-four, stands_first, stands_second, stands_entry, stands-numbers, stands_body, stands_cell, stands_waiting}

-- RELAY_STATION_BYTES and the others
pub widths : (station_width ≡ 1492) × (group_width ≡ 23_872) × (turn_width ≡ 220) × (report_width ≡ 704) × (reports_width ≡ 11_264)
widths = (refl, refl, refl, refl, refl)

-- a body, and a record
pub record BodyPlaces (l : List ℕ) (at : ℕ) (b : Body) : Type 0 where
  pub kind : byte_at l at ≡ kind_of b
  pub channel : byte_at l (at + 1) ≡ channel_of b
  pub zero_bytes : (byte_at l (at + 2) ≡ 0) × (byte_at l (at + 3) ≡ 0)
  pub event : word_at l (at + 4) ≡ event_of b
  pub argument : word_at l (at + 8) ≡ unsigned (argument_of b)

pub body_places : (l : List ℕ) (at : ℕ) (b : Body) → BodyFits b → Stands l at (encode_body b) → BodyPlaces l at b
body_places l at b f h =
    let four = body_bytes l at b f h in
    let w = body_words l at b f h in
    record { kind = four.0; channel = four.1; zero_bytes = (four.2, four.3); event = w.0; argument = w.1 }

pub record RecordPlaces (l : List ℕ) (at : ℕ) (r : Record) : Type 0 where
  pub station : byte_at l at ≡ r.station
  pub count : byte_at l (at + 1) ≡ r.count
  pub kind : byte_at l (at + 2) ≡ kind_of r.body
  pub channel : byte_at l (at + 3) ≡ channel_of r.body
  pub event : word_at l (at + 4) ≡ event_of r.body
  pub argument : word_at l (at + 8) ≡ unsigned (argument_of r.body)
  pub labels : word_at l (at + 12) ≡ r.labels

pub record_places : (l : List ℕ) (at : ℕ) (r : Record) → RecordFits r → Stands l at (encode_record r) → RecordPlaces l at r
record_places l at r f h =
    let four = four_there l at r f h in
    record {
      station = four.0;
      count = four.1;
      kind = four.2;
      channel = four.3;
      event = event_there l at r f h;
      argument = argument_there l at r f h;
      labels = labels_there l at r f h;
    }

-- what a station has of one station, from a place on
pub record CellPlaces (l : List ℕ) (at : ℕ) (c : Cell) : Type 0 where
  pub acked : byte_at l at ≡ flag_byte c.acked
  pub held : byte_at l (at + 1) ≡ flag_byte c.held
  pub label : byte_at l (at + 2) ≡ c.label
  pub lane : byte_at l (at + 3) ≡ c.lane.len
  pub oldest : Stands l (at + 4) (encode_body c.lane.first)
  pub second : Stands l (at + 16) (encode_body c.lane.second)
  pub entry : Stands l (at + 28) (encode_record c.entry)

pub cell_places : (l : List ℕ) (at : ℕ) (c : Cell) → CellFits c → Stands l at (encode_cell c) → CellPlaces l at c
cell_places l at c f h =
    let four = stands-four c l at f h in
    record {
      acked = first_byte l at _ _ four;
      held = four.is 1 (omega arith);
      label = four.is 2 (omega arith);
      lane = four.is 3 (omega arith);
      oldest = stands_first c l at f h;
      second = stands_second c l at f h;
      entry = stands_entry c l at f h;
    }

-- a station, from a place on
pub record StationPlaces (l : List ℕ) (at : ℕ) (s : Station) : Type 0 where
  pub n : byte_at l at ≡ as_byte s.n
  pub own : byte_at l (at + 1) ≡ as_byte s.own
  pub count : byte_at l (at + 2) ≡ s.count
  pub edition : byte_at l (at + 3) ≡ as_byte s.edition
  pub body : Stands l (at + 4) (encode_body s.body)
  pub cell : (k : ℕ) → k < 16 → CellPlaces l (at + 16 + 44 * k) (cell_of s k)
  pub count_zero : byte_at l (at + 720) ≡ desk_count s.waiting 0
  pub limit : byte_at l (at + 720 + 1) ≡ s.waiting.limit
  pub count_one : byte_at l (at + 720 + 2) ≡ desk_count s.waiting 1
  pub one_first : byte_at l (at + 720 + 3) ≡ flag_byte s.waiting.one_first
  pub waiting_zero : (i : ℕ) → i < 32 → Stands l (at + 720 + 4 + 12 * i) (encode_body (waiting_at s.waiting 0 i))
  pub waiting_one : (i : ℕ) → i < 32 → Stands l (at + 720 + 388 + 12 * i) (encode_body (waiting_at s.waiting 1 i))

pub station_places : (l : List ℕ) (at : ℕ) (s : Station) → StationFits s → Stands l at (encode_station s) → StationPlaces l at s
station_places l at s f h =
    let numbers = stands-numbers s f l at h in
    let waiting = stands_waiting s f l at h in
    let counts = count_there s.waiting l (at + 720) f.waiting_fits waiting in
    let edits = edits_there s.waiting l (at + 720) f.waiting_fits waiting in
    record {
      n = first_byte l at _ _ numbers;
      own = numbers.is 1 (omega arith);
      count = numbers.is 2 (omega arith);
      edition = numbers.is 3 (omega arith);
      body = stands_body s f l at h;
      cell = λ k m. cell_places l (at + 16 + 44 * k) (cell_of s k) (f.cell_fits k m) (stands_cell s f l at h k m);
      count_zero = counts.0;
      limit = limit_there s.waiting l (at + 720) f.waiting_fits waiting;
      count_one = counts.1;
      one_first = first_there s.waiting l (at + 720) f.waiting_fits waiting;
      waiting_zero = edits.0;
      waiting_one = edits.1;
    }

-- the report of a turn, from a place on
pub record TurnPlaces (l : List ℕ) (at : ℕ) (t : TurnReport) : Type 0 where
  pub aired : byte_at l at ≡ flag_byte t.aired
  pub ended : byte_at l (at + 1) ≡ flag_byte t.ended
  pub ended_body : Stands l (at + 4) (encode_body t.ended_body)
  pub started_body : Stands l (at + 16) (encode_body t.started_body)
  pub row : (k : ℕ) → k < 16 → Stands l (at + 28 + 12 * k) (encode_body (get_or t.row k no_slot).body)

pub turn_places : (l : List ℕ) (at : ℕ) (t : TurnReport) → Stands l at (encode_turn t) → TurnPlaces l at t
unfolding encode_turn
turn_places l at t h =
    let four = flag_byte t.aired ∷ flag_byte t.ended ∷ 0 ∷ 0 ∷ [] in
    let ended = encode_body t.ended_body in
    let started = encode_body t.started_body in
    let row = joined_below 16 (λ k. encode_body (get_or t.row k no_slot).body) in
    let sixteen : length (four ++ ended) ≡ 16 = omega (arith, length-append four ended, length-body t.ended_body) in
    let all : length (four ++ ended ++ started) ≡ 28 = omega (arith, sixteen, length-append (four ++ ended) started, length-body t.started_body) in
    let before = stands_left l at (four ++ ended ++ started) row h in
    let begun = stands_left l at (four ++ ended) started before in
    let flags = stands_left l at four ended begun in
    record {
      aired = first_byte l at _ _ flags;
      ended = flags.is 1 (omega arith);
      ended_body = stands_right l at four ended 4 refl begun;
      started_body = stands_right l at (four ++ ended) started 16 sixteen before;
      row =
          stands_joined l (at + 28) 16 12 (λ k. encode_body (get_or t.row k no_slot).body) (λ k m. length-body (get_or t.row k no_slot).body)
          (stands_right l at (four ++ ended ++ started) row 28 all h);
    }

-- what a round reports of one station, from a place on
pub record ReportPlaces (l : List ℕ) (at : ℕ) (r : Report) : Type 0 where
  pub number : word_at l at ≡ as_byte r.takings_len
  pub taking : (i : ℕ) → i < 30 → Stands l (at + 4 + 16 * i) (word_bytes (get_or r.takings i no_taking).source ++ encode_body (get_or r.takings i no_taking).body)
  pub turn : TurnPlaces l (at + 484) r.turn

pub report_places : (l : List ℕ) (at : ℕ) (r : Report) → Stands l at (encode_report r) → ReportPlaces l at r
unfolding encode_report encode_taking
report_places l at r h =
    let count = word_bytes (as_byte r.takings_len) in
    let takings = joined_below 30 (λ i. encode_taking (get_or r.takings i no_taking)) in
    let long : length (count ++ takings) ≡ 484 = omega (arith, length-append count takings, length_word (as_byte r.takings_len), length_takings r) in
    let before = stands_left l at (count ++ takings) (encode_turn r.turn) h in
    record {
      number =
          stands_word l at (as_byte r.takings_len) (omega (arith, byte_small r.takings_len)) (stands_left l at count takings before);
      taking =
          stands_joined l (at + 4) 30 16 (λ i. encode_taking (get_or r.takings i no_taking)) (λ i m. length-taking (get_or r.takings i no_taking))
          (stands_right l at count takings 4 (length_word (as_byte r.takings_len)) before);
      turn = turn_places l (at + 484) r.turn (stands_right l at (count ++ takings) (encode_turn r.turn) 484 long h);
    }
