-- A station there and back. Each part has four laws: its length; what stands in a list as its
-- encoding is decoded to it, and is accepted; accepted bytes are the encoding of what they are
-- decoded to. The station's laws are made of those of its parts, at any place of a list, so that a
-- group's are made of them.
use mathlib.Core.Path.{◌≡◌, refl, ap, ap₂, ◌∙◌}
use mathlib.Core.Bool.{true, false, ◌&&◌}
use mathlib.Core.List.{List, [], ◌∷◌, ◌++◌}
use Prim.Native.Nat.{ℕ, ◌+◌, ◌*◌, ◌<◌, ◌≤◌}
use native.Mathlib.Omega.{arith}
use lib.Dec.{eqb, leb}
use lib.ListN.{length, length-append}
use lib.Seq.{take_all}
use borrow.Author.Tests.{eqb-true, eq-eqb}
use Rattle.lists.specs.Below.{all_below}
use Rattle.lists.proofs.Laws.{and_both, both, all_below_at, all_below_make, tabulate_at}
use Rattle.frame_spec.specs.Record.{no_record}
use Rattle.queues.specs.Lane.{no_lane}
use Rattle.station_spec.specs.declared.Station.{Station}
use Rattle.station_spec.specs.State.{Cell, cell_of}
use Rattle.station_bytes_spec.specs.Bytes.{byte_at, flag_byte, as_byte, span, joined_below}
use Rattle.station_bytes_spec.specs.Body.{encode_body, is_body, record_width, encode_record, is_record}
use Rattle.station_bytes_spec.specs.Waiting.{waiting_width, encode_waiting, decode_waiting, is_waiting}
use Rattle.station_bytes_spec.specs.Station.{cell_width, encode_cell, decode_lane, decode_cell, is_cell, cells_width, waiting_place, station_width, encode_head, encode_station, cell_in, decode_station, is_station_at, is_station}
use Rattle.station_bytes_spec.proofs.Bytes.{Stands, AllBytes, stands_whole, stands_left, stands_right, first_byte, joined_long, joined_ext, stands_joined, span_join, spans_joined, four_span, flag_read, flag_small, flag_back, byte_same, tabulate_is}
use Rattle.station_bytes_spec.proofs.Body.{BodyFits, length-body, body_decoded, body_accepted, body_encoded, RecordFits, length-record, record_decoded, record_accepted, record_encoded}
use Rattle.station_bytes_spec.proofs.Waiting.{WaitingFits, length_waiting, waiting_decoded, waiting_accepted, waiting_encoded}

-- ---- a cell

pub record CellFits (c : Cell) : Type 0 where
  pub entry_fits : RecordFits c.entry
  pub first_fits : BodyFits c.lane.first
  pub second_fits : BodyFits c.lane.second

module _ (c : Cell) where
  abbrev four : List ℕ
  four = flag_byte c.acked ∷ flag_byte c.held ∷ c.label ∷ c.lane.len ∷ []

  abbrev sixteen : List ℕ
  sixteen = four ++ encode_body c.lane.first

  abbrev before : List ℕ
  before = sixteen ++ encode_body c.lane.second

  length-sixteen : length sixteen ≡ 16
  length-sixteen = omega (arith, length-body c.lane.first)

  length_before : length before ≡ 28
  length_before = omega (arith, length-append sixteen (encode_body c.lane.second), length-sixteen, length-body c.lane.second)

  pub length_cell : length (encode_cell c) ≡ cell_width
  unfolding encode_cell
  length_cell = length-append before (encode_record c.entry) ∙ ap₂ ◌+◌ length_before (length-record c.entry)

  module _ (l : List ℕ) (at : ℕ) (f : CellFits c) (h : Stands l at (encode_cell c)) where
    pub stands_entry : Stands l (at + 28) (encode_record c.entry)
    unfolding encode_cell
    stands_entry = stands_right l at before (encode_record c.entry) 28 length_before h

    stands-before : Stands l at before
    unfolding encode_cell
    stands-before = stands_left l at before (encode_record c.entry) h

    pub stands_second : Stands l (at + 16) (encode_body c.lane.second)
    stands_second = stands_right l at sixteen (encode_body c.lane.second) 16 length-sixteen stands-before

    stands-sixteen : Stands l at sixteen
    stands-sixteen = stands_left l at sixteen (encode_body c.lane.second) stands-before

    pub stands_first : Stands l (at + 4) (encode_body c.lane.first)
    stands_first = stands_right l at four (encode_body c.lane.first) 4 refl stands-sixteen

    pub stands-four : Stands l at four
    stands-four = stands_left l at four (encode_body c.lane.first) stands-sixteen

    pub cell_decoded : decode_cell l at ≡ c
    unfolding decode_cell decode_lane
    cell_decoded =
        λ i. record {
          label = stands-four.is 2 (omega arith) i;
          acked = (ap (λ (x : ℕ). eqb x 1) (first_byte l at _ _ stands-four) ∙ flag_read c.acked) i;
          held = (ap (λ (x : ℕ). eqb x 1) (stands-four.is 1 (omega arith)) ∙ flag_read c.held) i;
          entry = record_decoded l (at + 28) c.entry f.entry_fits stands_entry i;
          lane =
              record {
                len = stands-four.is 3 (omega arith) i;
                first = body_decoded l (at + 4) c.lane.first f.first_fits stands_first i;
                second = body_decoded l (at + 16) c.lane.second f.second_fits stands_second i;
              };
        }

    pub cell_accepted : is_cell l at ≡ true
    unfolding is_cell
    cell_accepted =
        and_both
        (and_both
        (and_both
        (and_both
        (ap (λ (x : ℕ). leb x 1) (first_byte l at _ _ stands-four) ∙ flag_small c.acked)
        (ap (λ (x : ℕ). leb x 1) (stands-four.is 1 (omega arith)) ∙ flag_small c.held))
        (body_accepted l (at + 4) c.lane.first f.first_fits stands_first))
        (body_accepted l (at + 16) c.lane.second f.second_fits stands_second))
        (record_accepted l (at + 28) c.entry f.entry_fits stands_entry)

module _ (l : List ℕ) (bytes : AllBytes l) (at : ℕ) (room : at + cell_width ≤ length l) where
  pub cell_encoded : is_cell l at ≡ true → encode_cell (decode_cell l at) ≡ span at cell_width l
  unfolding encode_cell decode_cell decode_lane is_cell
  cell_encoded h =
      let t₁ = leb (byte_at l at) 1 in
      let t₂ = leb (byte_at l (at + 1)) 1 in
      let t₃ = is_body l (at + 4) in
      let t₄ = is_body l (at + 16) in
      let h₅ = both (t₁ && t₂ && t₃ && t₄) (is_record l (at + 28)) h in
      let h₄ = both (t₁ && t₂ && t₃) t₄ h₅.0 in
      let h₃ = both (t₁ && t₂) t₃ h₄.0 in
      let h₂ = both t₁ t₂ h₃.0 in
      let acked = flag_back (byte_at l at) h₂.0 in
      let held = flag_back (byte_at l (at + 1)) h₂.1 in
      let first = body_encoded l bytes (at + 4) (omega arith) h₃.1 in
      let second = body_encoded l bytes (at + 16) (omega arith) h₄.1 in
      let entry = record_encoded l bytes (at + 28) (omega arith) h₅.1 in
      (λ i. (acked i ∷ held i ∷ byte_at l (at + 2) ∷ byte_at l (at + 3) ∷ []) ++ first i ++ second i ++ entry i)
      ∙ ap (λ (r : List ℕ). r ++ span (at + 4) 12 l ++ span (at + 16) 12 l ++ span (at + 28) record_width l) (four_span l at (omega arith))
      ∙ ap (λ (r : List ℕ). r ++ span (at + 16) 12 l ++ span (at + 28) record_width l) (span_join l at 4 12 16 refl)
      ∙ ap (λ (r : List ℕ). r ++ span (at + 28) record_width l) (span_join l at 16 12 28 refl)
      ∙ span_join l at 28 record_width cell_width refl

-- ---- the station

-- what the types of a station say of it, and that N, its own number, its edition, the numbers of
-- waiting edits and their limit are bytes
pub record StationFits (s : Station) : Type 0 where
  pub n_byte : s.n < 256
  pub own_byte : s.own < 256
  pub edition_byte : s.edition < 256
  pub body_fits : BodyFits s.body
  pub acked_long : length s.acked ≡ 16
  pub labels_long : length s.labels ≡ 16
  pub held_long : length s.held ≡ 16
  pub table_long : length s.table ≡ 16
  pub lanes_long : length s.lanes ≡ 16
  pub cell_fits : (k : ℕ) → k < 16 → CellFits (cell_of s k)
  pub waiting_fits : WaitingFits s.waiting

module _ (s : Station) where
  abbrev cells : List ℕ
  cells = joined_below 16 (λ k. encode_cell (cell_of s k))

  abbrev rest : List ℕ
  rest = encode_head s ++ cells

  length_head : length (encode_head s) ≡ 16
  unfolding encode_head
  length_head = omega (arith, length-body s.body)

  length_rest : length rest ≡ waiting_place
  length_rest =
      length-append (encode_head s) cells
      ∙ ap₂ ◌+◌ length_head (joined_long 16 cell_width (λ k. encode_cell (cell_of s k)) (λ k m. length_cell (cell_of s k)))

  pub length_station : length (encode_station s) ≡ station_width
  unfolding encode_station
  length_station = length-append rest (encode_waiting s.waiting) ∙ ap₂ ◌+◌ length_rest (length_waiting s.waiting)

  module _ (f : StationFits s) (l : List ℕ) (at : ℕ) (h : Stands l at (encode_station s)) where
    pub stands_waiting : Stands l (at + waiting_place) (encode_waiting s.waiting)
    unfolding encode_station
    stands_waiting = stands_right l at rest (encode_waiting s.waiting) waiting_place length_rest h

    stands-rest : Stands l at rest
    unfolding encode_station
    stands-rest = stands_left l at rest (encode_waiting s.waiting) h

    pub stands_cell : (k : ℕ) → k < 16 → Stands l (at + 16 + cell_width * k) (encode_cell (cell_of s k))
    stands_cell k m =
        stands_joined l (at + 16) 16 cell_width (λ j. encode_cell (cell_of s j)) (λ j q. length_cell (cell_of s j))
        (stands_right l at (encode_head s) cells 16 length_head stands-rest) k m

    stands_head : Stands l at (encode_head s)
    stands_head = stands_left l at (encode_head s) cells stands-rest

    abbrev numbers : List ℕ
    numbers = as_byte s.n ∷ as_byte s.own ∷ s.count ∷ as_byte s.edition ∷ []

    pub stands-numbers : Stands l at numbers
    unfolding encode_head
    stands-numbers = stands_left l at numbers (encode_body s.body) stands_head

    pub stands_body : Stands l (at + 4) (encode_body s.body)
    unfolding encode_head
    stands_body = stands_right l at numbers (encode_body s.body) 4 refl stands_head

    cell_there : (k : ℕ) → k < 16 → cell_in l at k ≡ cell_of s k
    cell_there k m = cell_decoded (cell_of s k) l (at + 16 + cell_width * k) (f.cell_fits k m) (stands_cell k m)

    pub decoded_at : decode_station l at ≡ s
    unfolding decode_station cell_of
    decoded_at =
        λ i. record {
          n = (first_byte l at _ _ stands-numbers ∙ byte_same s.n f.n_byte) i;
          own = (stands-numbers.is 1 (omega arith) ∙ byte_same s.own f.own_byte) i;
          edition = (stands-numbers.is 3 (omega arith) ∙ byte_same s.edition f.edition_byte) i;
          waiting = waiting_decoded s.waiting l (at + waiting_place) f.waiting_fits stands_waiting i;
          acked = tabulate_is 16 (λ k. (cell_in l at k).acked) s.acked false f.acked_long (λ k m. ap (λ (c : Cell). c.acked) (cell_there k m)) i;
          body = body_decoded l (at + 4) s.body f.body_fits stands_body i;
          count = stands-numbers.is 2 (omega arith) i;
          labels = tabulate_is 16 (λ k. (cell_in l at k).label) s.labels 0 f.labels_long (λ k m. ap (λ (c : Cell). c.label) (cell_there k m)) i;
          held = tabulate_is 16 (λ k. (cell_in l at k).held) s.held false f.held_long (λ k m. ap (λ (c : Cell). c.held) (cell_there k m)) i;
          table = tabulate_is 16 (λ k. (cell_in l at k).entry) s.table no_record f.table_long (λ k m. ap (λ (c : Cell). c.entry) (cell_there k m)) i;
          lanes = tabulate_is 16 (λ k. (cell_in l at k).lane) s.lanes no_lane f.lanes_long (λ k m. ap (λ (c : Cell). c.lane) (cell_there k m)) i;
        }

    pub accepted_at : is_station_at l at ≡ true
    unfolding is_station_at
    accepted_at =
        and_both
        (and_both
        (body_accepted l (at + 4) s.body f.body_fits stands_body)
        (all_below_make 16 (λ k. is_cell l (at + 16 + cell_width * k))
        (λ k m. cell_accepted (cell_of s k) l (at + 16 + cell_width * k) (f.cell_fits k m) (stands_cell k m))))
        (waiting_accepted s.waiting l (at + waiting_place) f.waiting_fits stands_waiting)

  -- what was encoded is decoded to the station, and is accepted
  pub station_decoded : StationFits s → decode_station (encode_station s) 0 ≡ s
  station_decoded f = decoded_at f (encode_station s) 0 (stands_whole (encode_station s))

  pub station_accepted : StationFits s → is_station (encode_station s) ≡ true
  unfolding is_station
  station_accepted f = and_both (eq-eqb _ _ length_station) (accepted_at f (encode_station s) 0 (stands_whole (encode_station s)))

module _ (l : List ℕ) (bytes : AllBytes l) (at : ℕ) (room : at + station_width ≤ length l) where
  cell_read : (k : ℕ) → k < 16 → cell_of (decode_station l at) k ≡ cell_in l at k
  unfolding cell_of decode_station
  cell_read k m =
      λ i. record {
        label = tabulate_at 16 (λ j. (cell_in l at j).label) k 0 m i;
        acked = tabulate_at 16 (λ j. (cell_in l at j).acked) k false m i;
        held = tabulate_at 16 (λ j. (cell_in l at j).held) k false m i;
        entry = tabulate_at 16 (λ j. (cell_in l at j).entry) k no_record m i;
        lane = tabulate_at 16 (λ j. (cell_in l at j).lane) k no_lane m i;
      }

  head_encoded : is_body l (at + 4) ≡ true → encode_head (decode_station l at) ≡ span at 16 l
  unfolding encode_head decode_station
  head_encoded right =
      let body = body_encoded l bytes (at + 4) (omega arith) right in
      (λ i.
      (byte_same (byte_at l at) (bytes.small at) i
      ∷ byte_same (byte_at l (at + 1)) (bytes.small (at + 1)) i
      ∷ byte_at l (at + 2)
      ∷ byte_same (byte_at l (at + 3)) (bytes.small (at + 3)) i
      ∷ [])
      ++ body i)
      ∙ ap (λ (r : List ℕ). r ++ span (at + 4) 12 l) (four_span l at (omega arith))
      ∙ span_join l at 4 12 16 refl

  waiting_read : (decode_station l at).waiting ≡ decode_waiting l (at + waiting_place)
  unfolding decode_station
  waiting_read = refl

  -- accepted bytes are the encoding of what they are decoded to
  pub encoded_at : is_station_at l at ≡ true → encode_station (decode_station l at) ≡ span at station_width l
  unfolding encode_station is_station_at
  encoded_at h =
      let t₁ = is_body l (at + 4) in
      let t₂ = all_below 16 (λ k. is_cell l (at + 16 + cell_width * k)) in
      let h₃ = both (t₁ && t₂) (is_waiting l (at + waiting_place)) h in
      let h₂ = both t₁ t₂ h₃.0 in
      let head = head_encoded h₂.0 in
      let cells =
      joined_ext 16 (λ k. encode_cell (cell_of (decode_station l at) k)) (λ k. span (at + 16 + cell_width * k) cell_width l)
      (λ k m.
      ap encode_cell (cell_read k m)
      ∙ cell_encoded l bytes (at + 16 + cell_width * k) (omega arith) (all_below_at 16 (λ j. is_cell l (at + 16 + cell_width * j)) h₂.1 k m))
      ∙ spans_joined l (at + 16) 16 cell_width in
      let waiting = ap encode_waiting waiting_read ∙ waiting_encoded l bytes (at + waiting_place) (omega arith) h₃.1 in
      (λ i. head i ++ cells i ++ waiting i)
      ∙ ap (λ (r : List ℕ). r ++ span (at + waiting_place) waiting_width l) (span_join l at 16 cells_width waiting_place refl)
      ∙ span_join l at waiting_place waiting_width station_width refl

pub station_encoded : (l : List ℕ) → AllBytes l → is_station l ≡ true → encode_station (decode_station l 0) ≡ l
unfolding is_station
station_encoded l bytes h =
    let tests = both (eqb (length l) station_width) (is_station_at l 0) h in
    let long : length l ≡ station_width = eqb-true _ _ tests.0 in
    encoded_at l bytes 0 (omega arith) tests.1 ∙ take_all station_width l (omega arith)
