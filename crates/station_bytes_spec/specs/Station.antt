-- A station as bytes: a head (n, own number, count, edition, present body), sixteen cells, and the
-- waiting edits. Every field is kept whole, past a length and from N up too, so that decoding is
-- the inverse. include/relay.h gives the place of each field.
use Rattle.std.specs.Prelude.{ℕ, ◌+◌, ◌*◌, Bool, ◌&&◌, List, [], ◌∷◌, ◌++◌, ◌==◌, nat_le, length}
use Rattle.lists.specs.Below.{all_below, tabulate}
use Rattle.queues.specs.declared.Lane.{Lane}
use Rattle.station_spec.specs.declared.Station.{Station}
use Rattle.station_spec.specs.State.{Cell, cell_of}
use Rattle.station_bytes_spec.specs.Bytes.{byte_at, flag_at, flag_byte, as_byte, joined_below}
use Rattle.station_bytes_spec.specs.Body.{encode_body, decode_body, is_body, record_width, encode_record, decode_record}
use Rattle.station_bytes_spec.specs.Body.{is_record}
use Rattle.station_bytes_spec.specs.Waiting.{waiting_width, encode_waiting, decode_waiting, is_waiting}

-- what a station has of one station: whether it is acknowledged, whether a record of it is held,
-- its label, the length of its lane, the lane's two bodies, the record
abbrev pub cell_width : ℕ
cell_width = 28 + record_width

unfoldable pub encode_cell : Cell → List ℕ
encode_cell c =
    (flag_byte c.acked ∷ flag_byte c.held ∷ c.label ∷ c.lane.len ∷ [])
    ++ encode_body c.lane.first
    ++ encode_body c.lane.second
    ++ encode_record c.entry

unfoldable pub decode_lane : List ℕ → ℕ → Lane
decode_lane b at = record { len = byte_at b (at + 3); first = decode_body b (at + 4); second = decode_body b (at + 16) }

unfoldable pub decode_cell : List ℕ → ℕ → Cell
decode_cell b at =
    record {
      label = byte_at b (at + 2);
      acked = flag_at b at;
      held = flag_at b (at + 1);
      entry = decode_record b (at + 28);
      lane = decode_lane b at;
    }

unfoldable pub is_cell : List ℕ → ℕ → Bool
is_cell b at =
    nat_le (byte_at b at) 1
    && nat_le (byte_at b (at + 1)) 1
    && is_body b (at + 4)
    && is_body b (at + 16)
    && is_record b (at + 28)

-- the whole station
abbrev pub cells_width : ℕ
cells_width = cell_width * 16

-- where the waiting edits stand
abbrev pub waiting_place : ℕ
waiting_place = 16 + cells_width

abbrev pub station_width : ℕ
station_width = waiting_place + waiting_width

unfoldable pub encode_head : Station → List ℕ
encode_head s = (as_byte s.n ∷ as_byte s.own ∷ s.count ∷ as_byte s.edition ∷ []) ++ encode_body s.body

unfoldable pub encode_station : Station → List ℕ
encode_station s = encode_head s ++ joined_below 16 (λ k. encode_cell (cell_of s k)) ++ encode_waiting s.waiting

-- the cell of station k, in a station that stands at a place
abbrev pub cell_in : List ℕ → ℕ → ℕ → Cell
cell_in b at k = decode_cell b (at + 16 + cell_width * k)

unfoldable pub decode_station : List ℕ → ℕ → Station
decode_station b at =
    record {
      n = byte_at b at;
      own = byte_at b (at + 1);
      edition = byte_at b (at + 3);
      waiting = decode_waiting b (at + waiting_place);
      acked = tabulate 16 (λ k. (cell_in b at k).acked);
      body = decode_body b (at + 4);
      count = byte_at b (at + 2);
      labels = tabulate 16 (λ k. (cell_in b at k).label);
      held = tabulate 16 (λ k. (cell_in b at k).held);
      table = tabulate 16 (λ k. (cell_in b at k).entry);
      lanes = tabulate 16 (λ k. (cell_in b at k).lane);
    }

unfoldable pub is_station_at : List ℕ → ℕ → Bool
is_station_at b at =
    is_body b (at + 4)
    && all_below 16 (λ k. is_cell b (at + 16 + cell_width * k))
    && is_waiting b (at + waiting_place)

-- these bytes are a station
unfoldable pub is_station : List ℕ → Bool
is_station b = length b == station_width && is_station_at b 0
