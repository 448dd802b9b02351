-- What the loops of the readers come to: an array whose places below k are filled is, at the end,
-- the array of the definition.
use mathlib.Core.Path.{◌≡◌, refl, ap, ◌∙◌}
use mathlib.Core.Bool.{Bool, false}
use mathlib.Core.List.{List}
use Prim.Native.Nat.{ℕ, ◌+◌, ◌*◌}
use native.Mathlib.Numerals.{add-one}
use lib.ListN.{set, length, replicate}
use Rattle.bodies.specs.declared.Body.{Body}
use Rattle.lists.specs.Below.{set_below, tabulate}
use Rattle.station_bytes_spec.specs.Bytes.{byte_at, flag_at}
use Rattle.frame_spec.specs.declared.Record.{Record}
use Rattle.frame_spec.specs.Record.{no_record}
use Rattle.queues.specs.declared.Lane.{Lane}
use Rattle.queues.specs.declared.Slot.{Slot}
use Rattle.queues.specs.declared.Waiting.{Waiting}
use Rattle.queues.specs.Lane.{no_lane}
use Rattle.queues.specs.Queue.{no_slot}
use Rattle.station_spec.specs.declared.Station.{Station}
use Rattle.station_spec.specs.Absent.{no_station}
use Rattle.station_bytes_spec.specs.Body.{decode_body, decode_record}
use Rattle.station_bytes_spec.specs.Waiting.{decode_edits, decode_waiting}
use Rattle.station_bytes_spec.specs.Station.{cell_width, decode_lane, decode_cell, cell_in, waiting_place, decode_station, station_width}
use Rattle.station_bytes_spec.specs.Group.{decode_group}
use Rattle.station_bytes_spec.proofs.Bytes.{filled}

-- ---- one place more

module _ {A : Type 0} where
  pub set_below_none : (f : ℕ → A) (l : List A) → l ≡ set_below 0 f l
  unfolding set_below
  set_below_none f l = refl

  pub set_below_next : (k : ℕ) (f : ℕ → A) (l m : List A) (a : A) → m ≡ set_below k f l → a ≡ f k → set m k a ≡ set_below (k + 1) f l
  unfolding set_below
  set_below_next k f l m a h e = rw (add-one k, h, e)

  -- all places are filled
  pub all_filled : (n k : ℕ) (f : ℕ → A) (m l : List A) (d : A) → length l ≡ n → k ≡ n → m ≡ set_below k f l → m ≡ tabulate n f
  all_filled n k f m l d long e h = h ∙ ap (λ (j : ℕ). set_below j f l) e ∙ filled n f l d long

-- ---- arrays that a loop has filled

abbrev pub edit_in : List ℕ → ℕ → ℕ → Slot
edit_in b at i = record { body = decode_body b (at + 12 * i) }

pub edits_read :
    (b : List ℕ) (at : ℕ) (slots : List Slot) (i : ℕ) → i ≡ 32 → slots ≡ set_below i (edit_in b at) (replicate 32 no_slot) → slots ≡ decode_edits b at
unfolding decode_edits
edits_read b at slots i e h = all_filled 32 i (edit_in b at) slots (replicate 32 no_slot) no_slot refl e h

-- the five arrays of a station, read cell by cell below k
pub record CellsRead (b : List ℕ) (at k : ℕ) (acked held : List Bool) (labels : List ℕ) (table : List Record) (lanes : List Lane) : Type 0 where
  pub acked_read : acked ≡ set_below k (λ j. (cell_in b at j).acked) (replicate 16 false)
  pub held_read : held ≡ set_below k (λ j. (cell_in b at j).held) (replicate 16 false)
  pub labels_are : labels ≡ set_below k (λ j. (cell_in b at j).label) (replicate 16 0)
  pub table_read : table ≡ set_below k (λ j. (cell_in b at j).entry) (replicate 16 no_record)
  pub lanes_read : lanes ≡ set_below k (λ j. (cell_in b at j).lane) (replicate 16 no_lane)

pub cells_none : (b : List ℕ) (at : ℕ) → CellsRead b at 0 (replicate 16 false) (replicate 16 false) (replicate 16 0) (replicate 16 no_record) (replicate 16 no_lane)
cells_none b at =
    record {
      acked_read = set_below_none _ _;
      held_read = set_below_none _ _;
      labels_are = set_below_none _ _;
      table_read = set_below_none _ _;
      lanes_read = set_below_none _ _;
    }

module _ (b : List ℕ) (at k : ℕ) (acked held : List Bool) (labels : List ℕ) (table : List Record) (lanes : List Lane) (h : CellsRead b at k acked held labels table lanes) where
  abbrev cell : ℕ
  cell = at + 16 + cell_width * k

  pub cells_next :
      (r : Record) (l : Lane) → r ≡ decode_record b (cell + 28) → l ≡ decode_lane b cell →
      CellsRead b at (k + 1) (set acked k (flag_at b cell)) (set held k (flag_at b (cell + 1))) (set labels k (byte_at b (cell + 2))) (set table k r) (set lanes k l)
  unfolding decode_cell
  cells_next r l er el =
      record {
        acked_read = set_below_next k (λ j. (cell_in b at j).acked) (replicate 16 false) acked _ h.acked_read refl;
        held_read = set_below_next k (λ j. (cell_in b at j).held) (replicate 16 false) held _ h.held_read refl;
        labels_are = set_below_next k (λ j. (cell_in b at j).label) (replicate 16 0) labels _ h.labels_are refl;
        table_read = set_below_next k (λ j. (cell_in b at j).entry) (replicate 16 no_record) table r h.table_read er;
        lanes_read = set_below_next k (λ j. (cell_in b at j).lane) (replicate 16 no_lane) lanes l h.lanes_read el;
      }

  pub station_read :
      k ≡ 16 → (n own edition : ℕ) (body : Body) (waiting : Waiting) → n ≡ byte_at b at → own ≡ byte_at b (at + 1) → edition ≡ byte_at b (at + 3) →
      body ≡ decode_body b (at + 4) → waiting ≡ decode_waiting b (at + waiting_place) →
      ◌≡◌ {A = Station}
      (record {
        n = n;
        own = own;
        edition = edition;
        waiting = waiting;
        acked = acked;
        body = body;
        count = byte_at b (at + 2);
        labels = labels;
        held = held;
        table = table;
        lanes = lanes;
      })
      (decode_station b at)
  unfolding decode_station
  station_read e n own edition body waiting en eo ee eb ew =
      λ i. record {
        n = en i;
        own = eo i;
        edition = ee i;
        waiting = ew i;
        acked = all_filled 16 k (λ j. (cell_in b at j).acked) acked (replicate 16 false) false refl e h.acked_read i;
        body = eb i;
        count = byte_at b (at + 2);
        labels = all_filled 16 k (λ j. (cell_in b at j).label) labels (replicate 16 0) 0 refl e h.labels_are i;
        held = all_filled 16 k (λ j. (cell_in b at j).held) held (replicate 16 false) false refl e h.held_read i;
        table = all_filled 16 k (λ j. (cell_in b at j).entry) table (replicate 16 no_record) no_record refl e h.table_read i;
        lanes = all_filled 16 k (λ j. (cell_in b at j).lane) lanes (replicate 16 no_lane) no_lane refl e h.lanes_read i;
      }

pub group_read :
    (b : List ℕ) (k : ℕ) (group l : List Station) → length l ≡ 16 → k ≡ 16 → group ≡ set_below k (λ j. decode_station b (station_width * j)) l → group ≡ decode_group b
unfolding decode_group
group_read b k group l long e h = all_filled 16 k (λ j. decode_station b (station_width * j)) group l no_station long e h
