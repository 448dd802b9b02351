-- What each setter of a station sets and what it leaves: a cell that is set reads back, every other
-- cell is as before, and so is all that the setter does not name. A station has sixteen places by
-- its type, and setters keep them. Only these laws open the arrays of a station; all others cite
-- them.
use Prim.Native.Nat.{ℕ, ◌≤◌, ◌<◌}
use mathlib.Core.Bool.{Bool, true, false}
use mathlib.Core.List.{List}
use mathlib.Core.Path.{◌≡◌, refl, sym, ◌∙◌}
use native.Mathlib.Decide.{dec_lt}
use native.Mathlib.Omega.{arith}
use lib.ListN.{get_or, set, length, replicate, length-set, get_or-replicate}
use lib.Seq.{get_or-set_same, get_or-set_other, set-get_or, ext_get_or}
use Rattle.bodies.specs.declared.Body.{Body}
use Rattle.bodies.specs.declared.Body.TheVariants.{Empty}
use Rattle.labels.proofs.LabelLaws.{all_labels, at_all}
use Rattle.labels.specs.Packing.{labels_over}
use Rattle.labels.proofs.Packing.{packed_whole}
use Rattle.frame_spec.specs.declared.Record.{Record}
use Rattle.frame_spec.specs.Record.{record_label, no_record}
use Rattle.frame_spec.specs.Calls.{table_records}
use Rattle.frame_spec.proofs.Labels.{label_packed}
use Rattle.lists.specs.Below.{set_below}
use Rattle.lists.proofs.Laws.{length-set_below, set_below_inside, set_below_above}
use Rattle.lists.proofs.Keeps.{set_keeps}
use Rattle.queues.specs.declared.Lane.{Lane}
use Rattle.queues.specs.declared.Waiting.{Waiting}
use Rattle.queues.specs.Lane.{no_lane}
use Rattle.queues.specs.Waiting.{none_waiting}
use Rattle.queues.proofs.WaitingLaws.{WaitingSized, none_sized}
use Rattle.station_spec.specs.declared.Setup.{Setup}
use Rattle.station_spec.specs.declared.Station.{Station}
use Rattle.station_spec.specs.State.{Cell, cell_of, label_of, acked_of, held_of, record_of, lane_at, with_label, with_entry, with_lane, with_waiting, with_broadcast, with_arrays, with_cell, with_acked, with_lanes, sent_records, fresh_labels, fresh_record, fresh_station}

-- the lengths that a station's arrays have by their types: sixteen places, and the slots of the
-- waiting edits
pub record Shaped (s : Station) : Type 0 where
  pub acked : length s.acked ≡ 16
  pub labels : length s.labels ≡ 16
  pub held : length s.held ≡ 16
  pub table : length s.table ≡ 16
  pub lanes : length s.lanes ≡ 16
  pub waiting : WaitingSized s.waiting

-- what a station has besides its cells
pub record Self (s : Station) (size number agreed : ℕ) (edits : Waiting) (shown : Body) (counted : ℕ) : Type 0 where
  pub n : s.n ≡ size
  pub own : s.own ≡ number
  pub edition : s.edition ≡ agreed
  pub waiting : s.waiting ≡ edits
  pub body : s.body ≡ shown
  pub count : s.count ≡ counted

-- another station has the same
abbrev pub SameSelf : Station → Station → Type 0
SameSelf s t = Self s t.n t.own t.edition t.waiting t.body t.count

pub self_refl : (s : Station) → SameSelf s s
self_refl s = record { n = refl; own = refl; edition = refl; waiting = refl; body = refl; count = refl }

-- a cell with another acknowledgement
abbrev pub with_ack : Cell → Bool → Cell
with_ack c b = record { label = c.label; acked = b; held = c.held; entry = c.entry; lane = c.lane }

module _ (s : Station) where
  -- other waiting edits
  module _ (w : Waiting) where
    pub waiting_cell : (k : ℕ) → cell_of (with_waiting s w) k ≡ cell_of s k
    unfolding cell_of
    waiting_cell k = refl

    pub waiting_shaped : WaitingSized w → Shaped s → Shaped (with_waiting s w)
    unfolding cell_of
    waiting_shaped l c =
        record {
          acked = c.acked;
          labels = c.labels;
          held = c.held;
          table = c.table;
          lanes = c.lanes;
          waiting = l;
        }

  -- another body and count
  module _ (b : Body) (count : ℕ) where
    pub broadcast_cell : (k : ℕ) → cell_of (with_broadcast s b count) k ≡ cell_of s k
    unfolding cell_of
    broadcast_cell k = refl

    pub broadcast_shaped : Shaped s → Shaped (with_broadcast s b count)
    unfolding cell_of
    broadcast_shaped c =
        record {
          acked = c.acked;
          labels = c.labels;
          held = c.held;
          table = c.table;
          lanes = c.lanes;
          waiting = c.waiting;
        }

  -- another cell
  module _ (k : ℕ) (c : Cell) where
    pub cell_self : SameSelf (with_cell s k c) s
    unfolding with_cell
    cell_self = record { n = refl; own = refl; edition = refl; waiting = refl; body = refl; count = refl }

    pub cell_here : Shaped s → k < 16 → cell_of (with_cell s k c) k ≡ c
    unfolding cell_of with_cell
    cell_here shape l =
        rw (
          get_or-set_same s.labels k c.label 0 (omega (arith, shape.labels)),
          get_or-set_same s.acked k c.acked false (omega (arith, shape.acked)),
          get_or-set_same s.held k c.held false (omega (arith, shape.held)),
          get_or-set_same s.table k c.entry no_record (omega (arith, shape.table)),
          get_or-set_same s.lanes k c.lane no_lane (omega (arith, shape.lanes)),
        )

    pub cell_other : (j : ℕ) → (j ≡ k → ⊥) → cell_of (with_cell s k c) j ≡ cell_of s j
    unfolding cell_of with_cell
    cell_other j d =
        rw (
          get_or-set_other s.labels k j c.label 0 d,
          get_or-set_other s.acked k j c.acked false d,
          get_or-set_other s.held k j c.held false d,
          get_or-set_other s.table k j c.entry no_record d,
          get_or-set_other s.lanes k j c.lane no_lane d,
        )

    -- where only one part of the cell is another, the other arrays stay
    pub cell_label : (x : ℕ) → c ≡ with_label (cell_of s k) x → with_cell s k c ≡ with_arrays s s.acked (set s.labels k x) s.held s.table s.lanes
    unfolding cell_of with_cell
    cell_label x e = rw (e, set-get_or s.acked k false, set-get_or s.held k false, set-get_or s.table k no_record, set-get_or s.lanes k no_lane)

    pub cell_entry : (r : Record) → c ≡ with_entry (cell_of s k) r → with_cell s k c ≡ with_arrays s s.acked s.labels s.held (set s.table k r) s.lanes
    unfolding cell_of with_cell
    cell_entry r e = rw (e, set-get_or s.acked k false, set-get_or s.labels k 0, set-get_or s.held k false, set-get_or s.lanes k no_lane)

    pub cell_lane : (l : Lane) → c ≡ with_lane (cell_of s k) l → with_cell s k c ≡ with_arrays s s.acked s.labels s.held s.table (set s.lanes k l)
    unfolding cell_of with_cell
    cell_lane l e = rw (e, set-get_or s.acked k false, set-get_or s.labels k 0, set-get_or s.held k false, set-get_or s.table k no_record)

    pub cell_shaped : Shaped s → Shaped (with_cell s k c)
    unfolding cell_of with_cell
    cell_shaped shape =
        record {
          acked = length-set s.acked k c.acked ∙ shape.acked;
          labels = length-set s.labels k c.label ∙ shape.labels;
          held = length-set s.held k c.held ∙ shape.held;
          table = length-set s.table k c.entry ∙ shape.table;
          lanes = length-set s.lanes k c.lane ∙ shape.lanes;
          waiting = shape.waiting;
        }

  -- other acknowledgements below n
  module _ (acked : ℕ → Bool) where
    pub acked_self : SameSelf (with_acked s acked) s
    unfolding with_acked
    acked_self = record { n = refl; own = refl; edition = refl; waiting = refl; body = refl; count = refl }

    pub acked_below : Shaped s → s.n ≤ 16 → (k : ℕ) → k < s.n → cell_of (with_acked s acked) k ≡ with_ack (cell_of s k) (acked k)
    unfolding cell_of with_acked
    acked_below shape high k l = rw (set_below_inside s.n acked s.acked k false l (omega (arith, shape.acked)))

    pub acked_above : (k : ℕ) → s.n ≤ k → cell_of (with_acked s acked) k ≡ cell_of s k
    unfolding cell_of with_acked
    acked_above k l = rw (set_below_above s.n acked s.acked k false l)

    pub acked_shaped : Shaped s → Shaped (with_acked s acked)
    unfolding cell_of with_acked
    acked_shaped c =
        record {
          acked = length-set_below s.n acked s.acked ∙ c.acked;
          labels = c.labels;
          held = c.held;
          table = c.table;
          lanes = c.lanes;
          waiting = c.waiting;
        }

  -- other lanes below n
  module _ (lane : ℕ → Lane) where
    pub lanes_self : SameSelf (with_lanes s lane) s
    unfolding with_lanes
    lanes_self = record { n = refl; own = refl; edition = refl; waiting = refl; body = refl; count = refl }

    pub lanes_below : Shaped s → s.n ≤ 16 → (k : ℕ) → k < s.n → cell_of (with_lanes s lane) k ≡ with_lane (cell_of s k) (lane k)
    unfolding cell_of with_lanes
    lanes_below shape high k l = rw (set_below_inside s.n lane s.lanes k no_lane l (omega (arith, shape.lanes)))

    pub lanes_above : (k : ℕ) → s.n ≤ k → cell_of (with_lanes s lane) k ≡ cell_of s k
    unfolding cell_of with_lanes
    lanes_above k l = rw (set_below_above s.n lane s.lanes k no_lane l)

    pub lanes_shaped : Shaped s → Shaped (with_lanes s lane)
    unfolding cell_of with_lanes
    lanes_shaped c =
        record {
          acked = c.acked;
          labels = c.labels;
          held = c.held;
          table = c.table;
          lanes = length-set_below s.n lane s.lanes ∙ c.lanes;
          waiting = c.waiting;
        }

-- two stations that differ in their waiting edits at most
pub record SameButWaiting (s t : Station) : Type 0 where
  pub n : s.n ≡ t.n
  pub own : s.own ≡ t.own
  pub edition : s.edition ≡ t.edition
  pub body : s.body ≡ t.body
  pub count : s.count ≡ t.count
  pub cells : (k : ℕ) → cell_of s k ≡ cell_of t k
  pub shape : Shaped s → Shaped t

pub same_refl : (s : Station) → SameButWaiting s s
same_refl s = record { n = refl; own = refl; edition = refl; body = refl; count = refl; cells = λ k. refl; shape = λ c. c }

pub same_trans : (s t r : Station) → SameButWaiting s t → SameButWaiting t r → SameButWaiting s r
same_trans s t r a b =
    record {
      n = a.n ∙ b.n;
      own = a.own ∙ b.own;
      edition = a.edition ∙ b.edition;
      body = a.body ∙ b.body;
      count = a.count ∙ b.count;
      cells = λ k. a.cells k ∙ b.cells k;
      shape = λ c. b.shape (a.shape c);
    }

pub waiting_same : (s : Station) (w : Waiting) → (WaitingSized s.waiting → WaitingSized w) → SameButWaiting s (with_waiting s w)
waiting_same s w e =
    record {
      n = refl;
      own = refl;
      edition = refl;
      body = refl;
      count = refl;
      cells = λ k. sym (waiting_cell s w k);
      shape = λ c. waiting_shaped s w (e c.waiting) c;
    }

-- the labels of the fresh station, which are its own record's too
module _ (own : ℕ) where
  pub fresh_at : (k : ℕ) → k < 16 → get_or (fresh_labels own) k 0 ≤ 2
  fresh_at k l =
      set_keeps (λ (x : ℕ). x ≤ 2) (replicate 16 0) own 1 0 k l (rw (get_or-replicate {A = ℕ} 16 k 0 0 l) (omega arith)) (omega arith)

  fresh_long : length (fresh_labels own) ≡ 16
  fresh_long = length-set (replicate 16 0) own 1

  fresh_all : all_labels (fresh_labels own) ≡ true
  fresh_all = at_all (fresh_labels own) (λ k l. fresh_at k (rw fresh_long at l))

  pub fresh_word : (fresh_record own).labels ≡ labels_over 16 (λ k. get_or (fresh_labels own) k 0) 0
  fresh_word = packed_whole 16 (fresh_labels own) fresh_long

  pub fresh_label : (k : ℕ) → k < 16 → record_label (fresh_record own) k ≡ get_or (fresh_labels own) k 0
  fresh_label k l = label_packed (fresh_record own) (fresh_labels own) refl fresh_all k (rw fresh_long l)

-- the fresh station
module _ (setup : Setup) (own : ℕ) where
  pub fresh_self : Self (fresh_station setup own) setup.n own setup.edition (none_waiting setup.limit) Empty 0
  unfolding fresh_station
  fresh_self = record { n = refl; own = refl; edition = refl; waiting = refl; body = refl; count = refl }

  pub fresh_own :
      own < 16 → cell_of (fresh_station setup own) own ≡ record { label = 1; acked = true; held = true; entry = fresh_record own; lane = no_lane }
  unfolding cell_of fresh_station
  fresh_own l =
      rw (
        get_or-set_same {A = ℕ} (replicate 16 0) own 1 0 l,
        get_or-set_same (replicate 16 false) own true false l,
        get_or-set_same (replicate 16 no_record) own (fresh_record own) no_record l,
        get_or-replicate 16 own no_lane no_lane l,
      )

  pub fresh_other :
      (k : ℕ) → k < 16 → (k ≡ own → ⊥) →
      cell_of (fresh_station setup own) k ≡ record { label = 0; acked = false; held = false; entry = no_record; lane = no_lane }
  unfolding cell_of fresh_station
  fresh_other k l d =
      rw (
        get_or-set_other {A = ℕ} (replicate 16 0) own k 1 0 d,
        get_or-set_other (replicate 16 false) own k true false d,
        get_or-set_other (replicate 16 no_record) own k (fresh_record own) no_record d,
        get_or-replicate {A = ℕ} 16 k 0 0 l,
        get_or-replicate 16 k false false l,
        get_or-replicate 16 k no_record no_record l,
        get_or-replicate 16 k no_lane no_lane l,
      )

  pub fresh_label_own : own < 16 → record_label (fresh_record own) own ≡ 1
  fresh_label_own l = fresh_label own own l ∙ get_or-set_same {A = ℕ} (replicate 16 0) own 1 0 l

  pub fresh_label_other : (k : ℕ) → k < 16 → (k ≡ own → ⊥) → record_label (fresh_record own) k ≡ 0
  fresh_label_other k l d =
      fresh_label own k l ∙ get_or-set_other {A = ℕ} (replicate 16 0) own k 1 0 d ∙ get_or-replicate {A = ℕ} 16 k 0 0 l

  pub fresh_shaped : Shaped (fresh_station setup own)
  unfolding cell_of fresh_station
  fresh_shaped =
      record {
        acked = simp length-set;
        labels = simp length-set;
        held = simp length-set;
        table = simp length-set;
        lanes = refl;
        waiting = none_sized setup.limit;
      }

-- the records that are sent are those of the table
pub sent_table : (s : Station) → sent_records s ≡ table_records s.n s.held s.table
unfolding cell_of sent_records table_records
sent_table s = refl

-- what the arrays have at place k is what the cell of k has
module _ (s : Station) (k : ℕ) where
  pub acked_at : get_or s.acked k false ≡ acked_of s k
  unfolding cell_of
  acked_at = refl

  pub label_at : get_or s.labels k 0 ≡ label_of s k
  unfolding cell_of
  label_at = refl

  pub lane_at_lem : get_or s.lanes k no_lane ≡ lane_at s k
  unfolding cell_of
  lane_at_lem = refl

-- a list that is f below n, and as another from n up
list_made :
    {A : Type 0} (n : ℕ) (f : ℕ → A) (l m : List A) (d : A) → length m ≡ length l → ((k : ℕ) → k < n → get_or m k d ≡ f k) →
    ((k : ℕ) → n ≤ k → get_or m k d ≡ get_or l k d) → m ≡ set_below n f l
list_made n f l m d e below above = ext_get_or d m (set_below n f l) (e ∙ sym (length-set_below n f l)) each
  where
    each : (i : ℕ) → i < length m → get_or m i d ≡ get_or (set_below n f l) i d
    each i b =
        elim (dec_lt i n) [
          | yes c ↦ below i c ∙ sym (set_below_inside n f l i d c (omega arith))
          | no up ↦ above i (omega arith) ∙ sym (set_below_above n f l i d (omega arith))
        ]

-- a station t that has below n these records, held or not, and from n up those of s: its arrays;
-- and all of it, where it has else the body and the waiting edits of s
module _ (s t : Station) (shape_s : Shaped s) (shape_t : Shaped t) (n : ℕ) where
  pub table_made :
      (f : ℕ → Record) → ((k : ℕ) → k < n → record_of t k ≡ f k) → ((k : ℕ) → n ≤ k → record_of t k ≡ record_of s k) →
      t.table ≡ set_below n f s.table
  unfolding cell_of
  table_made f below above = list_made n f s.table t.table no_record (shape_t.table ∙ sym shape_s.table) below above

  pub held_made :
      (f : ℕ → Bool) → ((k : ℕ) → k < n → held_of t k ≡ f k) → ((k : ℕ) → n ≤ k → held_of t k ≡ held_of s k) → t.held ≡ set_below n f s.held
  unfolding cell_of
  held_made f below above = list_made n f s.held t.held false (shape_t.held ∙ sym shape_s.held) below above

pub station_made :
    (s t : Station) (held : List Bool) (table : List Record) (lanes : List Lane) →
    Self t s.n s.own s.edition s.waiting s.body t.count → t.held ≡ held → t.table ≡ table → t.lanes ≡ lanes →
    t ≡ with_arrays (with_broadcast s s.body t.count) t.acked t.labels held table lanes
station_made s t held table lanes self e₁ e₂ e₃ =
    λ i.
    record {
      n = self.n i;
      own = self.own i;
      edition = self.edition i;
      waiting = self.waiting i;
      acked = t.acked;
      body = self.body i;
      count = t.count;
      labels = t.labels;
      held = e₁ i;
      table = e₂ i;
      lanes = e₃ i;
    }
