-- What a turn makes of a station: the answer built from the parts of the turn is the definition's.
use Prim.Native.Nat.{ℕ, ◌≤◌, ◌<◌}
use native.Mathlib.Omega.{arith}
use mathlib.Core.Path.{◌≡◌, refl, sym, ap, ◌∙◌}
use mathlib.Core.Bool.{Bool, true, false, cond, ◌&&◌}
use mathlib.Core.List.{List}
use Rattle.std.specs.Prelude.{Option, Some, None, is_some, unwrap_or}
use lib.ListN.{get_or, set, length, replicate}
use lib.Seq.{set-get_or}
use lib.Dec.{ltb, eqb}
use borrow.Author.Tests.{ltb-true, leb-true}
use Rattle.bodies.specs.declared.Body.{Body}
use Rattle.bodies.specs.declared.Body.TheVariants.{Empty, Neutral}
use Rattle.bodies.specs.Body.{is_empty}
use Rattle.labels.specs.Label.{successor}
use Rattle.labels.specs.Packing.{labels_over}
use Rattle.lists.specs.Below.{set_below}
use Rattle.lists.proofs.Laws.{and_right}
use Rattle.lists.proofs.Keeps.{set_keeps}
use Rattle.queues.specs.declared.Lane.{Lane}
use Rattle.queues.specs.declared.Waiting.{Waiting}
use Rattle.queues.specs.declared.Slot.{Slot}
use Rattle.station_spec.specs.declared.Station.{Station}
use Rattle.station_spec.specs.declared.TurnReport.{TurnReport}
use Rattle.queues.specs.Lane.{no_lane, pushed, popped}
use Rattle.queues.specs.Queue.{no_slot}
use Rattle.queues.specs.Waiting.{waiting_count, next_edit, without_next}
use Rattle.station_spec.specs.State.{cell_of, label_of, record_of, lane_at, with_entry, with_lane, with_waiting, with_broadcast, with_arrays, with_cell, with_acked, with_lanes}
use Rattle.turns.specs.Lanes.{each_has_body, oldest_of_each}
use Rattle.station_spec.specs.Turn.{airs, row_of, after_airing, broadcast_ends, may_start, starts_edit, started_body, begins, takes_own, after_end, own_record, with_own_record, after_turn, turn_report}
use Rattle.station_spec.proofs.StationLimits.{Inside}
use Rattle.station_spec.proofs.Setters.{cell_label, cell_entry, cell_lane}
use Rattle.station_spec.proofs.TurnCells.{started_stays}

-- what the airing step makes of the station's lanes is what the definition says of the station
module _ (s : Station) where
  abbrev full : Bool
  full = each_has_body s.n (λ k. get_or s.lanes k no_lane)

  abbrev oldest : List Slot
  oldest = oldest_of_each s.n (λ k. get_or s.lanes k no_lane)

  pub step_aired : {row : Option (List Slot)} → row ≡ cond full (Some oldest) None → is_some row ≡ airs s
  unfolding cell_of airs
  step_aired e = ap is_some e ∙ go full
    where
      go : (t : Bool) → is_some (cond t (Some oldest) None) ≡ t
      go true = refl
      go false = refl

  pub step_row :
      {row : Option (List Slot)} → row ≡ cond full (Some oldest) None →
      unwrap_or row (replicate 16 no_slot) ≡ cond (airs s) (row_of s) (replicate 16 no_slot)
  unfolding cell_of airs row_of
  step_row e = ap (λ (r : Option (List Slot)). unwrap_or r (replicate 16 no_slot)) e ∙ go full
    where
      go : (t : Bool) → unwrap_or (cond t (Some oldest) None) (replicate 16 no_slot) ≡ cond t oldest (replicate 16 no_slot)
      go true = refl
      go false = refl

  pub step_left :
      {left : List Lane} → left ≡ cond full (set_below s.n (λ k. popped (get_or s.lanes k no_lane)) s.lanes) s.lanes →
      with_arrays s s.acked s.labels s.held s.table left ≡ after_airing s
  unfolding cell_of airs after_airing with_lanes
  step_left e = ap (with_arrays s s.acked s.labels s.held s.table) e ∙ go full
    where
      go :
          (t : Bool) →
          with_arrays s s.acked s.labels s.held s.table (cond t (set_below s.n (λ k. popped (lane_at s k)) s.lanes) s.lanes)
          ≡ cond t (with_lanes s (λ k. popped (lane_at s k))) s
      go true = refl
      go false = refl

starts_of :
    (s : Station) → started_body s ≡ cond (broadcast_ends s) (cond (may_start s) (cond (ltb 0 (waiting_count s.waiting)) (next_edit s.waiting) Neutral) Empty) Empty
unfolding started_body
starts_of s = refl

-- an edit that starts waits
pub waits : (ended may some starts : Bool) (n : ℕ) → some ≡ ltb 0 n → starts ≡ (ended && (may && some)) → starts ≡ true → 0 < n
waits ended may some starts n t e h = ltb-true 0 n (sym t ∙ and_right may some (and_right ended (may && some) (sym e ∙ h)))

-- what each step of a turn makes of the arrays
module _ (s : Station) (b : Body) where
  begins_arrays :
      begins s b
      ≡ with_arrays (with_broadcast s b 0) (set_below s.n (λ k. eqb k s.own) s.acked)
      (set s.labels s.own (successor (label_of s s.own))) s.held s.table s.lanes
  unfolding begins with_acked
  begins_arrays = cell_label (with_acked (with_broadcast s b 0) (λ k. eqb k s.own)) s.own _ (successor (label_of s s.own)) refl

  takes_arrays :
      takes_own s b
      ≡ with_arrays s s.acked s.labels s.held s.table
      (set s.lanes s.own (cond (is_empty b) (lane_at s s.own) (pushed (lane_at s s.own) b)))
  unfolding takes_own cell_of
  takes_arrays = go (is_empty b)
    where
      own : Lane
      own = pushed (lane_at s s.own) b

      go :
          (t : Bool) →
          cond t s (with_cell s s.own (with_lane (cell_of s s.own) own))
          ≡ with_arrays s s.acked s.labels s.held s.table (set s.lanes s.own (cond t (lane_at s s.own) own))
      go true = rw (set-get_or s.lanes s.own no_lane)
      go false = cell_lane s s.own (with_lane (cell_of s s.own) own) own refl

module _ (s : Station) (left : List Lane) (l : with_arrays s s.acked s.labels s.held s.table left ≡ after_airing s) where
  abbrev b : Body
  b = started_body s

  abbrev next : ℕ
  next = successor (label_of s s.own)

  after_end_arrays :
      after_end s
      ≡ with_arrays
      (with_broadcast (with_waiting s (cond (starts_edit s) (without_next s.waiting) s.waiting)) (cond (broadcast_ends s) b s.body) (cond (broadcast_ends s) 0 s.count))
      (cond (broadcast_ends s) (set_below s.n (λ k. eqb k s.own) s.acked) s.acked)
      (set s.labels s.own (cond (broadcast_ends s) next (label_of s s.own))) s.held s.table
      (set left s.own (cond (is_empty b) (get_or left s.own no_lane) (pushed (get_or left s.own no_lane) b)))
  unfolding after_end cell_of
  after_end_arrays = go (broadcast_ends s) refl
    where
      w : Waiting
      w = cond (starts_edit s) (without_next s.waiting) s.waiting

      go :
          (t : Bool) → broadcast_ends s ≡ t →
          cond t (with_waiting (takes_own (begins (after_airing s) b) b) w) (after_airing s)
          ≡ with_arrays (with_broadcast (with_waiting s w) (cond t b s.body) (cond t 0 s.count))
          (cond t (set_below s.n (λ k. eqb k s.own) s.acked) s.acked)
          (set s.labels s.own (cond t next (label_of s s.own))) s.held s.table
          (set left s.own (cond (is_empty b) (get_or left s.own no_lane) (pushed (get_or left s.own no_lane) b)))
      go true e =
          ap (λ (x : Station). with_waiting (takes_own (begins x b) b) w) (sym l)
          ∙ ap (λ (x : Station). with_waiting (takes_own x b) w) (begins_arrays (with_arrays s s.acked s.labels s.held s.table left) b)
          ∙ ap (λ (x : Station). with_waiting x w) (takes_arrays _ b)
      go false e =
          sym l
          ∙ rw (started_stays s e, e, set-get_or left s.own no_lane, set-get_or s.labels s.own 0)

-- the labels of a station inside its limits take two bits, and so does the label after its own
next_fits : (t : Bool) (label : ℕ) → label ≤ 2 → cond t (successor label) label < 4
next_fits true label h = omega arith
next_fits false label h = omega arith

pub labels_fit :
    (s : Station) → Inside s → length s.labels ≡ 16 → (t : Bool) (next : ℕ) → next ≡ cond t (successor (label_of s s.own)) (label_of s s.own) →
    (k : ℕ) → k < s.n → get_or (set s.labels s.own next) k 0 < 4
unfolding cell_of
labels_fit s c long t next e k l =
    let label : (j : ℕ) → j < s.n → label_of s j ≤ 2 = λ j b. leb-true (label_of s j) 2 (c.places j b).label in
    set_keeps (λ (x : ℕ). x < 4) s.labels s.own next 0 k (omega (arith, c.high))
    (omega (arith, label k l))
    (rw e (next_fits t (label_of s s.own) (label s.own c.own)))

-- the answer of a turn, by its parts
module _
    (s : Station) (aired ended starts : Bool) (row : List Slot) (left : List Lane) (old : Body) (some : Bool) (started body gone : Body)
    (waiting : Waiting) (acked : List Bool) (count next : ℕ) (over : ℕ) (lane : Lane) where
  -- before the own record is rewritten
  abbrev before : Station
  before =
      with_arrays (with_broadcast (with_waiting s waiting) body count) acked (set s.labels s.own next) s.held s.table (set left s.own lane)

  abbrev station : Station
  station =
      with_arrays before acked (set s.labels s.own next) s.held
      (set s.table s.own (record { station = s.own; count = count; body = body; labels = over })) (set left s.own lane)

  abbrev report : TurnReport
  report = record { aired = aired; row = row; ended = ended; ended_body = gone; started_body = started }

  abbrev may : Bool
  may = eqb (get_or left s.own no_lane).len 0

  pub turn_made :
      aired ≡ airs s → ended ≡ broadcast_ends s → row ≡ cond (airs s) (row_of s) (replicate 16 no_slot) →
      with_arrays s s.acked s.labels s.held s.table left ≡ after_airing s →
      old ≡ next_edit s.waiting →
      some ≡ ltb 0 (waiting_count s.waiting) →
      started ≡ cond ended (cond may (cond some old Neutral) Empty) Empty →
      starts ≡ (ended && (may && some)) →
      waiting ≡ cond starts (without_next s.waiting) s.waiting →
      acked ≡ cond ended (set_below s.n (λ k. eqb k s.own) s.acked) s.acked →
      body ≡ cond ended started s.body →
      gone ≡ cond ended s.body Empty →
      count ≡ cond ended 0 s.count →
      next ≡ cond ended (successor (label_of s s.own)) (label_of s s.own) →
      over ≡ labels_over s.n (λ k. get_or (set s.labels s.own next) k 0) (record_of s s.own).labels →
      lane ≡ cond (is_empty started) (get_or left s.own no_lane) (pushed (get_or left s.own no_lane) started) →
      (station ≡ after_turn s) × (report ≡ turn_report s)
  unfolding cell_of after_turn with_own_record own_record turn_report
  turn_made a e r l o z b t w k y g m x v p =
      let room : may ≡ may_start s = ap (λ (z : Station). eqb (lane_at z s.own).len 0) l in
      let f : started ≡ started_body s = b ∙ rw (e, room, o, z) (sym (starts_of s)) in
      let u : before ≡ after_end s = rw (p, w, t, k, y, m, x, f, e, room, z) (sym (after_end_arrays s left l)) in (
        rw v (sym (cell_entry before s.own (with_entry (cell_of before s.own) (own_record before)) (own_record before) refl)) ∙ ap with_own_record u,
        rw (a, r, g, f, e),
      )
