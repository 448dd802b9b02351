-- The turn cell by cell: the airing step changes lanes, the end of the broadcast the
-- acknowledgements and the own label, the start the own lane, and last the own record is rewritten.
-- So of another station's cell only the acknowledgement and the lane can change, and cells from n
-- up stay.
use Prim.Native.Nat.{ℕ, ◌<◌, ◌≤◌}
use mathlib.Core.Bool.{Bool, true, false, cond}
use mathlib.Core.Path.{◌≡◌, refl, sym, ap, subst, ◌∙◌}
use native.Mathlib.Decide.{ℕ_discrete}
use native.Mathlib.Omega.{arith}
use lib.Dec.{eqb}
use borrow.Author.Tests.{eq-eqb, ne_eqb}
use Rattle.bodies.specs.declared.Body.{Body}
use Rattle.bodies.specs.declared.Body.TheVariants.{Empty}
use Rattle.bodies.specs.Body.{is_empty}
use Rattle.labels.specs.Label.{successor}
use Rattle.labels.specs.Packing.{labels_over}
use Rattle.frame_spec.specs.declared.Record.{Record}
use Rattle.frame_spec.specs.Record.{record_label}
use Rattle.frame_spec.proofs.Labels.{label_below, label_above}
use Rattle.lists.proofs.Keeps.{cond_keeps}
use Rattle.queues.specs.declared.Lane.{Lane}
use Rattle.queues.specs.Lane.{pushed, popped}
use Rattle.queues.specs.Waiting.{without_next}
use Rattle.station_spec.specs.declared.Station.{Station}
use Rattle.station_spec.specs.State.{Cell, cell_of, label_of, acked_of, held_of, record_of, lane_at, with_label, with_entry, with_lane, with_waiting, with_broadcast, with_cell, with_acked, with_lanes}
use Rattle.station_spec.specs.Turn.{airs, broadcast_ends, starts_edit, started_body, after_airing, begins, takes_own, after_end, own_record, with_own_record, after_turn}
use Rattle.station_spec.proofs.Setters.{Shaped, SameSelf, self_refl, with_ack, waiting_cell, broadcast_cell, cell_self, cell_here, cell_other, acked_below, acked_above, lanes_below, lanes_above, broadcast_shaped, acked_shaped}
use Rattle.station_spec.proofs.Shape.{aired_self, aired_shaped, begins-shaped, after_end-shaped, with_own_record-shaped}

-- nothing starts where the broadcast goes on
pub started_stays : (s : Station) → broadcast_ends s ≡ false → started_body s ≡ Empty
unfolding started_body
started_stays s e = rw e

-- the labels of the own record are the station's below n, where these take two bits, and from n up
-- those that it had
module _ (s : Station) (fits : (k : ℕ) → k < s.n → label_of s k < 4) where
  own_word : (own_record s).labels ≡ labels_over s.n (label_of s) (record_of s s.own).labels
  unfolding own_record
  own_word = refl

  pub own_record_label : (k : ℕ) → k < s.n → record_label (own_record s) k ≡ label_of s k
  own_record_label k l = label_below s.n (label_of s) fits (own_record s) (record_of s s.own).labels k own_word l

  pub own_record_above : (k : ℕ) → s.n ≤ k → record_label (own_record s) k ≡ record_label (record_of s s.own) k
  own_record_above k l = label_above s.n (label_of s) fits (own_record s) (record_of s s.own) k own_word l

-- the lane of station k after the airing step
abbrev pub lane_after : Station → ℕ → Lane
lane_after s k = lane_at (after_airing s) k

-- a body that starts
module _ (s : Station) (b : Body) where
  takes_own_self : SameSelf (takes_own s b) s
  unfolding takes_own
  takes_own_self = cond_keeps (λ (t : Station). SameSelf t s) (is_empty b) s (with_cell s s.own _) (self_refl s) (cell_self s s.own _)

  takes_own_own :
      Shaped s → s.own < 16 →
      cell_of (takes_own s b) s.own ≡ with_lane (cell_of s s.own) (cond (is_empty b) (lane_at s s.own) (pushed (lane_at s s.own) b))
  unfolding takes_own
  takes_own_own shape l = go (is_empty b)
    where
      own : Cell
      own = with_lane (cell_of s s.own) (pushed (lane_at s s.own) b)

      go :
          (t : Bool) →
          cell_of (cond t s (with_cell s s.own own)) s.own
          ≡ with_lane (cell_of s s.own) (cond t (lane_at s s.own) (pushed (lane_at s s.own) b))
      go true = refl
      go false = cell_here s s.own own shape l

  takes_own_other : (k : ℕ) → (k ≡ s.own → ⊥) → cell_of (takes_own s b) k ≡ cell_of s k
  unfolding takes_own
  takes_own_other k d =
      cond_keeps (λ (t : Station). cell_of t k ≡ cell_of s k) (is_empty b) s (with_cell s s.own _) refl (cell_other s s.own _ k d)

-- what is no cell
module _ (s : Station) where
  after_end_self :
      ((after_end s).n ≡ s.n) × ((after_end s).own ≡ s.own) × ((after_end s).waiting ≡ cond (starts_edit s) (without_next s.waiting) s.waiting)
      × ((after_end s).body ≡ cond (broadcast_ends s) (started_body s) s.body) × ((after_end s).count ≡ cond (broadcast_ends s) 0 s.count)
      × ((after_end s).edition ≡ s.edition)
  unfolding after_end begins with_cell with_acked
  after_end_self = go (broadcast_ends s) refl
    where
      next : Station
      next = begins (after_airing s) (started_body s)

      go :
          (t : Bool) → broadcast_ends s ≡ t →
          ((after_end s).n ≡ s.n) × ((after_end s).own ≡ s.own) × ((after_end s).waiting ≡ cond (starts_edit s) (without_next s.waiting) s.waiting)
          × ((after_end s).body ≡ cond t (started_body s) s.body) × ((after_end s).count ≡ cond t 0 s.count)
          × ((after_end s).edition ≡ s.edition)
      go true e =
          let c = takes_own_self next (started_body s) in
          let a = aired_self s in
          rw e (c.n ∙ a.n, c.own ∙ a.own, refl, c.body, c.count, c.edition ∙ a.edition)
      go false e = let a = aired_self s in rw e (a.n, a.own, a.waiting, a.body, a.count, a.edition)

  pub after_end_n : (after_end s).n ≡ s.n
  after_end_n = after_end_self.0

  pub after_end_own : (after_end s).own ≡ s.own
  after_end_own = after_end_self.1

  pub after_end_waiting : (after_end s).waiting ≡ cond (starts_edit s) (without_next s.waiting) s.waiting
  after_end_waiting = after_end_self.2

  pub after_end_body : (after_end s).body ≡ cond (broadcast_ends s) (started_body s) s.body
  after_end_body = after_end_self.3

  pub after_end_count : (after_end s).count ≡ cond (broadcast_ends s) 0 s.count
  after_end_count = after_end_self.4

  pub after_end_edition : (after_end s).edition ≡ s.edition
  after_end_edition = after_end_self.5

  pub turn_n : (after_turn s).n ≡ s.n
  unfolding after_turn with_own_record with_cell
  turn_n = after_end_n

  pub turn_own : (after_turn s).own ≡ s.own
  unfolding after_turn with_own_record with_cell
  turn_own = after_end_own

  pub turn_edition : (after_turn s).edition ≡ s.edition
  unfolding after_turn with_own_record with_cell
  turn_edition = after_end_edition

  pub turn_waiting : (after_turn s).waiting ≡ cond (starts_edit s) (without_next s.waiting) s.waiting
  unfolding after_turn with_own_record with_cell
  turn_waiting = after_end_waiting

  pub turn_body : (after_turn s).body ≡ cond (broadcast_ends s) (started_body s) s.body
  unfolding after_turn with_own_record with_cell
  turn_body = after_end_body

  pub turn_count : (after_turn s).count ≡ cond (broadcast_ends s) 0 s.count
  unfolding after_turn with_own_record with_cell
  turn_count = after_end_count

  pub after_turn-shaped : Shaped s → Shaped (after_turn s)
  unfolding after_turn
  after_turn-shaped c = with_own_record-shaped (after_end s) (after_end-shaped s c)

module _ (s : Station) (shape : Shaped s) (high : s.n ≤ 16) (below : s.own < s.n) where
  -- the airing step
  pub aired_below :
      (k : ℕ) → k < s.n → cell_of (after_airing s) k ≡ with_lane (cell_of s k) (cond (airs s) (popped (lane_at s k)) (lane_at s k))
  unfolding after_airing
  aired_below k l = go (airs s)
    where
      go :
          (t : Bool) →
          cell_of (cond t (with_lanes s (λ j. popped (lane_at s j))) s) k ≡ with_lane (cell_of s k) (cond t (popped (lane_at s k)) (lane_at s k))
      go true = lanes_below s (λ j. popped (lane_at s j)) shape high k l
      go false = refl

  aired_above : (k : ℕ) → s.n ≤ k → cell_of (after_airing s) k ≡ cell_of s k
  unfolding after_airing
  aired_above k l =
      cond_keeps (λ (t : Station). cell_of t k ≡ cell_of s k) (airs s) (with_lanes s (λ j. popped (lane_at s j))) s
      (lanes_above s (λ j. popped (lane_at s j)) k l) refl

  -- the end of the broadcast
  module _ (b : Body) where
    abbrev only : Station
    only = with_acked (with_broadcast s b 0) (λ k. eqb k s.own)

    only_below : (k : ℕ) → k < s.n → cell_of only k ≡ with_ack (cell_of s k) (eqb k s.own)
    only_below k l =
        acked_below (with_broadcast s b 0) (λ j. eqb j s.own) (broadcast_shaped s b 0 shape) high k l
        ∙ ap (λ (c : Cell). with_ack c (eqb k s.own)) (broadcast_cell s b 0 k)

    begins_own : cell_of (begins s b) s.own ≡ with_label (with_ack (cell_of s s.own) true) (successor (label_of s s.own))
    unfolding begins
    begins_own =
        cell_here only s.own (with_label (cell_of only s.own) (successor (label_of s s.own)))
        (acked_shaped (with_broadcast s b 0) (λ k. eqb k s.own) (broadcast_shaped s b 0 shape)) (omega arith)
        ∙ ap (λ (c : Cell). with_label c (successor (label_of s s.own))) (only_below s.own below)
        ∙ ap (λ (t : Bool). with_label (with_ack (cell_of s s.own) t) (successor (label_of s s.own))) (eq-eqb s.own s.own refl)

    begins_other : (k : ℕ) → k < s.n → (k ≡ s.own → ⊥) → cell_of (begins s b) k ≡ with_ack (cell_of s k) false
    unfolding begins
    begins_other k l d =
        cell_other only s.own _ k d ∙ only_below k l ∙ ap (λ (t : Bool). with_ack (cell_of s k) t) (ne_eqb k s.own d)

    begins_above : (k : ℕ) → s.n ≤ k → cell_of (begins s b) k ≡ cell_of s k
    unfolding begins
    begins_above k l =
        cell_other only s.own _ k (λ e. absurd (omega arith))
        ∙ acked_above (with_broadcast s b 0) (λ j. eqb j s.own) k l
        ∙ broadcast_cell s b 0 k

-- the station after the end and the start: its own cell, those of the others, and those from n up
module _ (s : Station) (shape : Shaped s) (high : s.n ≤ 16) (below : s.own < s.n) where
  abbrev aired : Station
  aired = after_airing s

  abbrev next : Station
  next = begins aired (started_body s)

  same : SameSelf aired s
  same = aired_self s

  aired_high : aired.n ≤ 16
  aired_high = omega (arith, same.n)

  aired_own : aired.own < aired.n
  aired_own = omega (arith, same.n, same.own)

  next_own : next.own ≡ s.own
  unfolding begins with_cell with_acked
  next_own = same.own

  next-shaped : Shaped next
  next-shaped = begins-shaped aired (started_body s) (aired_shaped s shape)

  -- what the airing step leaves of a cell
  aired_rest : (k : ℕ) → k < s.n → cell_of aired k ≡ with_lane (cell_of s k) (lane_after s k)
  aired_rest k l =
      aired_below s shape high below k l
      ∙ ap (λ (x : Lane). with_lane (cell_of s k) x) (sym (ap (λ (c : Cell). c.lane) (aired_below s shape high below k l)))

  next_cell_own :
      cell_of next s.own
      ≡ with_label (with_ack (with_lane (cell_of s s.own) (lane_after s s.own)) true) (successor (label_of s s.own))
  next_cell_own =
      subst (λ (p : ℕ). cell_of next p ≡ with_label (with_ack (cell_of aired p) true) (successor (label_of aired p))) same.own
      (begins_own aired (aired_shaped s shape) aired_high aired_own (started_body s))
      ∙ ap (λ (c : Cell). with_label (with_ack c true) (successor c.label)) (aired_rest s.own below)

  pub after_end_cell_own :
      cell_of (after_end s) s.own
      ≡ record {
        label = cond (broadcast_ends s) (successor (label_of s s.own)) (label_of s s.own);
        acked = cond (broadcast_ends s) true (acked_of s s.own);
        held = held_of s s.own;
        entry = record_of s s.own;
        lane = cond (is_empty (started_body s)) (lane_after s s.own) (pushed (lane_after s s.own) (started_body s));
      }
  unfolding after_end
  after_end_cell_own = go (broadcast_ends s) refl
    where
      own : Cell
      own = cell_of s s.own

      go :
          (t : Bool) → broadcast_ends s ≡ t →
          cell_of (cond t (with_waiting (takes_own next (started_body s)) (cond (starts_edit s) (without_next s.waiting) s.waiting)) aired) s.own
          ≡ record {
            label = cond t (successor own.label) own.label;
            acked = cond t true own.acked;
            held = own.held;
            entry = own.entry;
            lane = cond (is_empty (started_body s)) (lane_after s s.own) (pushed (lane_after s s.own) (started_body s));
          }
      go true e =
          let b = started_body s in
          waiting_cell (takes_own next b) _ s.own
          ∙ subst
          (λ (p : ℕ). cell_of (takes_own next b) p ≡ with_lane (cell_of next p) (cond (is_empty b) (lane_at next p) (pushed (lane_at next p) b)))
          next_own
          (takes_own_own next b next-shaped (omega (arith, next_own)))
          ∙ ap (λ (c : Cell). with_lane c (cond (is_empty b) c.lane (pushed c.lane b))) next_cell_own
      go false e = rw (started_stays s e) (aired_rest s.own below)

  pub after_end_cell_other :
      (k : ℕ) → k < s.n → (k ≡ s.own → ⊥) →
      cell_of (after_end s) k ≡ with_lane (with_ack (cell_of s k) (cond (broadcast_ends s) false (acked_of s k))) (lane_after s k)
  unfolding after_end
  after_end_cell_other k l d = go (broadcast_ends s)
    where
      go :
          (t : Bool) →
          cell_of (cond t (with_waiting (takes_own next (started_body s)) (cond (starts_edit s) (without_next s.waiting) s.waiting)) aired) k
          ≡ with_lane (with_ack (cell_of s k) (cond t false (acked_of s k))) (lane_after s k)
      go true =
          let b = started_body s in
          waiting_cell (takes_own next b) _ k
          ∙ takes_own_other next b k (λ e. d (e ∙ next_own))
          ∙ begins_other aired (aired_shaped s shape) aired_high aired_own b k (omega (arith, same.n)) (λ e. d (e ∙ same.own))
          ∙ ap (λ (c : Cell). with_ack c false) (aired_rest k l)
      go false = aired_rest k l

  after_end_above : (k : ℕ) → s.n ≤ k → cell_of (after_end s) k ≡ cell_of s k
  unfolding after_end
  after_end_above k l =
      let b = started_body s in
      let d : k ≡ s.own → ⊥ = λ e. absurd (omega arith) in
      cond_keeps (λ (t : Station). cell_of t k ≡ cell_of s k) (broadcast_ends s) (with_waiting (takes_own next b) _) aired
      (waiting_cell (takes_own next b) _ k
      ∙ takes_own_other next b k (λ e. d (e ∙ next_own))
      ∙ begins_above aired (aired_shaped s shape) aired_high aired_own b k (omega (arith, same.n))
      ∙ aired_above s shape high below k l)
      (aired_above s shape high below k l)

-- the station after its turn
module _ (s : Station) (shape : Shaped s) (high : s.n ≤ 16) (below : s.own < s.n) where
  pub turn_cell_own : cell_of (after_turn s) s.own ≡ with_entry (cell_of (after_end s) s.own) (own_record (after_end s))
  unfolding after_turn with_own_record
  turn_cell_own =
      subst
      (λ (p : ℕ). cell_of (after_turn s) p ≡ with_entry (cell_of (after_end s) p) (own_record (after_end s)))
      (after_end_own s)
      (cell_here (after_end s) (after_end s).own _ (after_end-shaped s shape) (omega (arith, after_end_own s)))

  pub turn_cell_other : (k : ℕ) → (k ≡ s.own → ⊥) → cell_of (after_turn s) k ≡ cell_of (after_end s) k
  unfolding after_turn with_own_record
  turn_cell_other k d = cell_other (after_end s) (after_end s).own _ k (λ e. d (e ∙ after_end_own s))

  -- cells from n up stay
  pub turn_above : (k : ℕ) → s.n ≤ k → cell_of (after_turn s) k ≡ cell_of s k
  turn_above k l = turn_cell_other k (λ e. absurd (omega arith)) ∙ after_end_above s shape high below k l

  -- part by part
  own_cell :
      cell_of (after_turn s) s.own
      ≡ record {
        label = cond (broadcast_ends s) (successor (label_of s s.own)) (label_of s s.own);
        acked = cond (broadcast_ends s) true (acked_of s s.own);
        held = held_of s s.own;
        entry = own_record (after_end s);
        lane = cond (is_empty (started_body s)) (lane_after s s.own) (pushed (lane_after s s.own) (started_body s));
      }
  own_cell = turn_cell_own ∙ ap (λ (c : Cell). with_entry c (own_record (after_end s))) (after_end_cell_own s shape high below)

  other_cell :
      (k : ℕ) → k < s.n → (k ≡ s.own → ⊥) →
      cell_of (after_turn s) k ≡ with_lane (with_ack (cell_of s k) (cond (broadcast_ends s) false (acked_of s k))) (lane_after s k)
  other_cell k l d = turn_cell_other k d ∙ after_end_cell_other s shape high below k l d

  pub turn_label_own : label_of (after_turn s) s.own ≡ cond (broadcast_ends s) (successor (label_of s s.own)) (label_of s s.own)
  turn_label_own = ap (λ (c : Cell). c.label) own_cell

  pub turn_label_other : (k : ℕ) → k < s.n → (k ≡ s.own → ⊥) → label_of (after_turn s) k ≡ label_of s k
  turn_label_other k l d = ap (λ (c : Cell). c.label) (other_cell k l d)

  pub turn_acked : (k : ℕ) → k < s.n → acked_of (after_turn s) k ≡ cond (broadcast_ends s) (eqb k s.own) (acked_of s k)
  turn_acked k l =
      elim (ℕ_discrete k s.own) [
        | yes e ↦
            subst (λ (p : ℕ). acked_of (after_turn s) p ≡ cond (broadcast_ends s) (eqb p s.own) (acked_of s p)) (sym e)
            (ap (λ (c : Cell). c.acked) own_cell
            ∙ ap (λ (b : Bool). cond (broadcast_ends s) b (acked_of s s.own)) (sym (eq-eqb s.own s.own refl)))
        | no d ↦
            ap (λ (c : Cell). c.acked) (other_cell k l d)
            ∙ ap (λ (b : Bool). cond (broadcast_ends s) b (acked_of s k)) (sym (ne_eqb k s.own d))
      ]

  pub turn_held : (k : ℕ) → k < s.n → held_of (after_turn s) k ≡ held_of s k
  turn_held k l =
      elim (ℕ_discrete k s.own) [
        | yes e ↦ subst (λ (p : ℕ). held_of (after_turn s) p ≡ held_of s p) (sym e) (ap (λ (c : Cell). c.held) own_cell)
        | no d ↦ ap (λ (c : Cell). c.held) (other_cell k l d)
      ]

  pub turn_record_own : record_of (after_turn s) s.own ≡ own_record (after_end s)
  turn_record_own = ap (λ (c : Cell). c.entry) own_cell

  pub turn_record_other : (k : ℕ) → k < s.n → (k ≡ s.own → ⊥) → record_of (after_turn s) k ≡ record_of s k
  turn_record_other k l d = ap (λ (c : Cell). c.entry) (other_cell k l d)

  pub turn_lane_own :
      lane_at (after_turn s) s.own
      ≡ cond (is_empty (started_body s)) (lane_after s s.own) (pushed (lane_after s s.own) (started_body s))
  turn_lane_own = ap (λ (c : Cell). c.lane) own_cell

  pub turn_lane_other : (k : ℕ) → k < s.n → (k ≡ s.own → ⊥) → lane_at (after_turn s) k ≡ lane_after s k
  turn_lane_other k l d = ap (λ (c : Cell). c.lane) (other_cell k l d)

  pub lane_after_lem : (k : ℕ) → k < s.n → lane_after s k ≡ cond (airs s) (popped (lane_at s k)) (lane_at s k)
  lane_after_lem k l = ap (λ (c : Cell). c.lane) (aired_below s shape high below k l)

  -- the own record
  pub own_station : (own_record (after_end s)).station ≡ s.own
  unfolding own_record
  own_station = after_end_own s

  pub own_count : (own_record (after_end s)).count ≡ (after_turn s).count
  unfolding own_record after_turn with_own_record with_cell
  own_count = refl

  pub own_body : (own_record (after_end s)).body ≡ (after_turn s).body
  unfolding own_record after_turn with_own_record with_cell
  own_body = refl

  old_labels : record_of (after_end s) (after_end s).own ≡ record_of s s.own
  old_labels = ap (λ (p : ℕ). record_of (after_end s) p) (after_end_own s) ∙ ap (λ (c : Cell). c.entry) (after_end_cell_own s shape high below)

  after_end_label : (k : ℕ) → label_of (after_end s) k ≡ label_of (after_turn s) k
  after_end_label k =
      elim (ℕ_discrete k s.own) [
        | yes e ↦ subst (λ (p : ℕ). label_of (after_end s) p ≡ label_of (after_turn s) p) (sym e) (sym (ap (λ (c : Cell). c.label) turn_cell_own))
        | no d ↦ sym (ap (λ (c : Cell). c.label) (turn_cell_other k d))
      ]

  -- its labels below n are the station's, where these take two bits, and those from n up stay
  module _ (fits : (k : ℕ) → k < s.n → label_of (after_turn s) k < 4) where
    after_end_fits : (k : ℕ) → k < (after_end s).n → label_of (after_end s) k < 4
    after_end_fits k l = rw (after_end_label k) (fits k (omega (arith, after_end_n s)))

    pub own_label : (k : ℕ) → k < s.n → record_label (own_record (after_end s)) k ≡ label_of (after_turn s) k
    own_label k l = own_record_label (after_end s) after_end_fits k (omega (arith, after_end_n s)) ∙ after_end_label k

    pub own_label_above : (k : ℕ) → s.n ≤ k → record_label (own_record (after_end s)) k ≡ record_label (record_of s s.own) k
    own_label_above k l =
        own_record_above (after_end s) after_end_fits k (omega (arith, after_end_n s)) ∙ ap (λ (r : Record). record_label r k) old_labels
