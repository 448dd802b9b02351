-- A turn keeps the limits: airing removes from lanes, what starts is inside its limits and goes
-- into an own lane that is empty, the own label becomes a label, and the own record gets the
-- station's present values.
use Prim.Native.Nat.{ℕ, ◌<◌}
use mathlib.Core.Bool.{Bool, true, cond}
use mathlib.Core.Path.{◌≡◌, refl, sym, ap, subst, ◌∙◌}
use native.Mathlib.Decide.{ℕ_discrete}
use native.Mathlib.Omega.{arith}
use lib.Dec.{eqb}
use borrow.Author.Tests.{eq-eqb, leb-true}
use Rattle.bodies.specs.declared.Body.{Body}
use Rattle.bodies.specs.declared.Body.TheVariants.{Empty, Neutral}
use Rattle.bodies.specs.Body.{is_empty}
use Rattle.labels.specs.Label.{is_label, successor}
use Rattle.lists.proofs.Keeps.{cond_keeps}
use Rattle.queues.specs.declared.Lane.{Lane}
use Rattle.queues.specs.declared.Waiting.{Waiting}
use Rattle.station_spec.specs.declared.Station.{Station}
use Rattle.queues.specs.Lane.{pushed, popped}
use Rattle.queues.specs.Waiting.{next_edit, without_next, waiting_inside}
use Rattle.queues.proofs.WaitingLaws as waiting
use Rattle.station_spec.specs.State.{Cell, cell_of, label_of, acked_of, lane_at, with_entry, with_cell}
use Rattle.station_spec.specs.Limits.{lane_inside, takeable, allowed, station_inside}
use Rattle.station_spec.specs.Turn.{airs, broadcast_ends, starts_edit, started_body, after_end, own_record, with_own_record, after_turn}
use Rattle.station_spec.proofs.BodyLaws.{waiting_takeable, takeable_inside, empty-allowed, neutral-takeable, allowed_same}
use Rattle.station_spec.proofs.Setters.{Shaped, cell_self, cell_here, cell_other}
use Rattle.station_spec.proofs.Shape.{after_end-shaped}
use Rattle.station_spec.proofs.LimitsLane.{popped_inside, pushed_inside}
use Rattle.station_spec.proofs.StationLimits.{RecordHolds, CellHolds, InsideAs, Inside, inside_as, inside_open, inside_make}
use Rattle.station_spec.proofs.LimitsHear.{successor_label}
use Rattle.station_spec.proofs.TurnCells.{own_record_label, lane_after, lane_after_lem, after_end_n, after_end_own, after_end_edition, after_end_waiting, after_end_body, after_end_cell_own, after_end_cell_other, turn_n, turn_own, turn_edition}
use Rattle.station_spec.proofs.TurnLaws.{Start, Start.an_edit, Start.a_neutral, Start.nothing, start}

module _ (s : Station) (shape : Shaped s) (c : Inside s) where
  -- what starts is Empty, or is put into an empty own lane, which may hold it
  pub started_cases :
      (P : Body → Type 0) → P Empty → ((b : Body) → takeable (allowed s) b ≡ true → (lane_after s s.own).len ≡ 0 → P b) → P (started_body s)
  started_cases P none some = go (start s)
    where
      go : Start s → P (started_body s)
      go (an_edit e room w b) =
          subst P (sym b) (some (next_edit s.waiting) (waiting_takeable (allowed s) (next_edit s.waiting) (waiting.next_fits (allowed s) s.waiting c.waiting w)) room)
      go (a_neutral e room b) = subst P (sym b) (some Neutral (neutral-takeable s) room)
      go (nothing e b) = subst P (sym b) none

  started_inside : allowed s (started_body s) ≡ true
  started_inside = started_cases (λ b. allowed s b ≡ true) (empty-allowed s) (λ b h room. takeable_inside (allowed s) b h)

  after_inside : (k most : ℕ) → k < s.n → lane_inside (allowed s) most (lane_at s k) ≡ true → lane_inside (allowed s) most (lane_after s k) ≡ true
  after_inside k most l h =
      rw (lane_after_lem s shape c.high c.own k l)
      (cond_keeps (λ (x : Lane). lane_inside (allowed s) most x ≡ true) (airs s) (popped (lane_at s k)) (lane_at s k) (popped_inside (allowed s) most (lane_at s k) h) h)

  -- the own lane gets what starts
  own_inside :
      lane_inside (allowed s) 1 (cond (is_empty (started_body s)) (lane_after s s.own) (pushed (lane_after s s.own) (started_body s))) ≡ true
  own_inside =
      let most : ◌≡◌ {A = ℕ} (cond (eqb s.own s.own) 1 2) 1 = rw (eq-eqb s.own s.own refl) in
      let after : lane_inside (allowed s) 1 (lane_after s s.own) ≡ true =
      after_inside s.own 1 c.own (rw most at (c.places s.own c.own).lane) in
      started_cases
      (λ b. lane_inside (allowed s) 1 (cond (is_empty b) (lane_after s s.own) (pushed (lane_after s s.own) b)) ≡ true)
      after
      (λ b h room. cond_keeps (λ (l : Lane). lane_inside (allowed s) 1 l ≡ true) (is_empty b) (lane_after s s.own) (pushed (lane_after s s.own) b)
      after
      (pushed_inside (allowed s) 1 (lane_after s s.own) b after (omega arith) (omega arith) h))

  own_cell : CellHolds (allowed s) s.n s.own s.own (cell_of (after_end s) s.own)
  own_cell =
      let before = c.places s.own c.own in
      rw (after_end_cell_own s shape c.high c.own)
      (record {
        label =
            cond_keeps (λ (x : ℕ). is_label x ≡ true) (broadcast_ends s) (successor (label_of s s.own)) (label_of s s.own)
            (successor_label (label_of s s.own)) before.label;
        held = before.held;
        lane = rw (eq-eqb s.own s.own refl) own_inside;
      })

  other_cell : (k : ℕ) → k < s.n → (k ≡ s.own → ⊥) → CellHolds (allowed s) s.n s.own k (cell_of (after_end s) k)
  other_cell k l d =
      let before = c.places k l in
      rw (after_end_cell_other s shape c.high c.own k l d)
      (record { label = before.label; held = before.held; lane = after_inside k (cond (eqb k s.own) 1 2) l before.lane })

  pub after_end_holds : InsideAs (allowed s) s.n s.own (after_end s)
  after_end_holds =
      let own = after_end_cell_own s shape c.high c.own in
      record {
        known = omega (arith, after_end_edition s, c.known);
        low = c.low;
        high = c.high;
        own = c.own;
        acked = ap (λ (x : Cell). x.acked) own ∙ cond_keeps (λ (b : Bool). b ≡ true) (broadcast_ends s) true (acked_of s s.own) refl c.acked;
        held = ap (λ (x : Cell). x.held) own ∙ c.held;
        body =
            rw (after_end_body s)
            (cond_keeps (λ (b : Body). allowed s b ≡ true) (broadcast_ends s) (started_body s) s.body started_inside c.body);
        waiting =
            rw (after_end_waiting s)
            (cond_keeps (λ (w : Waiting). waiting_inside (allowed s) w ≡ true) (starts_edit s) (without_next s.waiting) s.waiting
            (waiting.started_inside (allowed s) s.waiting shape.waiting c.waiting) c.waiting);
        places =
            λ k l. elim (ℕ_discrete k s.own) [
              | yes same ↦ subst (λ (j : ℕ). CellHolds (allowed s) s.n s.own j (cell_of (after_end s) j)) (sym same) own_cell
              | no d ↦ other_cell k l d
            ];
      }

module _ (s : Station) (shape : Shaped s) (c : Inside s) where
  own_holds : RecordHolds (allowed s) s.n s.own s.own (own_record s)
  unfolding own_record
  own_holds =
      record {
        station = refl;
        count = rw (eq-eqb s.own s.own refl);
        body = c.body;
        labels = λ j l. rw (own_record_label s (λ k b. omega (arith, leb-true (label_of s k) 2 (c.places k b).label)) j l) (c.places j l).label;
      }

  pub with_own_record_holds : InsideAs (allowed s) s.n s.own (with_own_record s)
  unfolding with_own_record
  with_own_record_holds =
      let cell = with_entry (cell_of s s.own) (own_record s) in
      let own : cell_of (with_cell s s.own cell) s.own ≡ cell = cell_here s s.own cell shape (omega (arith, c.high, c.own)) in
      let self = cell_self s s.own cell in
      let before = c.places s.own c.own in
      record {
        known = omega (arith, self.edition, c.known);
        low = c.low;
        high = c.high;
        own = c.own;
        acked = ap (λ (x : Cell). x.acked) own ∙ c.acked;
        held = ap (λ (x : Cell). x.held) own ∙ c.held;
        body = rw self.body c.body;
        waiting = rw self.waiting c.waiting;
        places =
            λ k l. elim (ℕ_discrete k s.own) [
              | yes same ↦
                  subst (λ (j : ℕ). CellHolds (allowed s) s.n s.own j (cell_of (with_own_record s) j)) (sym same)
                  (rw own (record { label = before.label; held = λ e. own_holds; lane = before.lane }))
              | no d ↦ rw (cell_other s s.own cell k d) (c.places k l)
            ];
      }

pub turn_holds : (s : Station) → Shaped s → Inside s → Inside (after_turn s)
unfolding after_turn
turn_holds s shape c =
    let low : s.own < 16 = omega (arith, c.high, c.own) in
    let p : Inside (after_end s) = inside_as (allowed s) s.n s.own (after_end s) (allowed_same (after_end s) s (after_end_edition s)) (after_end_n s) (after_end_own s) (after_end_holds s shape c) in
    inside_as (allowed (after_end s)) (after_end s).n (after_end s).own (after_turn s) (allowed_same (after_turn s) (after_end s) (turn_edition s ∙ sym (after_end_edition s))) (turn_n s ∙ sym (after_end_n s)) (turn_own s ∙ sym (after_end_own s))
    (with_own_record_holds (after_end s) (after_end-shaped s shape) p)

pub turn_inside : (s : Station) → Shaped s → station_inside s ≡ true → station_inside (after_turn s) ≡ true
turn_inside s shape h = inside_make (after_turn s) (turn_holds s shape (inside_open s h))
