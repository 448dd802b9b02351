-- Hearing keeps the limits: a record that a frame may carry, heard by a station inside its limits,
-- leaves it inside, unless a lane that holds two would get a third. Only the record's own place
-- changes, and it is never the hearer's.
use Prim.Native.Nat.{ℕ, ◌+◌, ◌%◌, ◌<◌}
use mathlib.Core.Bool.{Bool, true, false, cond, not, ◌&&◌, ◌||◌}
use mathlib.Core.Path.{◌≡◌, refl, sym, ap, subst, ◌∙◌}
use native.Mathlib.Decide.{ℕ_discrete}
use native.Mathlib.Omega.{arith}
use lib.Dec.{leb, eqb}
use borrow.Author.Tests.{leb-false, le-leb, ne_eqb, eqb-false, not-true}
use Rattle.bodies.specs.declared.Body.{Body}
use Rattle.bodies.specs.Body.{is_empty}
use Rattle.labels.specs.Label.{is_label, successor}
use Rattle.labels.specs.Newer.{is_newer}
use Rattle.frame_spec.specs.declared.Record.{Record}
use Rattle.frame_spec.specs.Record.{record_label, count_inside}
use Rattle.lists.proofs.Laws.{and_both, and_left, and_right}
use Rattle.lists.proofs.Keeps.{cond_keeps}
use Rattle.station_spec.specs.declared.Station.{Station}
use Rattle.queues.specs.Lane.{pushed}
use Rattle.station_spec.specs.State.{Cell, cell_of, label_of, held_of, record_of, lane_at, own_label}
use Rattle.station_spec.specs.Limits.{lane_inside, takeable, allowed}
use Rattle.station_spec.specs.Hearing.{advances, takes, replaced, heard_newer}
use Rattle.station_spec.proofs.BodyLaws.{allowed_same}
use Rattle.station_spec.proofs.HearRecord.{accepts}
use Rattle.station_spec.proofs.Setters.{Shaped}
use Rattle.station_spec.proofs.LimitsLane.{pushed_inside}
use Rattle.station_spec.proofs.StationLimits.{RecordHolds, CellHolds, Inside, inside_as}
use Rattle.station_spec.proofs.Cells.{replaced_label, replaced_station, replaced_count, replaced_body, heard_n, heard_own, heard_edition, heard_waiting, heard_body, heard_here, heard_other}

-- a record that a frame among n stations may carry
pub record Carried (inside : Body → Bool) (n : ℕ) (r : Record) : Type 0 where
  pub station : r.station < n
  pub count : count_inside n r.count ≡ true
  pub body : inside r.body ≡ true
  pub labels : (j : ℕ) → j < n → is_label (record_label r j) ≡ true

pub successor_label : (x : ℕ) → is_label (successor x) ≡ true
successor_label x = le-leb ((x + 1) % 3) 2 (omega arith)

-- a record that the station heeds is of another station
pub accepts_other : (s : Station) (r : Record) → accepts s r ≡ true → r.station ≡ s.own → ⊥
accepts_other s r h =
    eqb-false r.station s.own
    (not-true (eqb r.station s.own)
    (and_left (not (eqb r.station s.own))
    (is_newer (held_of s r.station) (record_label (record_of s r.station) r.station) (record_of s r.station).count
    (own_label r) r.count) h))

takes-takeable :
    (inside : Body → Bool) (s : Station) (r : Record) → inside r.body ≡ true → takes s r ≡ true → takeable inside r.body ≡ true
takes-takeable inside s r b h =
    and_both (and_right (advances s r) (not (is_empty r.body)) h) b

module _ (s : Station) (r : Record) (shape : Shaped s) (c : Inside s) (carry : Carried (allowed s) s.n r) where
  replaced_holds :
      (own : ℕ) → RecordHolds (allowed s) s.n own r.station (replaced s.n (record_of s r.station) r)
  replaced_holds own =
      let old = record_of s r.station in
      record {
        station = replaced_station s.n old r;
        count = rw (replaced_count s.n old r) (cond_or (eqb r.station own) (count_inside s.n r.count) carry.count);
        body = rw (replaced_body s.n old r) carry.body;
        labels = λ j l. rw (replaced_label s.n old r j l) (carry.labels j l);
      }
    where
      cond_or : (a b : Bool) → b ≡ true → (a || b) ≡ true
      cond_or true b e = refl
      cond_or false b e = e

  heard_lane_inside :
      (accepts s r ≡ true) → (takes s r && leb 2 (lane_at s r.station).len) ≡ false → lane_inside (allowed s) 2 (lane_at s r.station) ≡ true →
      lane_inside (allowed s) 2 (cond (takes s r) (pushed (lane_at s r.station) r.body) (lane_at s r.station)) ≡ true
  heard_lane_inside h full before = go (takes s r) refl
    where
      go : (t : Bool) → takes s r ≡ t → lane_inside (allowed s) 2 (cond t (pushed (lane_at s r.station) r.body) (lane_at s r.station)) ≡ true
      go true e =
          let room : (lane_at s r.station).len < 2 = leb-false 2 (lane_at s r.station).len (rw e at full) in
          pushed_inside (allowed s) 2 (lane_at s r.station) r.body before room room (takes-takeable (allowed s) s r carry.body e)
      go false e = before

  heard_cell :
      (accepts s r ≡ true) → (takes s r && leb 2 (lane_at s r.station).len) ≡ false →
      CellHolds (allowed s) s.n s.own r.station (cell_of (heard_newer s r) r.station)
  heard_cell h full =
      let before = c.places r.station carry.station in
      let most : ◌≡◌ {A = ℕ} (cond (eqb r.station s.own) 1 2) 2 = rw (ne_eqb r.station s.own (accepts_other s r h)) in
      rw (heard_here s r shape (omega arith))
      (record {
        label =
            cond_keeps (λ (x : ℕ). is_label x ≡ true) (advances s r) (successor (label_of s r.station)) (label_of s r.station)
            (successor_label (label_of s r.station)) before.label;
        held = λ e. replaced_holds s.own;
        lane = rw most (heard_lane_inside h full (rw most at before.lane));
      })

  pub heard_holds :
      (accepts s r ≡ true) → (takes s r && leb 2 (lane_at s r.station).len) ≡ false → Inside (heard_newer s r)
  heard_holds h full =
      let same = heard_other s r s.own (λ e. accepts_other s r h (sym e)) in
      inside_as (allowed s) s.n s.own (heard_newer s r) (allowed_same (heard_newer s r) s (heard_edition s r)) (heard_n s r) (heard_own s r)
      (record {
        known = omega (arith, heard_edition s r, c.known);
        low = c.low;
        high = c.high;
        own = c.own;
        acked = ap (λ (x : Cell). x.acked) same ∙ c.acked;
        held = ap (λ (x : Cell). x.held) same ∙ c.held;
        body = rw (heard_body s r) c.body;
        waiting = rw (heard_waiting s r) c.waiting;
        places =
            λ j l. elim (ℕ_discrete j r.station) [
              | yes e ↦ subst (λ (i : ℕ). CellHolds (allowed s) s.n s.own i (cell_of (heard_newer s r) i)) (sym e) (heard_cell h full)
              | no d ↦ rw (heard_other s r j d) (c.places j l)
            ];
      })
