-- Hearing cell by cell: a record that the station heeds changes the cell of its own station and the
-- count, and no other cell.
use Prim.Native.Nat.{ℕ, ◌<◌, ◌≤◌}
use mathlib.Core.Bool.{true, false, cond, ◌||◌}
use mathlib.Core.List.{List, [], ◌∷◌, ◌++◌}
use mathlib.Core.Path.{◌≡◌, refl, ◌∙◌}
use lib.Dec.{eqb}
use lib.ListN.{set}
use borrow.Author.Tests.{eq-eqb, ne_eqb}
use Rattle.labels.specs.Label.{successor}
use Rattle.labels.specs.Newer.{is_newer}
use Rattle.frame_spec.specs.declared.Record.{Record}
use Rattle.labels.specs.Packing.{labels_over}
use Rattle.labels.proofs.PackingLaws.{over_twice}
use Rattle.frame_spec.specs.Record.{record_label, framed}
use Rattle.frame_spec.proofs.Labels.{label_fits, label_below, label_above, labels_kept, framed_label}
use Rattle.station_spec.specs.declared.Station.{Station}
use Rattle.queues.specs.Lane.{pushed}
use Rattle.station_spec.specs.State.{cell_of, label_of, acked_of, held_of, record_of, lane_at, own_label, with_broadcast, with_cell}
use Rattle.station_spec.specs.Hearing.{Hearing, advances, takes, saturating_suc, replaced, heard_newer, hear_record, hear_records}
use Rattle.station_spec.proofs.HearRecord.{accepts, conflicts}
use Rattle.station_spec.proofs.Setters.{Shaped, broadcast_cell, broadcast_shaped, cell_self, cell_here, cell_other}

-- a station never heeds a record of itself, and heeds one of another station where it is newer
module _ (s : Station) (r : Record) where
  pub accepts_own : r.station ≡ s.own → accepts s r ≡ false
  accepts_own e = rw (eq-eqb r.station s.own e)

  pub conflicts_own : r.station ≡ s.own → conflicts s r ≡ false
  conflicts_own e = rw (eq-eqb r.station s.own e)

  pub accepts_newer :
      (r.station ≡ s.own → ⊥) →
      accepts s r
      ≡ is_newer (held_of s r.station) (record_label (record_of s r.station) r.station) (record_of s r.station).count
      (own_label r) r.count
  accepts_newer d = rw (ne_eqb r.station s.own d)

-- the fields of a record as a frame carries it, and of one put in the place of another
pub framed_station : (n : ℕ) (r : Record) → (framed n r).station ≡ r.station
unfolding framed
framed_station n r = refl

pub framed_count : (n : ℕ) (r : Record) → (framed n r).count ≡ r.count
unfolding framed
framed_count n r = refl

pub framed_body : (n : ℕ) (r : Record) → (framed n r).body ≡ r.body
unfolding framed
framed_body n r = refl

module _ (n : ℕ) (old r : Record) where
  replaced_word : (replaced n old r).labels ≡ labels_over n (record_label r) old.labels
  unfolding replaced
  replaced_word = refl

  pub replaced_label : (k : ℕ) → k < n → record_label (replaced n old r) k ≡ record_label r k
  replaced_label k l = label_below n (record_label r) (λ j b. label_fits r j) (replaced n old r) old.labels k replaced_word l

  pub replaced_above : (k : ℕ) → n ≤ k → record_label (replaced n old r) k ≡ record_label old k
  replaced_above k l = label_above n (record_label r) (λ j b. label_fits r j) (replaced n old r) old k replaced_word l

  pub replaced_station : (replaced n old r).station ≡ r.station
  unfolding replaced
  replaced_station = refl

  pub replaced_count : (replaced n old r).count ≡ r.count
  unfolding replaced
  replaced_count = refl

  pub replaced_body : (replaced n old r).body ≡ r.body
  unfolding replaced
  replaced_body = refl

-- of two records put one after the other the second decides
pub replaced_twice : (n : ℕ) (old q r : Record) → replaced n (replaced n old q) r ≡ replaced n old r
unfolding replaced
replaced_twice n old q r = rw (over_twice n (record_label r) (record_label q) old.labels (λ j l. label_fits q j))

-- a record in the place of itself, as a frame carries it
pub replaced-framed : (n : ℕ) (r : Record) → replaced n r (framed n r) ≡ r
unfolding replaced framed
replaced-framed n r = rw (labels_kept n (record_label (framed n r)) r (λ k l. framed_label n r k l))

module _ (s : Station) (r : Record) where
  abbrev counted : Station
  counted = with_broadcast s s.body (cond (advances s r) (saturating_suc s.count) s.count)

  -- the other cells
  pub heard_other : (k : ℕ) → (k ≡ r.station → ⊥) → cell_of (heard_newer s r) k ≡ cell_of s k
  unfolding heard_newer
  heard_other k d = cell_other counted r.station _ k d ∙ broadcast_cell s s.body _ k

  -- the cell of the record's own station
  pub heard_here :
      Shaped s → r.station < 16 →
      cell_of (heard_newer s r) r.station
      ≡ record {
        label = cond (advances s r) (successor (label_of s r.station)) (label_of s r.station);
        acked = acked_of s r.station || eqb (record_label r s.own) (label_of s s.own);
        held = true;
        entry = replaced s.n (record_of s r.station) r;
        lane = cond (takes s r) (pushed (lane_at s r.station) r.body) (lane_at s r.station);
      }
  unfolding heard_newer
  heard_here shape l = cell_here counted r.station _ (broadcast_shaped s s.body _ shape) l

  -- the arrays of which a cell has one entry
  pub heard_acked :
      (heard_newer s r).acked
      ≡ set s.acked r.station (acked_of s r.station || eqb (record_label r s.own) (label_of s s.own))
  unfolding heard_newer with_cell
  heard_acked = refl

  pub heard_labels :
      (heard_newer s r).labels
      ≡ set s.labels r.station (cond (advances s r) (successor (label_of s r.station)) (label_of s r.station))
  unfolding heard_newer with_cell
  heard_labels = refl

  pub heard_lanes :
      (heard_newer s r).lanes
      ≡ set s.lanes r.station (cond (takes s r) (pushed (lane_at s r.station) r.body) (lane_at s r.station))
  unfolding heard_newer with_cell
  heard_lanes = refl

  -- what is no cell
  pub heard_n : (heard_newer s r).n ≡ s.n
  unfolding heard_newer
  heard_n = (cell_self counted r.station _).n

  pub heard_own : (heard_newer s r).own ≡ s.own
  unfolding heard_newer
  heard_own = (cell_self counted r.station _).own

  pub heard_edition : (heard_newer s r).edition ≡ s.edition
  unfolding heard_newer
  heard_edition = (cell_self counted r.station _).edition

  pub heard_waiting : (heard_newer s r).waiting ≡ s.waiting
  unfolding heard_newer
  heard_waiting = (cell_self counted r.station _).waiting

  pub heard_body : (heard_newer s r).body ≡ s.body
  unfolding heard_newer
  heard_body = (cell_self counted r.station _).body

  pub heard_count : (heard_newer s r).count ≡ cond (advances s r) (saturating_suc s.count) s.count
  unfolding heard_newer
  heard_count = (cell_self counted r.station _).count

-- records heard one list after the other
pub hear_records-append : (h : Hearing) (xs ys : List Record) → hear_records h (xs ++ ys) ≡ hear_records (hear_records h xs) ys
unfolding hear_records
hear_records-append h [] ys = refl
hear_records-append h (x ∷ xs) ys = hear_records-append (hear_record h x) xs ys

pub hear_records_one : (h : Hearing) (r : Record) → hear_records h (r ∷ []) ≡ hear_record h r
unfolding hear_records
hear_records_one h r = refl

pub hear_records_none : (h : Hearing) → hear_records h [] ≡ h
unfolding hear_records
hear_records_none h = refl
