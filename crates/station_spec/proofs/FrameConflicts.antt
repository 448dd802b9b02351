-- Conflicts in a frame. Its records are of different stations, and hearing one leaves what is held
-- of the others. So a frame is refused with 14 exactly if one of its records conflicts with the
-- table as it stood when the frame came, wherever an overfull lane is met.
use Prim.Native.Nat.{ℕ, max, ◌≤◌}
use mathlib.Core.Bool.{Bool, true, false, not, ◌&&◌, ◌||◌, or-false, or-true, or_assoc}
use mathlib.Core.List.{List, [], ◌∷◌}
use mathlib.Core.Path.{◌≡◌, refl, sym, ap, ap₂, ◌∙◌}
use native.Mathlib.Decide.{ℕ_discrete}
use native.Mathlib.Omega.{arith}
use lib.Dec.{eqb}
use borrow.Author.Tests.{eqb-true, eq-eqb, ne_eqb}
use Rattle.bodies.specs.Refusals.{done, lane_full, conflict, refuse_number}
use Rattle.labels.specs.Newer.{is_newer}
use Rattle.frame_spec.specs.declared.Record.{Record}
use Rattle.frame_spec.specs.Record.{record_label}
use Rattle.station_spec.specs.declared.Station.{Station}
use Rattle.station_spec.specs.State.{Cell, cell_of, own_label}
use Rattle.station_spec.specs.Hearing.{Hearing, agree, overfills, heard_newer, hear_record, hear_records, hear_frame}
use Rattle.station_spec.proofs.HearRecord.{conflicts, heard_one, heeded_calm, hear_record_cases}
use Rattle.station_spec.proofs.Cells.{heard_n, heard_own, heard_other}

-- the refusals of hearing are at most 14
pub record_most : (h : Hearing) (r : Record) → h.refusal ≤ conflict → (hear_record h r).refusal ≤ conflict
unfolding heard_one
record_most h r p =
    hear_record_cases (λ x. x.refusal ≤ conflict) h r (λ e. newer (overfills h.station r)) (λ e. omega arith) (λ e f. p)
  where
    newer : (full : Bool) → max h.refusal (refuse_number full lane_full done) ≤ conflict
    newer true = omega arith
    newer false = omega arith

-- after a record the refusal is 14 where it was before, or where the record conflicts
record_stops :
    (h : Hearing) (r : Record) → h.refusal ≤ conflict →
    eqb (hear_record h r).refusal conflict ≡ (eqb h.refusal conflict || conflicts h.station r)
unfolding heard_one
record_stops h r p =
    hear_record_cases (λ x. eqb x.refusal conflict ≡ (eqb h.refusal conflict || conflicts h.station r)) h r
    (λ e. rw (heeded_calm h.station r e) (newer (overfills h.station r) ∙ sym (or-false (eqb h.refusal conflict))))
    (λ e. rw e (sym (or-true (eqb h.refusal conflict))))
    (λ e f. rw f (sym (or-false (eqb h.refusal conflict))))
  where
    newer : (full : Bool) → eqb (max h.refusal (refuse_number full lane_full done)) conflict ≡ eqb h.refusal conflict
    newer full =
        elim (ℕ_discrete h.refusal conflict) [
          | yes e ↦ eq-eqb (max h.refusal (refuse_number full lane_full done)) conflict (most full e) ∙ sym (eq-eqb h.refusal conflict e)
          | no d ↦ ne_eqb (max h.refusal (refuse_number full lane_full done)) conflict (below full d) ∙ sym (ne_eqb h.refusal conflict d)
        ]
      where
        most : (f : Bool) → h.refusal ≡ conflict → max h.refusal (refuse_number f lane_full done) ≡ conflict
        most true e = omega arith
        most false e = omega arith

        below : (f : Bool) → (h.refusal ≡ conflict → ⊥) → max h.refusal (refuse_number f lane_full done) ≡ conflict → ⊥
        below true d e = d (omega arith)
        below false d e = d (omega arith)

-- once the refusal is 14 it stays, whatever records follow
pub conflict_stays : (h : Hearing) (r : Record) → h.refusal ≡ conflict → (hear_record h r).refusal ≡ conflict
conflict_stays h r e =
    eqb-true (hear_record h r).refusal conflict (record_stops h r (omega (arith, e)) ∙ rw (eq-eqb h.refusal conflict e))

-- some record of the list conflicts with what the station holds
unfoldable pub any_conflict : Station → List Record → Bool
any_conflict s [] = false
any_conflict s (r ∷ rs) = conflicts s r || any_conflict s rs

-- the stations of the records differ from k, and from each other, as where they ascend
abbrev pub Without : ℕ → List Record → Type 0
Without k [] = Unit {0}
Without k (r ∷ rs) = (r.station ≡ k → ⊥) × Without k rs

abbrev pub Different : List Record → Type 0
Different [] = Unit {0}
Different (r ∷ rs) = Without r.station rs × Different rs

-- whether a record conflicts is told from its cell, the own number and n
cell_conflicts : ℕ → ℕ → Cell → Record → Bool
cell_conflicts n own c r =
    let k = r.station in
    not (eqb k own)
    && (not (is_newer c.held (record_label c.entry k) c.entry.count (own_label r) r.count)
    && ((eqb (own_label r) (record_label c.entry k) && eqb r.count c.entry.count) && not (agree n c.entry r)))

conflicts_cell : (s : Station) (r : Record) → conflicts s r ≡ cell_conflicts s.n s.own (cell_of s r.station) r
unfolding cell_conflicts
conflicts_cell s r = refl

-- so a newer record of one station changes nothing for a record of another
pub newer_leaves :
    (s : Station) (r q : Record) → (q.station ≡ r.station → ⊥) → conflicts (heard_newer s r) q ≡ conflicts s q
newer_leaves s r q d =
    let t = heard_newer s r in
    conflicts_cell t q
    ∙ ap (λ (n : ℕ). cell_conflicts n t.own (cell_of t q.station) q) (heard_n s r)
    ∙ ap (λ (own : ℕ). cell_conflicts s.n own (cell_of t q.station) q) (heard_own s r)
    ∙ ap (λ (c : Cell). cell_conflicts s.n s.own c q) (heard_other s r q.station d)
    ∙ sym (conflicts_cell s q)

conflicts_other :
    (h : Hearing) (r q : Record) → (q.station ≡ r.station → ⊥) → conflicts (hear_record h r).station q ≡ conflicts h.station q
unfolding heard_one
conflicts_other h r q d =
    hear_record_cases (λ x. conflicts x.station q ≡ conflicts h.station q) h r (λ e. newer_leaves h.station r q d) (λ e. refl)
    (λ e f. refl)

any_other :
    (h : Hearing) (r : Record) (rs : List Record) → Without r.station rs →
    any_conflict (hear_record h r).station rs ≡ any_conflict h.station rs
unfolding any_conflict
any_other h r [] w = refl
any_other h r (q ∷ rs) w = ap₂ ◌||◌ (conflicts_other h r q w.0) (any_other h r rs w.1)

records_stop :
    (h : Hearing) (rs : List Record) → Different rs → h.refusal ≤ conflict →
    eqb (hear_records h rs).refusal conflict ≡ (eqb h.refusal conflict || any_conflict h.station rs)
unfolding hear_records any_conflict
records_stop h [] w p = sym (or-false (eqb h.refusal conflict))
records_stop h (r ∷ rs) w p =
    records_stop (hear_record h r) rs w.1 (record_most h r p)
    ∙ ap₂ ◌||◌ (record_stops h r p) (any_other h r rs w.0)
    ∙ or_assoc (eqb h.refusal conflict) (conflicts h.station r) (any_conflict h.station rs)

-- the first refused frame decides: after it none is heard
pub refused_stays : (h : Hearing) (rs : List Record) → (h.refusal ≡ done → ⊥) → hear_frame h rs ≡ h
unfolding hear_frame
refused_stays h rs d = rw (ne_eqb h.refusal done d)

-- a frame heard while nothing was refused gives 14 exactly if one of its records conflicts with
-- what is held as it comes
pub frame_conflicts :
    (h : Hearing) (rs : List Record) → Different rs → h.refusal ≡ done →
    eqb (hear_frame h rs).refusal conflict ≡ any_conflict h.station rs
unfolding hear_frame
frame_conflicts h rs w e =
    rw (eq-eqb h.refusal done e)
    (records_stop h rs w (omega (arith, e)) ∙ rw (ne_eqb h.refusal conflict (λ f. omega (arith, e, f))))
