-- What one record does to a hearing: a newer one is heeded, a conflicting one refuses the frame,
-- and any other leaves the hearing as it is.
use Prim.Native.Nat.{ℕ, max}
use mathlib.Core.Bool.{Bool, true, false, cond, not, ◌&&◌, and-false, false≢true}
use mathlib.Core.List.{List, [], ◌∷◌, ◌++◌}
use mathlib.Core.Path.{◌≡◌, refl, sym, ap, ◌∙◌}
use native.Mathlib.Omega.{arith}
use lib.Dec.{eqb}
use borrow.Author.Tests.{eq-eqb, ne_eqb}
use Rattle.bodies.specs.Refusals.{done, lane_full, conflict, refuse_number}
use Rattle.labels.specs.declared.Age.{Age}
use Rattle.labels.specs.declared.Age.TheVariants.{Newer, Same, Conflicting, Older}
use Rattle.labels.specs.Newer.{is_newer, age_of}
use Rattle.lists.proofs.Laws.{and_right}
use Rattle.frame_spec.specs.declared.Record.{Record}
use Rattle.frame_spec.specs.Record.{record_label}
use Rattle.station_spec.specs.declared.Station.{Station}
use Rattle.station_spec.specs.State.{held_of, record_of, own_label}
use Rattle.station_spec.specs.Hearing.{Hearing, agree, age_in, takes, overfills, heard_newer, heard_as, hear_record, hear_records}

-- the station heeds the record: it is of another station, and newer than the one held of it
abbrev pub accepts : Station → Record → Bool
accepts s r =
    let k = r.station in
    not (eqb k s.own)
    && is_newer (held_of s k) (record_label (record_of s k) k) (record_of s k).count (own_label r) r.count

-- it has the own label and the count of the held one
abbrev pub level : Station → Record → Bool
level s r =
    let k = r.station in
    eqb (own_label r) (record_label (record_of s k) k) && eqb r.count (record_of s k).count

-- it conflicts: it is of another station, not newer, level with the held one, and does not agree
-- with it
abbrev pub conflicts : Station → Record → Bool
conflicts s r =
    let k = r.station in
    not (eqb k s.own)
    && (not (is_newer (held_of s k) (record_label (record_of s k) k) (record_of s k).count (own_label r) r.count)
    && (level s r && not (agree s.n (record_of s k) r)))

-- a newer record of another station
unfoldable pub heard_one : Hearing → Record → Hearing
heard_one h r =
    record {
      station = heard_newer h.station r;
      takings = h.takings ++ cond (takes h.station r) (record { source = r.station; body = r.body } ∷ []) [];
      refusal = max h.refusal (refuse_number (overfills h.station r) lane_full done);
    }

-- a conflicting one
abbrev pub stopped : Hearing → Hearing
stopped h = record { station = h.station; takings = h.takings; refusal = conflict }

hear_record-cond :
    (h : Hearing) (r : Record) →
    hear_record h r ≡ cond (accepts h.station r) (heard_one h r) (cond (conflicts h.station r) (stopped h) h)
unfolding hear_record heard_as heard_one age_of
hear_record-cond h r =
    let s = h.station in
    let k = r.station in
    go (eqb k s.own)
    (is_newer (held_of s k) (record_label (record_of s k) k) (record_of s k).count (own_label r) r.count)
    (level s r)
    (agree s.n (record_of s k) r)
  where
    go :
        (own newer even agreed : Bool) →
        cond own h (heard_as h r (cond newer Newer (cond even (cond agreed Same Conflicting) Older)))
        ≡ cond (not own && newer) (heard_one h r) (cond (not own && (not newer && (even && not agreed))) (stopped h) h)
    go true newer even agreed = refl
    go false true even agreed = refl
    go false false true true = refl
    go false false true false = refl
    go false false false agreed = refl

pub hear_record_skips :
    (h : Hearing) (r : Record) → accepts h.station r ≡ false → conflicts h.station r ≡ false → hear_record h r ≡ h
hear_record_skips h r e f = rw (hear_record-cond h r, e, f)

pub hear_record-accepts : (h : Hearing) (r : Record) → accepts h.station r ≡ true → hear_record h r ≡ heard_one h r
hear_record-accepts h r e = rw (hear_record-cond h r, e)

pub hear_record-conflicts :
    (h : Hearing) (r : Record) → accepts h.station r ≡ false → conflicts h.station r ≡ true → hear_record h r ≡ stopped h
hear_record-conflicts h r e f = rw (hear_record-cond h r, e, f)

-- a hearing that is not refused after a newer record was not refused before it, and no lane was too
-- full for it
pub not_refused : (full : Bool) (refusal : ℕ) → max refusal (refuse_number full lane_full done) ≡ done → (full ≡ false) × (refusal ≡ done)
not_refused true refusal e = absurd (omega (arith, e))
not_refused false refusal e = (refl, omega (arith, e))

-- what a record does, by its three cases
pub hear_record_cases :
    (P : Hearing → Type 0) (h : Hearing) (r : Record) →
    (accepts h.station r ≡ true → P (heard_one h r)) → (conflicts h.station r ≡ true → P (stopped h)) →
    (accepts h.station r ≡ false → conflicts h.station r ≡ false → P h) → P (hear_record h r)
hear_record_cases P h r newer conflicting other = go (accepts h.station r) (conflicts h.station r) refl refl
  where
    go : (t u : Bool) → accepts h.station r ≡ t → conflicts h.station r ≡ u → P (hear_record h r)
    go true u e f = rw (hear_record-accepts h r e) (newer e)
    go false true e f = rw (hear_record-conflicts h r e f) (conflicting f)
    go false false e f = rw (hear_record_skips h r e f) (other e f)

record_not_refused : (h : Hearing) (r : Record) → (hear_record h r).refusal ≡ done → h.refusal ≡ done
unfolding heard_one
record_not_refused h r =
    hear_record_cases (λ x. x.refusal ≡ done → h.refusal ≡ done) h r
    (λ e q. (not_refused (overfills h.station r) h.refusal q).1)
    (λ e q. absurd (omega (arith, q)))
    (λ e f q. q)

-- a hearing that is not refused after some records was not refused before them
pub records_not_refused : (h : Hearing) (rs : List Record) → (hear_records h rs).refusal ≡ done → h.refusal ≡ done
unfolding hear_records
records_not_refused h [] e = e
records_not_refused h (r ∷ rs) e = record_not_refused h r (records_not_refused (hear_record h r) rs e)

is_conflicting : Age → Bool
is_conflicting Newer = false
is_conflicting Same = false
is_conflicting Conflicting = true
is_conflicting Older = false

-- a record of another station that does not conflict is not of that age
pub conflicts_not :
    (s : Station) (r : Record) → (r.station ≡ s.own → ⊥) → conflicts s r ≡ false → age_in s r ≡ Conflicting → ⊥
unfolding is_conflicting age_of
conflicts_not s r other calm e =
    let k = r.station in
    let newer = is_newer (held_of s k) (record_label (record_of s k) k) (record_of s k).count (own_label r) r.count in
    let agreed = agree s.n (record_of s k) r in
    let quiet : (not newer && (level s r && not agreed)) ≡ false = rw (ne_eqb k s.own other) at calm in
    false≢true (sym quiet ∙ sym (go newer (level s r) agreed) ∙ ap is_conflicting e)
  where
    go :
        (newer even agreed : Bool) →
        is_conflicting (cond newer Newer (cond even (cond agreed Same Conflicting) Older)) ≡ (not newer && (even && not agreed))
    go true even agreed = refl
    go false true true = refl
    go false true false = refl
    go false false agreed = refl

-- a newer record does not conflict
pub heeded_calm : (s : Station) (r : Record) → accepts s r ≡ true → conflicts s r ≡ false
heeded_calm s r e =
    let k = r.station in
    let newer = is_newer (held_of s k) (record_label (record_of s k) k) (record_of s k).count (own_label r) r.count in
    rw (and_right (not (eqb k s.own)) newer e) (and-false (not (eqb k s.own)))

-- what a record of another station does, by its age
module _ (h : Hearing) (r : Record) (other : r.station ≡ h.station.own → ⊥) where
  as_aged : hear_record h r ≡ heard_as h r (age_in h.station r)
  unfolding hear_record
  as_aged = rw (ne_eqb r.station h.station.own other)

  pub hear_newer : age_in h.station r ≡ Newer → hear_record h r ≡ heard_one h r
  unfolding heard_as heard_one
  hear_newer e = as_aged ∙ ap (heard_as h r) e

  pub hear_same : age_in h.station r ≡ Same → hear_record h r ≡ h
  unfolding heard_as
  hear_same e = as_aged ∙ ap (heard_as h r) e

  pub hear_older : age_in h.station r ≡ Older → hear_record h r ≡ h
  unfolding heard_as
  hear_older e = as_aged ∙ ap (heard_as h r) e

  pub hear_conflicting : age_in h.station r ≡ Conflicting → hear_record h r ≡ stopped h
  unfolding heard_as
  hear_conflicting e = as_aged ∙ ap (heard_as h r) e

-- a record of the hearer itself
pub hear_own : (h : Hearing) (r : Record) → r.station ≡ h.station.own → hear_record h r ≡ h
unfolding hear_record
hear_own h r e = rw (eq-eqb r.station h.station.own e)
