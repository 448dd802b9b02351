-- A record as the code hears it: the bytes of the one heard last are cut from the frames, and a
-- newer record is acted on once its place is put down.
use Prim.Native.Nat.{ℕ, ◌+◌, ◌≤◌, ◌<◌}
use mathlib.Core.Bool.{true}
use mathlib.Core.List.{List}
use mathlib.Core.Path.{◌≡◌, refl, sym, ap, subst, ◌∙◌}
use lib.ListN.{get_or, set, take, drop, length}
use Rattle.labels.specs.declared.Age.TheVariants.{Newer}
use Rattle.frame_spec.specs.declared.Record.{Record}
use Rattle.hearing_spec.specs.declared.Ear.{Ear}
use Rattle.hearing_spec.specs.Buffer.{record_at}
use Rattle.hearing_spec.specs.StandsFor.{notes}
use Rattle.hearing_spec.specs.Heeding.{same_bytes, age_at, ear_after, lens_after, taken_after}
use Rattle.hearing_spec.specs.Room.{RecordRoom, Room}
use Rattle.hearing_spec.specs.Promises.{HearsRecord}
use Rattle.hearing_spec.proofs.EqualRecords.{same_open}
use Rattle.hearing_spec.proofs.Heeding.{noted}
use Rattle.hearing_spec.proofs.FrameLoop.{station_at}
use Rattle.hearing_spec.proofs.RecordSteps.{heeded}
use Rattle.hearing.proofs.RecordParts.{part_at, part_is, part_long}

-- the two have the same sixteen bytes
pub equal_parts :
    (bytes : List ℕ) (before at : ℕ) → before + 16 ≤ length bytes → at + 16 ≤ length bytes →
    same_bytes (part_at bytes before) (part_at bytes at) ≡ true → take 16 (drop before bytes) ≡ take 16 (drop at bytes)
equal_parts bytes before at b l e =
    sym (part_is bytes before) ∙ same_open _ _ (part_long bytes before b) (part_long bytes at l) e ∙ part_is bytes at

-- what the code does with a newer record is what hearing does
pub newer_heard :
    (own : ℕ) (bytes : List ℕ) (at : ℕ) (places lens taken : List ℕ) (e : Ear) (room : Room own bytes (notes places lens taken e)) →
    RecordRoom bytes at → 0 < at → age_at own bytes (get_or places (get_or bytes at 0) 0) at (get_or bytes at 0) ≡ Newer →
    (seen : Record) → seen ≡ record_at bytes at → (lens' taken' : List ℕ) (e' : Ear) →
    e' ≡ ear_after own lens e seen → lens' ≡ lens_after lens e seen → taken' ≡ taken_after lens taken e seen at →
    HearsRecord own bytes at (notes places lens taken e) (notes (set places (get_or bytes at 0) at) lens' taken' e')
    × Room own bytes (notes (set places (get_or bytes at 0) at) lens' taken' e')
newer_heard own bytes at places lens taken e room here some newer seen seen_is lens' taken' e' ear_is lens_are taken_are =
    let x = notes places lens taken e in
    let k = get_or bytes at 0 in
    let is : notes (set places k at) lens' taken' e' ≡ noted own at (record_at bytes at) x =
    ap (λ (m : ℕ). notes (set places m at) lens' taken' e') (sym (station_at bytes at))
    ∙ (λ i. notes (set places (record_at bytes at).station at) (lens_are i) (taken_are i) (ear_is i))
    ∙ (λ i.
    notes (set places (record_at bytes at).station at) (lens_after lens e (seen_is i)) (taken_after lens taken e (seen_is i) at)
    (ear_after own lens e (seen_is i))) in
    let h = heeded own bytes at x room here k refl newer some in
    (subst (HearsRecord own bytes at x) (sym is) h.0, subst (Room own bytes) (sym is) h.1)
