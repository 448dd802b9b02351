-- `hearing::hear_record` meets its contract: a record is passed over, or what is decided of it
-- beside the held one says what becomes of the notes.
use Rattle.std.proofs.Common.{◌∙◌, ◌≤◌, sym, refl, ap, subst, slice_index, inl, inr, arith}
use Rattle.frame_spec.specs.declared.Record.{Record}
use Rattle.hearing_spec.specs.declared.Ear.{Ear}
use Rattle.hearing_spec.proofs.FrameLoop.{station_at, next_passed, next_last, next_heard}
use Rattle.hearing_spec.proofs.Heeding.{after_calm}
use Rattle.hearing_spec.proofs.RecordSteps.{passed_same, passed_older, conflicted, heeded_room}
use Rattle.hearing.proofs.RecordCases.{equal_parts, newer_heard}
use Rattle.hearing.proofs.hear_record.Goals as goal

pub returns-then-same-clause-hears : goal.returns-then-same-clause-hears
returns-then-same-clause-hears c =
    let p = c.requires in
    let before = p.last.inside (slice_index c.args.bytes.now c.args.at) p.here.station in
    next_passed _ _ _ p.here _ p.last _ p.room
    (equal_parts _ _ _ before p.here.room (sym c.same.ensures ∙ c.if-same.true))

pub heed-requires-clause-station : goal.heed-requires-clause-station
heed-requires-clause-station c =
    omega (
      arith,
      ap (λ (r : Record). r.station) c.record_at-seen.ensures ∙ station_at c.args.bytes.now c.args.at,
      c.requires.here.station,
      c.requires.room.high,
    )

pub heed-requires-clause-room : goal.heed-requires-clause-room
heed-requires-clause-room c =
    let p = c.requires in
    let station = ap (λ (r : Record). r.station) c.record_at-seen.ensures ∙ station_at c.args.bytes.now c.args.at in
    rw station (heeded_room _ _ _ _ p.room p.here _ refl (sym c.age_at.ensures ∙ c.in-Newer.is))

pub returns-in-Newer : goal.returns-in-Newer
returns-in-Newer c =
    let p = c.requires in
    let heed = c.heed.ensures in
    let done =
    newer_heard _ _ _ _ _ _ _ p.room p.here p.some (sym c.age_at.ensures ∙ c.in-Newer.is) _ c.record_at-seen.ensures _ _ _ heed.ear heed.lens heed.taken in
    record {
      hears = next_heard _ _ _ p.here _ p.last _ p.room _ done.0;
      room = done.1;
      last = next_last _ _ _ p.here _ p.last _ p.room;
      calm = λ low _. subst (λ (z : Ear). z.refusal ≤ 8) (sym heed.ear) (after_calm _ _ _ _ low);
    }

pub returns-in-Conflicting-clause-hears : goal.returns-in-Conflicting-clause-hears
returns-in-Conflicting-clause-hears c =
    let p = c.requires in
    rw c.number-ear.ensures
    (next_heard _ _ _ p.here _ p.last _ p.room _ (conflicted _ _ _ _ p.room p.here _ refl (sym c.age_at.ensures ∙ c.in-Conflicting.is)).0)

pub returns-in-Same-clause-hears : goal.returns-in-Same-clause-hears
returns-in-Same-clause-hears c =
    let p = c.requires in
    next_heard _ _ _ p.here _ p.last _ p.room _
    (elim c.in-Same.is [
      | inl same ↦ passed_same _ _ _ _ p.room p.here _ refl (sym c.age_at.ensures ∙ same)
      | inr older ↦ passed_older _ _ _ _ p.room p.here _ refl (sym c.age_at.ensures ∙ older)
    ])
