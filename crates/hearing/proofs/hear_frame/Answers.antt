-- `hearing::hear_frame` meets its contract. The loop's invariant is that of `FrameLoop`: the notes
-- stand for the hearing of the first r records.
use Rattle.std.proofs.Common.{◌∙◌, sym, arith}
use native.Mathlib.Numerals.{add-one}
use Rattle.hearing_spec.proofs.FrameLoop.{frame_first, record_room, frame_more, frame_conflicts, frame_end}
use Rattle.hearing.proofs.hear_frame.Goals as goal

pub loop-r-init : goal.loop-r-init
loop-r-init c = frame_first _ _ _ _ _ c.requires.room c.requires.last

pub hear_record-requires-clause-here : goal.hear_record-requires-clause-here
hear_record-requires-clause-here c = record_room _ _ _ c.requires.frame c.loop-r-test.true

pub returns-then-ear-number-clause-hears : goal.returns-then-ear-number-clause-hears
returns-then-ear-number-clause-hears c =
    frame_conflicts _ _ _ _ _ _ _ _ c.loop-r.invariant _ _ c.hear_record.ensures.hears c.loop-r-test.true (c.if-ear-number.true ∙ c.number.ensures)

pub loop-r-preserved : goal.loop-r-preserved
loop-r-preserved c =
    let heard = c.hear_record.ensures in
    rw add-one (frame_more _ _ _ _ _ _ _ _ c.loop-r.invariant _ _ heard.hears heard.room heard.last
    (λ low. heard.calm low (λ z. c.if-ear-number.false (z ∙ sym c.number.ensures))))

pub returns-clause-hears : goal.returns-clause-hears
returns-clause-hears c = frame_end _ _ _ _ _ _ _ _ c.loop-r.invariant (omega arith)
