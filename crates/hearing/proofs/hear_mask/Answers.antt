-- `hearing::hear_mask` meets its contract. The loop's invariant is that of `MaskLoop`: the frames
-- of the senders below j are heard, and none of them was refused.
use Rattle.std.proofs.Common.{◌∙◌, sym, arith}
use native.Mathlib.Numerals.{add-one}
use Rattle.hearing_spec.proofs.MaskLoop.{mask_first, mask_end, mask_silent, mask_heard, mask_refused}
use Rattle.hearing.proofs.hear_mask.Goals as goal

pub loop-j-init : goal.loop-j-init
loop-j-init c = mask_first _ _ _ _ _ c.requires.fine c.requires.room c.requires.last

pub loop-j-preserved-then-not-hears : goal.loop-j-preserved-then-not-hears
loop-j-preserved-then-not-hears c =
    rw add-one (mask_silent _ _ _ _ _ _ _ _ c.loop-j.invariant (omega (arith, c.loop-j-test.true, c.requires.size)) (sym c.hears.ensures ∙ c.if-not-hears.true))

pub returns-then-ear-ne-NOT_REFUSED-clause-hears : goal.returns-then-ear-ne-NOT_REFUSED-clause-hears
returns-then-ear-ne-NOT_REFUSED-clause-hears c =
    mask_refused _ _ _ _ _ _ _ _ c.loop-j.invariant (omega (arith, c.loop-j-test.true, c.requires.size)) _ _
    (sym c.hears.ensures ∙ c.if-not-hears.false) c.hear_frame.ensures.hears c.if-ear-ne-NOT_REFUSED.true

pub loop-j-preserved : goal.loop-j-preserved
loop-j-preserved c =
    let heard = c.hear_frame.ensures in
    rw add-one (mask_heard _ _ _ _ _ _ _ _ c.loop-j.invariant (omega (arith, c.loop-j-test.true, c.requires.size)) _ _
    (sym c.hears.ensures ∙ c.if-not-hears.false) heard.hears c.if-ear-ne-NOT_REFUSED.false heard.room heard.last)

pub returns-clause-hears : goal.returns-clause-hears
returns-clause-hears c = mask_end _ _ _ _ _ _ _ _ c.loop-j.invariant (omega (arith, c.requires.size))
