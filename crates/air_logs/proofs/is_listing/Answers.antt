use Rattle.std.proofs.Common.{ℕ, List, ◌-◌, ◌%◌, ◌<◌, length, drop, sym, ap, ◌∙◌}
use Rattle.std.specs.Slice.Iter.{chunks_exact_rest}
use Rattle.listing_lines.specs.Lines.{end_line}
use Rattle.air_logs_spec.specs.Form.{is_listing, same_bytes}
use Rattle.air_logs.proofs.Lines.{judged_no, judged_yes, judged_last, last_onward}
use Rattle.air_logs.proofs.is_listing.Goals as goal

pub loop-line-init : goal.loop-line-init
loop-line-init c =
    let lines = c.chunks_exact-lines.ensures in
    rw c.into_iter-line-iterator.ensures.into_iter_gives
    (record {
      size = lines.size;
      same = ap is_listing lines.rest;
      last = rw (lines.rest) (c.remainder-last.ensures ∙ lines.remainder);
    })

pub returns-then-not-is_ended_line : goal.returns-then-not-is_ended_line
returns-then-not-is_ended_line c =
    let it = c.loop-line.invariant in
    let step = c.in-Some.ensures.steps in
    let long = step.1.1 ∙ it.size in
    sym
    (sym it.same
    ∙ ap is_listing step.1.0
    ∙ judged_no c.in-Some.line.now _ long (sym c.is_ended_line.ensures ∙ c.if-not-is_ended_line.true))

pub loop-line-preserved : goal.loop-line-preserved
loop-line-preserved c =
    let it = c.loop-line.invariant in
    let line = c.in-Some.line.now in
    let step = c.in-Some.ensures.steps in
    let long = step.1.1 ∙ it.size in
    let ended = sym c.is_ended_line.ensures ∙ c.if-not-is_ended_line.false in
    record {
      size = step.0 ∙ it.size;
      same = judged_yes line _ long ended ∙ ap is_listing (sym step.1.0) ∙ it.same;
      last = it.last ∙ ap (λ (s : List ℕ). drop (length s - length s % 35) s) step.1.0 ∙ last_onward line _ long;
    }

pub returns : goal.returns
returns c =
    let it = c.loop-line.invariant in
    let left = chunks_exact_rest c.loop-line.line-iterator in
    let short : length left < 35 = rw it.size at c.in-None.ensures.steps.1.0 in
    c.is_last_line.ensures ∙ ap (λ (s : List ℕ). same_bytes s end_line) it.last ∙ sym (judged_last left short) ∙ it.same
