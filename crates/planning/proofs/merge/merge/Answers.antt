-- Each return is a case of the definition: the refusal of a log, a buffer without room, or the
-- merged log written.
use Rattle.std.proofs.Common.{sym, arith}
use Rattle.planning_spec.proofs.MergeInto.{merge_short, merge_done}
use Rattle.planning.proofs.merge.merge.Goals as goal

pub returns-then-merged-count : goal.returns-then-merged-count
returns-then-merged-count c =
    let a = c.args in
    let r = merge_short a.n a.first.now a.second.now a.merged.now (sym c.in_ok-judge_logs.ensures)
    (omega (arith, c.max-count.ensures, c.if-merged-count.true)) in
    record { answer = r.0; written = r.1 }

pub returns : goal.returns
returns c =
    let a = c.args in
    let r = merge_done a.n a.first.now a.second.now a.merged.now _ _
    (sym c.in_ok-judge_logs.ensures) c.max-count.ensures c.if-merged-count.false c.write_masks.ensures in
    record { answer = r.0; written = r.1 }
