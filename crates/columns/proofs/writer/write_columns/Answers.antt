-- `columns::writer::write_columns` writes the digits from the right. The invariant: the columns of
-- what is left of the number, and then the columns written, are the columns of the whole number.
use Rattle.std.proofs.Common.{◌≡◌, sym, ◌∙◌, arith, length, suc, take, ◌+◌, ◌-◌, ◌%◌, ◌<◌}
use lib.ListN.{set, length-set}
use lib.Seq.{length-take-le}
use Rattle.columns.specs.Writing.{columns}
use Rattle.columns.proofs.Fields.{digit_more, digit_last}
use Rattle.columns.proofs.writer.write_columns.Goals as goal

pub returns-then-rest-lt10 : goal.returns-then-rest-lt10
returns-then-rest-lt10 c =
    let l = c.loop-i in
    let last : l.i ≡ suc (l.i - 1) = omega arith in
    let inside : l.i - 1 < length l.part = omega arith in
    let room : length (take (l.i - 1) (set l.part (l.i - 1) (48 + l.rest % 10))) ≡ l.i - 1 = length-take-le _ _ (simp length-set (omega arith)) in
    rw (c.write_lead.ensures, room) (sym (l.invariant ∙ digit_last _ l.rest l.part last inside c.if-rest-lt10.true))

pub loop-i-preserved : goal.loop-i-preserved
loop-i-preserved c =
    let last : c.loop-i.i ≡ suc (c.loop-i.i - 1) = omega arith in
    c.loop-i.invariant ∙ digit_more _ c.loop-i.rest c.loop-i.part last (omega arith) (omega arith)

pub returns : goal.returns
unfolding columns
returns c =
    let none : c.loop-i.i ≡ 0 = omega arith in
    sym (c.loop-i.invariant ∙ rw none)
