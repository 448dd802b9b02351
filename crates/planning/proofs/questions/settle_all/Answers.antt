-- The loop keeps `Settled`: the replies before its counter are settled in the round, and the others
-- are as they were.
use native.Mathlib.Omega.{arith}
use mathlib.Core.Bool.{not}
use mathlib.Core.Path.{sym, ap, ◌∙◌}
use Rattle.planning.proofs.QuestionPage.{not_settled, settled_start, settled_same, settled_kept, settled_more, named}
use Rattle.planning.proofs.questions.settle_all.Goals as goal

pub loop-i-init : goal.loop-i-init
loop-i-init c = settled_start _ _ _ _ _

pub overflow_cast-s : goal.overflow_cast-s
overflow_cast-s c =
    record { fits = omega (arith, (named _ _ _ c.requires.asked c.loop-i.i c.loop-i-test.true).1, c.requires.few) }

pub overflow_cast-r : goal.overflow_cast-r
overflow_cast-r c =
    record { fits = omega (arith, (named _ _ _ c.requires.asked c.loop-i.i c.loop-i-test.true).0, c.requires.few) }

pub received-requires : goal.received-requires
received-requires c =
    let a = named _ _ _ c.requires.asked c.loop-i.i c.loop-i-test.true in
    record {
      receiver = omega (arith, a.0, c.requires.few);
      sender = omega (arith, a.1, c.requires.few);
      room = c.requires.room _ a.1;
    }

pub loop-i-preserved : goal.loop-i-preserved
loop-i-preserved c =
    settled_more _ _ _ _ _ _ c.loop-i.i _ _ (omega (arith, c.requires.asked.few, c.requires.size)) c.received.ensures c.settle-reply.ensures
    c.loop-i.invariant

pub loop-i-preserved-then-is_some : goal.loop-i-preserved-then-is_some
loop-i-preserved-then-is_some c =
    settled_kept _ _ _ _ _ _ c.loop-i.i (sym c.is_some.ensures ∙ c.if-is_some.true) c.loop-i.invariant

pub loop-i-preserved-then-is_none : goal.loop-i-preserved-then-is_none
loop-i-preserved-then-is_none c =
    let none = not_settled _ _ (sym c.is_some.ensures ∙ c.if-is_some.false) (c.is_none.ensures ∙ ap not c.if-is_none.true) in
    settled_same _ _ _ _ _ _ c.loop-i.i _ c.received.ensures (none ∙ c.settle-reply.ensures) c.loop-i.invariant
