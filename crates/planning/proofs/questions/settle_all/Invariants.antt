use Rattle.planning.specs.Replies.{Settled}
use Rattle.planning.proofs.questions.settle_all.Given as goal

abbrev pub invariant-loop-i : goal.invariant-loop-i
invariant-loop-i l = Settled l.i l.page l.sets l.ends l.round l.initial.replies l.replies
