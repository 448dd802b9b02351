use Rattle.planning.proofs.Listening.{Heard}
use Rattle.planning.proofs.sets.listen.Given as goal

abbrev pub invariant-loop-rest : goal.invariant-loop-rest
invariant-loop-rest l = Heard l.n l.mask l.before l.initial.row l.row l.rest

abbrev pub decreases-loop-rest : goal.decreases-loop-rest
decreases-loop-rest l = l.rest
