use Rattle.planning.specs.Sets.{Closed}
use Rattle.planning.proofs.sets.close.Given as goal

abbrev pub invariant-loop-s : goal.invariant-loop-s
invariant-loop-s l = Closed l.s l.n l.round l.initial.sets l.sets l.initial.ends l.ends l.initial.last l.last
