use Rattle.planning_spec.specs.LinkLog.{links_of}
use Rattle.planning.specs.Stands.{Stands}
use Rattle.planning.proofs.forecast.of_rounds.Given as goal

abbrev pub invariant-loop-u : goal.invariant-loop-u
invariant-loop-u l = Stands (links_of l.n l.log) l.u l.sets l.ends l.last
