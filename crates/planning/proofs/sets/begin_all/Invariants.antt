use Rattle.planning.specs.Sets.{AllBegun}
use Rattle.planning.proofs.sets.begin_all.Given as goal

abbrev pub invariant-loop-station : goal.invariant-loop-station
invariant-loop-station l = AllBegun l.station l.sets
