use lib.ListN.{get_or}
use Rattle.planning.specs.Sets.{FirstAre, with_receiver}
use Rattle.planning.proofs.sets.add_receiver.Given as goal

abbrev pub invariant-loop-s : goal.invariant-loop-s
invariant-loop-s l = FirstAre l.s l.initial.row l.row (λ k. with_receiver l.p k (get_or l.initial.row k 0))
