use Prim.Native.Nat.{◌+◌}
use lib.ListN.{get_or}
use Rattle.planning.specs.Sets.{Learnt}
use Rattle.planning.proofs.sets.learn.Given as goal

abbrev pub invariant-loop-p : goal.invariant-loop-p
invariant-loop-p l = Learnt l.p l.n (λ i. get_or l.log (l.at + i) 0) l.initial.sets l.sets
