use lib.ListN.{get_or}
use Rattle.planning.specs.Sets.{RowIs}
use Rattle.planning.proofs.sets.store.Given as goal

abbrev pub invariant-loop-s : goal.invariant-loop-s
invariant-loop-s l = RowIs l.s l.initial.sets l.sets l.p (λ k. get_or l.row k 0)
