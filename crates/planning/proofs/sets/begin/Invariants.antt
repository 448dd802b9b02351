use Rattle.planning.specs.Sets.{ColumnIs, first_set}
use Rattle.planning.proofs.sets.begin.Given as goal

abbrev pub invariant-loop-p : goal.invariant-loop-p
invariant-loop-p l = ColumnIs l.p l.initial.sets l.sets l.s (λ k. first_set k l.s)
