use lib.Bits.{bit_or}
use lib.ListN.{get_or}
use Rattle.planning.specs.Sets.{cell, FirstAre}
use Rattle.planning.proofs.sets.unite.Given as goal

abbrev pub invariant-loop-s : goal.invariant-loop-s
invariant-loop-s l = FirstAre l.s l.initial.row l.row (λ k. bit_or (get_or l.initial.row k 0) (cell l.before l.j k))
