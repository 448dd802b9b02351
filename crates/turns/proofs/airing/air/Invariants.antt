use Rattle.std.proofs.Common.{◌≡◌}
use Rattle.turns.proofs.AirSteps.{row_from, left_of}
use Rattle.turns.proofs.airing.air.Given as goal

abbrev pub invariant-loop-k : goal.invariant-loop-k
invariant-loop-k l = record {
  row : l.row ≡ row_from l.k l.initial.lanes;
  left : l.lanes ≡ left_of l.k l.initial.lanes;
}
