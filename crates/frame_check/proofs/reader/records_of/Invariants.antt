use Rattle.std.proofs.Common.{◌≡◌}
use Rattle.frame_spec.proofs.Entries.{entries_below}
use Rattle.frame_check.proofs.reader.records_of.Given as goal

abbrev pub invariant-loop-k : goal.invariant-loop-k
invariant-loop-k l = l.records ≡ entries_below l.frame l.k
