use Rattle.std.proofs.Common.{◌≡◌, ◌+◌, ◌*◌}
use Rattle.frame_spec.specs.Inner.Writing.{held_count}
use Rattle.frame_writer.proofs.Table.{Filled}
use Rattle.frame_writer.proofs.write_table.Given as goal

abbrev pub invariant-loop-k : goal.invariant-loop-k
invariant-loop-k l = record {
  place : l.at ≡ 4 + 16 * held_count l.k l.held;
  filled : Filled l.edition l.n l.sender l.count l.held l.table l.fn.buffer l.k l.buffer;
}
