use Rattle.std.proofs.Common.{◌≡◌, ◌++◌, length, drop}
use Rattle.columns.specs.Writing.{columns}
use Rattle.columns.proofs.writer.write_columns.Given as goal

abbrev pub invariant-loop-i : goal.invariant-loop-i
invariant-loop-i l = columns l.minus (length l.initial.part) l.value ≡ columns l.minus l.i l.rest ++ drop l.i l.part
