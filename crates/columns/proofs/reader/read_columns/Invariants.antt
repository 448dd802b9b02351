use Rattle.std.proofs.Common.{◌≡◌, drop}
use Rattle.columns.specs.Reading.{read_from, read_columns}
use Rattle.columns.proofs.reader.read_columns.Given as goal

abbrev pub invariant-loop-b : goal.invariant-loop-b
invariant-loop-b l = read_from l.reading (drop l.b-index l.s) ≡ read_columns l.s
