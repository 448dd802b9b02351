use Rattle.std.proofs.Common.{◌≡◌, true, ◌+◌, ◌*◌}
use Rattle.lists.specs.Below.{all_below}
use Rattle.station_bytes_spec.specs.Station.{cell_width, is_cell}
use Rattle.station_decoder.proofs.cells_right.Given as goal

abbrev pub invariant-loop-k : goal.invariant-loop-k
invariant-loop-k l = all_below l.k (λ j. is_cell l.bytes (l.at + cell_width * j)) ≡ true
