use Rattle.station_spec.specs.State.{cell_of}
use Rattle.station_bytes_spec.specs.Station.{encode_cell}
use Rattle.station_encoder.proofs.Writing.{PartsPut}
use Rattle.station_encoder.proofs.put_cells.Given as goal

abbrev pub invariant-loop-k : goal.invariant-loop-k
invariant-loop-k l = PartsPut 16 (λ j. encode_cell (cell_of l.s j)) l.initial.bytes l.at l.k l.bytes
