-- `station_encoder::put_cells` meets its contract: the cells before k are written.
use Rattle.std.proofs.Common.{arith}
use Rattle.station_bytes_spec.specs.Station.{cell_width}
use Rattle.station_bytes_spec.proofs.Station.{length_cell}
use Rattle.station_encoder.proofs.Writing.{parts_none, parts_more}
use Rattle.station_encoder.proofs.put_cells.Goals as goal

pub loop-k-init : goal.loop-k-init
loop-k-init c = parts_none

pub loop-k-preserved : goal.loop-k-preserved
loop-k-preserved c =
    parts_more cell_width (λ j. length_cell _) c.loop-k.invariant (omega arith) c.put_cell.auto.bytes c.put_cell.ensures
