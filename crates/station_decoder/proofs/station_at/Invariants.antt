use Rattle.station_decoder.proofs.Reading.{CellsRead}
use Rattle.station_decoder.proofs.station_at.Given as goal

abbrev pub invariant-loop-k : goal.invariant-loop-k
invariant-loop-k l = CellsRead l.bytes l.at l.k l.acked l.held l.labels l.table l.lanes
