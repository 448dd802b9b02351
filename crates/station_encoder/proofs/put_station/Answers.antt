-- `station_encoder::put_station` meets its contract: four writes, one behind the other.
use Rattle.station_encoder.proofs.Writing.{station_written}
use Rattle.station_encoder.proofs.put_station.Goals as goal

pub returns : goal.returns
returns c =
    station_written _ _ c.args.s.now _ _ _ _ _ _ _ c.as_byte.ensures c.as_byte-2.ensures c.as_byte-3.ensures c.put_four.ensures
    c.put_body.ensures c.put_cells.ensures c.put_waiting.ensures
