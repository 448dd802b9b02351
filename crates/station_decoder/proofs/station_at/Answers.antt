-- `station_decoder::station_at` meets its contract: the cells before k are read into the five
-- arrays, and then the rest.
use Rattle.std.proofs.Common.{refl, arith}
use Rattle.station_decoder.proofs.Reading.{cells_none, cells_next, station_read}
use Rattle.station_decoder.proofs.station_at.Goals as goal

pub loop-k-init : goal.loop-k-init
loop-k-init c = cells_none _ _

pub loop-k-preserved : goal.loop-k-preserved
loop-k-preserved c = cells_next _ _ _ _ _ _ _ _ c.loop-k.invariant _ _ c.read_record.ensures c.read_lane.ensures

pub returns : goal.returns
returns c =
    station_read _ _ _ _ _ _ _ _ c.loop-k.invariant (omega arith) _ _ _ _ _ refl refl refl c.read_body-body.ensures
    c.read_waiting-waiting.ensures
