-- `station_decoder::read_group` meets its contract: the stations before k are read.
use Rattle.std.proofs.Common.{arith, refl, ◌*◌}
use Rattle.station_bytes_spec.specs.Station.{station_width, decode_station}
use Rattle.station_decoder.proofs.Reading.{set_below_none, set_below_next, group_read}
use Rattle.station_decoder.proofs.read_group.Goals as goal

pub loop-k-init : goal.loop-k-init
loop-k-init c = set_below_next 0 (λ j. decode_station c.args.bytes.now (station_width * j)) _ _ _ (set_below_none _ _) c.station_at-group.ensures

pub loop-k-preserved : goal.loop-k-preserved
loop-k-preserved c =
    set_below_next c.loop-k.k (λ j. decode_station c.args.bytes.now (station_width * j)) _ _ _ c.loop-k.invariant c.station_at.ensures

pub returns : goal.returns
returns c = group_read _ _ _ _ refl (omega arith) c.loop-k.invariant
