-- `station_encoder::put_group` meets its contract: the stations before k are written.
use Rattle.std.proofs.Common.{arith}
use Rattle.station_bytes_spec.specs.Station.{station_width}
use Rattle.station_bytes_spec.specs.Group.{encode_group}
use Rattle.station_bytes_spec.proofs.Station.{length_station}
use Rattle.station_encoder.proofs.Writing.{parts_none, parts_more_front, parts_all}
use Rattle.station_encoder.proofs.put_group.Goals as goal

pub loop-k-init : goal.loop-k-init
loop-k-init c = parts_none

pub loop-k-preserved : goal.loop-k-preserved
loop-k-preserved c =
    parts_more_front station_width (λ j. length_station _) c.loop-k.invariant (omega arith) c.put_station.auto.bytes c.put_station.ensures

pub returns : goal.returns
unfolding encode_group
returns c = parts_all c.loop-k.invariant (omega arith)
