use Rattle.group_spec.specs.State.{station_at}
use Rattle.station_bytes_spec.specs.Station.{encode_station}
use Rattle.station_encoder.proofs.Writing.{PartsPut}
use Rattle.station_encoder.proofs.put_group.Given as goal

abbrev pub invariant-loop-k : goal.invariant-loop-k
invariant-loop-k l = PartsPut 16 (λ j. encode_station (station_at l.group j)) l.initial.bytes 0 l.k l.bytes
