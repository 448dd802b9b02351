use Rattle.std.proofs.Common.{◌≡◌, ◌*◌}
use Rattle.lists.specs.Below.{set_below}
use Rattle.station_bytes_spec.specs.Station.{station_width, decode_station}
use Rattle.station_decoder.proofs.read_group.Given as goal

abbrev pub invariant-loop-k : goal.invariant-loop-k
invariant-loop-k l = l.group ≡ set_below l.k (λ j. decode_station l.bytes (station_width * j)) l.initial.group
