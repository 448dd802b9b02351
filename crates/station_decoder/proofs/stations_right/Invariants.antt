use Rattle.std.proofs.Common.{◌≡◌, true, ◌*◌}
use Rattle.lists.specs.Below.{all_below}
use Rattle.station_bytes_spec.specs.Station.{station_width, is_station_at}
use Rattle.station_decoder.proofs.stations_right.Given as goal

abbrev pub invariant-loop-k : goal.invariant-loop-k
invariant-loop-k l = all_below l.k (λ j. is_station_at l.bytes (station_width * j)) ≡ true
