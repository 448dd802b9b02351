-- A group as bytes: its sixteen stations, one behind the other.
use Rattle.std.specs.Prelude.{ℕ, ◌*◌, Bool, ◌&&◌, List, ◌==◌, length}
use Rattle.lists.specs.Below.{all_below, tabulate}
use Rattle.station_spec.specs.declared.Station.{Station}
use Rattle.group_spec.specs.State.{station_at}
use Rattle.station_bytes_spec.specs.Bytes.{joined_below}
use Rattle.station_bytes_spec.specs.Station.{station_width, encode_station, decode_station, is_station_at}

abbrev pub group_width : ℕ
group_width = station_width * 16

unfoldable pub encode_group : List Station → List ℕ
encode_group g = joined_below 16 (λ k. encode_station (station_at g k))

unfoldable pub decode_group : List ℕ → List Station
decode_group b = tabulate 16 (λ k. decode_station b (station_width * k))

-- these bytes are a group
unfoldable pub is_group : List ℕ → Bool
is_group b = length b == group_width && all_below 16 (λ k. is_station_at b (station_width * k))
