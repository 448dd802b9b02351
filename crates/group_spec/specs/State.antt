-- Document 01, "A group and its rounds": a group by its places, its limits, and the fresh group.
use Rattle.std.specs.Prelude.{ℕ, Bool, ◌&&◌, List, get_or, replicate, eqb}
use Rattle.lists.specs.Below.{all_below, set_below}
use Rattle.station_spec.specs.declared.Setup.{Setup}
use Rattle.station_spec.specs.declared.Station.{Station}
use Rattle.station_spec.specs.State.{alone_setup, fresh_station}
pub use Rattle.station_spec.specs.Absent.{no_station}
use Rattle.station_spec.specs.Limits.{station_inside}

-- the station at place k
abbrev pub station_at : List Station → ℕ → Station
station_at g k = get_or g k no_station

-- "Its N is station 0's"
abbrev pub size_of : List Station → ℕ
size_of g = (station_at g 0).n

-- its edition is station 0's too (document 02, A9)
abbrev pub edition_of : List Station → ℕ
edition_of g = (station_at g 0).edition

-- station k is inside its limits, has the group's N and edition, and its number is its place
abbrev pub member_inside : List Station → ℕ → Bool
member_inside g k =
    let s = station_at g k in
    station_inside s && (eqb s.n (size_of g) && eqb s.edition (edition_of g) && eqb s.own k)

-- the group is inside its limits
unfoldable pub group_inside : List Station → Bool
group_inside g = member_inside g 0 && all_below (size_of g) (member_inside g)

-- the fresh group; a station alone, fresh, stands at each place from N up
unfoldable pub fresh_group : Setup → List Station
fresh_group setup = set_below setup.n (fresh_station setup) (replicate 16 (fresh_station alone_setup 0))
