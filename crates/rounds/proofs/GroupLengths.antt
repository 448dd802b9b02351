-- The lengths that a group's arrays have by their types, out of what owning the group tells: it has
-- sixteen stations, and each of them is owned.
use mathlib.Core.List.{List, [], ◌∷◌}
use mathlib.Core.Path.{◌≡◌}
use native.Mathlib.Omega.{arith}
use lib.ListN.{length}
use mir.Val.{Val}
use denote.Shadow.{shadow}
use denote.Array.{in_array}
use denote.Struct as Struct
use Rattle.station_spec.specs.declared.Station.{Station}
use Rattle.station_spec.specs.contracts.Station as Declared
use Rattle.station_spec.proofs.Lengths.{each_at, lengths_at}
use Rattle.group_spec.specs.State.{no_station, station_at}
use Rattle.group_spec.specs.Inner.Shape.{GroupShaped}

-- what owning a group tells
abbrev pub OwnedGroup : List Station → List Val → Type 0
OwnedGroup g vs = shadow (in_array Station (Struct.Declared.row Declared.the_type).own_val 16 g vs)

pub group_lengths : (g : List Station) (vs : List Val) → OwnedGroup g vs → GroupShaped g
group_lengths g vs h =
    let long : length g ≡ 16 = h.1.0.1 in
    record {
      places = long;
      stations =
          λ k l.
          let o = each_at (Struct.Declared.row Declared.the_type).own_val g h.0 h.1.1 k no_station (omega arith) in
          lengths_at (station_at g k) (o.0 ∷ []) o.1;
    }
