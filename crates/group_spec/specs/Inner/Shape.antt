-- The lengths that the arrays of a group have by their types. A function that is lent a group asks
-- its caller for them, who has them from owning the group.
use Rattle.std.specs.Prelude.{ℕ, ◌<◌, ◌≡◌, List, length}
use Rattle.station_spec.specs.declared.Station.{Station}
use Rattle.station_spec.proofs.Setters.{Shaped}
use Rattle.group_spec.specs.State.{station_at}

-- the lengths that a group's arrays have by type
pub record GroupShaped (g : List Station) : Type 0 where
  pub places : length g ≡ 16
  pub stations : (k : ℕ) → k < 16 → Shaped (station_at g k)
