-- How hearing begins: what is put down of a station and of its own frame before it hears.
use Rattle.std.specs.Prelude.{ℕ, ◌+◌, ◌≡◌, List, slice_index, slice_index_or, replicate}
use Rattle.lists.specs.Below.{set_below}
use Rattle.queues.specs.Lane.{no_lane}
use Rattle.station_spec.specs.declared.Station.{Station}
use Rattle.station_spec.proofs.Setters.{Shaped}
use Rattle.hearing_spec.specs.declared.Ear.{Ear}
use Rattle.listening.specs.OwnPlaces.{places_of}
use Rattle.listening.specs.Listening.{MayListen}

-- the numbers of a station that has heard nothing
abbrev pub quiet : Station → Ear
quiet s = record { refusal = 0; count = s.count; acked = s.acked; labels = s.labels; len = 0 }

-- how many bodies its lanes have
abbrev pub lens_of : Station → List ℕ
lens_of s = set_below 16 (λ k. (slice_index_or s.lanes k no_lane).len) (replicate 16 0)

-- where the records of its own frame begin
abbrev pub own_places : List ℕ → ℕ → List ℕ
own_places bytes start = places_of bytes start (replicate 16 0) (slice_index bytes (start + 2))

-- hearing begins: a station may listen, and the places of its own records, what was heard last and
-- the lengths of its lanes are put down
pub record Beginning (s : Station) (bytes : List ℕ) (start : ℕ) (put last lens : List ℕ) (ear : Ear) : Type 0 where
  pub may : MayListen s bytes start
  pub shape : Shaped s
  pub places_are : own_places bytes start ≡ put
  pub last_is : own_places bytes start ≡ last
  pub lens_are : lens_of s ≡ lens
  pub ear_is : quiet s ≡ ear
