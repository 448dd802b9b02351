-- What becomes of a station as what it heard is put into its bytes, and that bytes change with it.
use Rattle.std.specs.Prelude.{ℕ, ◌<◌, ◌≡◌, true, false, List, get_or, set}
use Rattle.bodies.specs.declared.Body.{Body}
use Rattle.lists.specs.Below.{set_below}
use Rattle.queues.specs.Lane.{no_lane, pushed}
use Rattle.station_spec.specs.declared.Station.{Station}
use Rattle.station_spec.specs.State.{record_of, with_broadcast, with_arrays}
use Rattle.station_spec.specs.Hearing.{replaced}
use Rattle.station_spec.proofs.Setters.{Shaped}
use Rattle.hearing_spec.specs.declared.Ear.{Ear}
use Rattle.hearing_spec.specs.Buffer.{record_at}
use Rattle.hearing_spec.specs.Gathered.{pushed_all}
use Rattle.hearing_spec.specs.StandsFor.{holds_at, top_at}
use Rattle.listening.specs.Listened.{takings_at}
use Rattle.station_bytes_spec.specs.Station.{encode_station}

-- bytes of a station become those of the changed station, whichever station it is; its arrays have
-- sixteen places by their types
pub record Changes (before after : List ℕ) (f : Station → Station) : Type 0 where
  pub encoded : (s : Station) → Shaped s → before ≡ encode_station s → after ≡ encode_station (f s)

-- the same, where the labels of the record of station k are a word of 32 bits
pub record ChangesAt (k : ℕ) (before after : List ℕ) (f : Station → Station) : Type 0 where
  pub encoded :
      (s : Station) → Shaped s → (record_of s k).labels < 4_294_967_296 →
      before ≡ encode_station s → after ≡ encode_station (f s)

-- the same, where those of every record are, for a station of a group of n
pub record ChangesOf (n : ℕ) (before after : List ℕ) (f : Station → Station) : Type 0 where
  pub encoded :
      (s : Station) → Shaped s → s.n ≡ n → ((k : ℕ) → (record_of s k).labels < 4_294_967_296) →
      before ≡ encode_station s →
      after ≡ encode_station (f s)

-- no record of station k is held
abbrev pub without_entry : Station → ℕ → Station
without_entry s k = with_arrays s s.acked s.labels (set s.held k false) s.table s.lanes

-- the record at a place is held of station k, in the place of the old one
abbrev pub with_entry_at : Station → ℕ → ℕ → List ℕ → ℕ → Station
with_entry_at s n k bytes at =
    with_arrays s s.acked s.labels (set s.held k true)
    (set s.table k (replaced n (record_of s k) (record_at bytes at)))
    s.lanes

-- the newest records of the stations below k
abbrev pub entries_below : Station → List ℕ → List ℕ → ℕ → Station
entries_below s bytes places k =
    with_arrays s s.acked s.labels (set_below k (holds_at places) s.held)
    (set_below k (λ j. replaced s.n (record_of s j) (top_at s bytes places j)) s.table) s.lanes

-- the numbers that were heard
abbrev pub with_numbers : Station → Ear → Station
with_numbers s e =
    with_arrays (with_broadcast s s.body e.count) e.acked e.labels s.held s.table s.lanes

-- a body put last into the lane of station k
abbrev pub with_pushed : Station → ℕ → Body → Station
with_pushed s k body =
    with_arrays s s.acked s.labels s.held s.table (set s.lanes k (pushed (get_or s.lanes k no_lane) body))

-- the first takings in their lanes
abbrev pub with_taken : Station → List ℕ → List ℕ → ℕ → Station
with_taken s bytes taken len =
    with_arrays s s.acked s.labels s.held s.table (pushed_all s.lanes (takings_at bytes taken len))
