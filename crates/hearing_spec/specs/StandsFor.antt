-- What hearing keeps in numbers, and what the numbers stand for: a station that hears.
use Rattle.std.specs.Prelude.{ℕ, ◌<◌, ◌≡◌, Bool, if◌then◌else◌, not, List, map, slice_index, take, ◌==◌}
use Rattle.bodies.specs.Refusals.{done}
use Rattle.frame_spec.specs.declared.Record.{Record}
use Rattle.frame_spec.specs.Record.{framed}
use Rattle.station_spec.specs.declared.Station.{Station}
use Rattle.station_spec.specs.State.{held_of, record_of, lane_at}
use Rattle.station_spec.specs.Hearing.{Hearing}
use Rattle.station_spec.proofs.Setters.{Shaped}
use Rattle.hearing_spec.specs.declared.Ear.{Ear}
use Rattle.hearing_spec.specs.Buffer.{record_at, taking_at}
use Rattle.hearing_spec.specs.Gathered.{Gathered, acted_on}
use Rattle.hearing_spec.specs.Settled.{AllSettled}

-- `lists` has where the record begins that the hearer holds of k, 0 where it holds none; `lens`
-- how many bodies lane k has; `taken` where the records begin whose bodies are taken, as heard
pub record Notes : Type 0 where
  pub places : List ℕ
  pub lens : List ℕ
  pub taken : List ℕ
  pub ear : Ear

abbrev pub notes : List ℕ → List ℕ → List ℕ → Ear → Notes
notes places lens taken ear = record { places = places; lens = lens; taken = taken; ear = ear }

-- a record of k is held
abbrev pub holds_at : List ℕ → ℕ → Bool
holds_at places k = not (slice_index places k == 0)

-- the newest record of k: the one at its place; where none is held, what the table of s has there
abbrev pub top_at : Station → List ℕ → List ℕ → ℕ → Record
top_at s bytes places k =
    if holds_at places k then record_at bytes (slice_index places k) else framed s.n (record_of s k)

-- the notes stand for the hearing h, which began at the station s. Once a frame is refused nobody
-- asks for the takings any more
pub record StandsFor (s : Station) (bytes : List ℕ) (x : Notes) (h : Hearing) : Type 0 where
  pub gathered : Gathered s h.station h.takings (top_at s bytes x.places)
  pub held : (k : ℕ) → k < s.n → held_of h.station k ≡ holds_at x.places k
  pub refusal : x.ear.refusal ≡ h.refusal
  pub count : x.ear.count ≡ h.station.count
  pub acked : x.ear.acked ≡ h.station.acked
  pub labels : x.ear.labels ≡ h.station.labels
  pub bodies : (k : ℕ) → k < s.n → slice_index x.lens k ≡ (lane_at h.station k).len
  pub takings : h.refusal ≡ done → h.takings ≡ map (taking_at bytes) (take x.ear.len x.taken)

-- `last` has where the record of k heard last begins: it is settled, and may be passed over where
-- it comes again
pub record Stands (s : Station) (bytes last : List ℕ) (x : Notes) (h : Hearing) : Type 0 where
  pub numbers : StandsFor s bytes x h
  pub settled : AllSettled h.station (λ k. record_at bytes (slice_index last k))
  pub shaped : Shaped h.station

-- what was heard, taken into the station that began
abbrev pub acts_on : Station → List ℕ → Notes → Station
acts_on s bytes x =
    acted_on s (top_at s bytes x.places) (holds_at x.places)
    (map (taking_at bytes) (take x.ear.len x.taken))
    x.ear.count x.ear.acked x.ear.labels
