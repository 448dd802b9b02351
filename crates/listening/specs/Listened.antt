-- What a station has once it has heard, and before what it heard is taken into its state: the notes
-- of hearing.
use Rattle.std.specs.Prelude.{ℕ, ◌+◌, ◌≤◌, ◌<◌, ◌≡◌, List, [], map, slice_index, slice_index_or}
use Rattle.std.specs.Prelude.{length, take, if◌then◌else◌}
use Rattle.bodies.specs.Refusals.{done}
use Rattle.station_spec.specs.declared.Station.{Station}
use Rattle.station_spec.specs.declared.Taking.{Taking}
use Rattle.frame_spec.specs.declared.Record.{Record}
use Rattle.frame_spec.specs.Record.{no_record, framed}
use Rattle.station_spec.specs.Hearing.{Hearing, initial_hearing, replaced}
use Rattle.hearing_spec.specs.declared.Ear.{Ear}
use Rattle.hearing_spec.specs.Buffer.{size_in, record_at, taking_at}
use Rattle.hearing_spec.specs.StandsFor.{Notes, notes, holds_at, acts_on}
use Rattle.hearing_spec.specs.Room.{takings_room, RecordRoom}

-- the notes once all is heard: how many bodies the lanes have is no longer asked for
abbrev pub heard_notes : List ℕ → List ℕ → Ear → Notes
heard_notes places taken e = notes places [] taken e

-- the takings of the first places
abbrev pub takings_at : List ℕ → List ℕ → ℕ → List Taking
takings_at bytes taken len = map (taking_at bytes) (take len taken)

-- so many places of takings are those of records in the bytes
pub record TakenRoom (bytes taken : List ℕ) (len : ℕ) : Type 0 where
  pub long : length taken ≡ takings_room
  pub few : len ≤ takings_room
  pub records : (i : ℕ) → i < len → RecordRoom bytes (slice_index taken i)

-- the places of the first n are those of records in the bytes
pub record PlacesRoom (bytes places : List ℕ) (n : ℕ) : Type 0 where
  pub high : n ≤ 16
  pub long : length places ≡ 16
  pub inside : (k : ℕ) → k < n → slice_index places k + 16 ≤ length bytes

-- the record at the place of station k, in the place of the one that a table has of it; that one
-- itself where none is held
abbrev pub entry_over : ℕ → List ℕ → List ℕ → List Record → ℕ → Record
entry_over n bytes places table k =
    let old = slice_index_or table k no_record in
    replaced n old (if holds_at places k then record_at bytes (slice_index places k) else framed n old)

-- the notes are of records in the bytes
pub record Readable (bytes places taken : List ℕ) (len : ℕ) : Type 0 where
  pub high : size_in bytes ≤ 16
  pub places_long : length places ≡ 16
  pub places_in : (k : ℕ) → k < size_in bytes → slice_index places k + 16 ≤ length bytes
  pub takings : TakenRoom bytes taken len

-- station s has heard, `f` being what its hearing makes of silence: the refusal is that of the
-- hearing, and where there is none, its takings and the station with all that was heard are those
-- of the hearing
pub record Listens (s : Station) (bytes : List ℕ) (f : Hearing → Hearing) (places taken : List ℕ) (e : Ear) :
    Type 0 where
  pub readable : Readable bytes places taken e.len
  pub refusal : e.refusal ≡ (f (initial_hearing s)).refusal
  pub station : e.refusal ≡ done → acts_on s bytes (heard_notes places taken e) ≡ (f (initial_hearing s)).station
  pub takings : e.refusal ≡ done → takings_at bytes taken e.len ≡ (f (initial_hearing s)).takings
