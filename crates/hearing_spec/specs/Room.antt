-- What makes the accesses of hearing safe, and two records equal where their bytes are. It says
-- nothing of a station.
use Rattle.std.specs.Prelude.{ℕ, ◌+◌, ◌*◌, ◌≤◌, ◌<◌, ◌≡◌, true, if◌then◌else◌, List, slice_index, length, ◌==◌}
use Rattle.lists.specs.Inner.Total.{total}
use Rattle.frame_spec.specs.Record.{record_bytes}
use Rattle.hearing_spec.specs.Buffer.{size_in, bytes_at, record_at}
use Rattle.hearing_spec.specs.StandsFor.{Notes, holds_at}

-- the room for takings: each of fifteen other stations has a lane of at most two
abbrev pub takings_room : ℕ
takings_room = 30

-- a place fits into 16 bits
abbrev pub most_bytes : ℕ
most_bytes = 65_535

-- the lanes of n stations have at most two bodies each, and every taking stands in a lane of
-- another station
pub record LanesRoom (n own : ℕ) (lens taken : List ℕ) (len : ℕ) : Type 0 where
  pub lens_long : length lens ≡ 16
  pub taken_long : length taken ≡ takings_room
  pub two : (k : ℕ) → k < n → slice_index lens k ≤ 2
  pub few : len ≤ total n (λ k. if k == own then 0 else slice_index lens k)

-- the sixteen bytes at a place are those that are written of their record, as in every frame that
-- the check accepts
abbrev pub Written : List ℕ → ℕ → Type 0
Written bytes at = record_bytes (size_in bytes) (record_at bytes at) ≡ bytes_at bytes at

-- a record stands at a place, and is of one of the stations
pub record RecordRoom (bytes : List ℕ) (at : ℕ) : Type 0 where
  pub room : at + 16 ≤ length bytes
  pub station : slice_index bytes at < size_in bytes
  pub written : Written bytes at

-- the hearer is one of at most sixteen stations, and its notes are of records in the bytes
pub record Room (own : ℕ) (bytes : List ℕ) (x : Notes) : Type 0 where
  pub high : size_in bytes ≤ 16
  pub own_below : own < size_in bytes
  pub short : length bytes ≤ most_bytes
  pub places_long : length x.places ≡ 16
  pub inside : (k : ℕ) → k < size_in bytes → slice_index x.places k + 16 ≤ length bytes
  pub station :
      (k : ℕ) → k < size_in bytes → holds_at x.places k ≡ true → slice_index bytes (slice_index x.places k) ≡ k
  pub written : (k : ℕ) → k < size_in bytes → holds_at x.places k ≡ true → Written bytes (slice_index x.places k)
  pub lanes : LanesRoom (size_in bytes) own x.lens x.taken x.ear.len
  pub taken : (i : ℕ) → i < x.ear.len → RecordRoom bytes (slice_index x.taken i)

-- the same of the records heard last
pub record LastRoom (bytes last : List ℕ) : Type 0 where
  pub long : length last ≡ 16
  pub inside : (k : ℕ) → k < size_in bytes → slice_index last k + 16 ≤ length bytes

-- a frame begins at a place, and each of its records is of one of the stations
pub record FrameRoom (bytes : List ℕ) (start : ℕ) : Type 0 where
  pub room : start + 4 + 16 * slice_index bytes (start + 2) ≤ length bytes
  pub stations : (r : ℕ) → r < slice_index bytes (start + 2) → slice_index bytes (start + 4 + 16 * r) < size_in bytes
  pub written : (r : ℕ) → r < slice_index bytes (start + 2) → Written bytes (start + 4 + 16 * r)
