-- What a station asks for before it hears, and what it makes of the frames of its mask.
use Rattle.std.specs.Prelude.{ℕ, ◌≤◌, ◌≡◌, true, List, length}
use Rattle.station_spec.specs.declared.Station.{Station}
use Rattle.station_spec.specs.State.{sent_records}
use Rattle.station_spec.specs.Limits.{station_inside}
use Rattle.station_spec.specs.Hearing.{Hearing, hear_frame}
use Rattle.hearing_spec.specs.Buffer.{size_in, records_at, hear_senders}
use Rattle.hearing_spec.specs.Room.{most_bytes, FrameRoom}

-- a station inside its limits, whose own frame begins at a place of these bytes, which begin with N
pub record MayListen (s : Station) (bytes : List ℕ) (start : ℕ) : Type 0 where
  pub inside : station_inside s ≡ true
  pub short : length bytes ≤ most_bytes
  pub size : s.n ≡ size_in bytes
  pub own_room : FrameRoom bytes start
  pub own_frame : records_at bytes start ≡ sent_records s

-- the frames of the senders of a mask, and the one that begins at a place
abbrev pub mask_heard : Station → List ℕ → ℕ → Hearing → Hearing
mask_heard s bytes mask h = hear_senders h bytes s.own mask (size_in bytes)

abbrev pub frame_heard : List ℕ → ℕ → Hearing → Hearing
frame_heard bytes start h = hear_frame h (records_at bytes start)
