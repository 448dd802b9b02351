-- Document 01, "A group and its rounds": all frames of a round stand in one list of bytes before
-- any station hears, that of station k from byte `frame_room` × k on.
use Rattle.std.specs.Prelude.{ℕ, ◌*◌, ◌<◌, ◌≡◌, if◌then◌else◌, not, ◌&&◌, List, ◌++◌, take, drop, length, ◌==◌}
use Rattle.bodies.specs.Refusals.{done, outside_limits, count_too_high, refuse_number}
use Rattle.frame_spec.specs.Calls.{buffer_with}
use Rattle.lists.specs.Below.{all_below}
use Rattle.station_spec.specs.declared.Station.{Station}
use Rattle.station_spec.specs.Limits.{station_inside}
use Rattle.station_spec.specs.Calls.{frame_of, own_count_inside}
use Rattle.hearing_spec.specs.Buffer.{frame_room, size_in, frame_start}
use Rattle.hearing_spec.specs.Room.{FrameRoom}
use Rattle.group_spec.specs.State.{station_at, member_inside}

-- the room of a round's frames: one for each of sixteen stations
abbrev pub frames_room : ℕ
frames_room = frame_room * 16

-- what a round judges of station k of a group of n in an edition before its frame is written: 2, 10
unfoldable pub send_refusal : ℕ → ℕ → ℕ → Station → ℕ
send_refusal edition n k s =
    refuse_number (not (station_inside s && (s.n == n && s.edition == edition && s.own == k))) outside_limits
    (refuse_number (not (own_count_inside s)) count_too_high done)

-- its part of the bytes afterwards: its frame and then what stood past it, or as it was
unfoldable pub part_after : ℕ → ℕ → ℕ → Station → List ℕ → List ℕ
part_after edition n k s part = if send_refusal edition n k s == done then buffer_with (frame_of s) part else part

-- all the bytes afterwards: the others stay
abbrev pub bytes_after : ℕ → ℕ → ℕ → Station → List ℕ → List ℕ
bytes_after edition n k s bytes =
    let rest = drop (frame_start k) bytes in
    take (frame_start k) bytes ++ (part_after edition n k s (take frame_room rest) ++ drop frame_room rest)

-- of the refusals of two stations the one that the round answers: 2 before 10, and 10 before none
unfoldable pub worse : ℕ → ℕ → ℕ
worse a b = if a == outside_limits then a else if b == done then a else b

-- what the round judges of the stations below m: 2, 10
unfoldable pub judged_below : List Station → ℕ → ℕ
judged_below g m =
    refuse_number (not (all_below m (member_inside g))) outside_limits
    (refuse_number (not (all_below m (λ k. own_count_inside (station_at g k)))) count_too_high done)

-- the frames of the stations below m stand in these bytes
pub record FramesBelow (g : List Station) (m : ℕ) (bytes : List ℕ) : Type 0 where
  pub long : length bytes ≡ frames_room
  pub frame :
      (k : ℕ) → k < m →
      take (length (frame_of (station_at g k))) (drop (frame_start k) bytes) ≡ frame_of (station_at g k)

-- the frames of a group of n begin at their starts, the first with n
pub record FramesAt (n : ℕ) (bytes : List ℕ) : Type 0 where
  pub long : length bytes ≡ frames_room
  pub size : size_in bytes ≡ n
  pub frame : (k : ℕ) → k < n → FrameRoom bytes (frame_start k)
