-- The frames of a group inside its limits, where they stand: each begins at its start, and is read
-- as the records that its station sends.
use Prim.Native.Nat.{ℕ, ◌<◌}
use mathlib.Core.Bool.{true}
use mathlib.Core.List.{List}
use mathlib.Core.Path.{◌≡◌, sym, ◌∙◌}
use lib.ListN.{drop}
use Rattle.frame_spec.specs.Frame.{records_of}
use Rattle.station_spec.specs.declared.Station.{Station}
use Rattle.station_spec.specs.State.{sent_records}
use Rattle.station_spec.specs.Calls.{own_count_inside}
use Rattle.hearing_spec.specs.Buffer.{size_in, frame_start}
use Rattle.group_spec.specs.State.{station_at, size_of, group_inside}
use Rattle.rounds.specs.Frames.{FramesBelow, FramesAt}
use Rattle.group_spec.proofs.Members.{member_at, group_low}
use Rattle.rounds.proofs.SentFrame.{heard_records, frame_room, first_byte}

module _ (g : List Station) (inside : group_inside g ≡ true) (counts : (k : ℕ) → k < size_of g → own_count_inside (station_at g k) ≡ true)
    (bytes : List ℕ) (frames : FramesBelow g (size_of g) bytes) where
  sized : size_in bytes ≡ size_of g
  sized =
      let l : 0 < size_of g = group_low g inside in
      let m = member_at g inside 0 l in
      first_byte (station_at g 0) m.inside (counts 0 l) bytes (frame_start 0) (frames.frame 0 l)

  pub frames_at : FramesAt (size_of g) bytes
  frames_at =
      record {
        long = frames.long;
        size = sized;
        frame =
            λ k l.
            let m = member_at g inside k l in
            frame_room (station_at g k) m.inside (counts k l) bytes (frame_start k) (frames.frame k l) (sized ∙ sym m.size);
      }

  pub records_of_lem : (k : ℕ) → k < size_of g → records_of (drop (frame_start k) bytes) ≡ sent_records (station_at g k)
  records_of_lem k l =
      heard_records (station_at g k) (member_at g inside k l).inside (counts k l) bytes (frame_start k) (frames.frame k l)
