-- A station hears one frame beside its own: both stand in one list of bytes, each in the room of a
-- frame.
use Rattle.std.specs.Prelude.{ℕ, ◌-◌, ◌*◌, ◌≡◌, false, List, ◌++◌, length, replicate}
use Rattle.bodies.specs.Refusals.{done}
use Rattle.station_spec.specs.declared.Station.{Station}
use Rattle.station_spec.specs.Calls.{frame_of, sources_of, hear_call}
use Rattle.hearing_spec.specs.declared.Ear.{Ear}
use Rattle.hearing_spec.specs.Buffer.{frame_room, size_in}
use Rattle.hearing_spec.specs.StandsFor.{acts_on}
use Rattle.listening.specs.Listened.{takings_at, heard_notes, Readable}

-- a frame in its room
abbrev pub roomed : List ℕ → List ℕ
roomed frame = frame ++ replicate (frame_room - length frame) 0

-- the own frame, and then the heard one
abbrev pub beside : Station → List ℕ → List ℕ
beside s bytes = roomed (frame_of s) ++ roomed bytes

-- the room of both
abbrev pub both_room : ℕ
both_room = frame_room * 2

-- a frame was heard, and none refused: what is acted on and the sources of the takings are what the
-- call hear answers with
pub record Acts (s : Station) (frame both places taken : List ℕ) (e : Ear) : Type 0 where
  pub size : s.n ≡ size_in both
  pub readable : Readable both places taken e.len
  pub answered :
      record {
        refusal = done;
        station = acts_on s both (heard_notes places taken e);
        taken = sources_of (takings_at both taken e.len);
      } ≡ hear_call s frame

-- what is heard of a frame, beside the own one
pub record HearsBeside (s : Station) (frame both places taken : List ℕ) (e : Ear) : Type 0 where
  pub refused :
      (e.refusal ≡ done → ⊥) →
      record { refusal = e.refusal; station = s; taken = replicate 16 false } ≡ hear_call s frame
  pub heard : e.refusal ≡ done → Acts s frame both places taken e
