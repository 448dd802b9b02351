-- Document 01, "Frame bytes" and "A group and its rounds": the frames that a station may hear stand
-- in one list of bytes. A record is told by its place, which is where its sixteen bytes begin; no
-- record begins at 0.
use Rattle.std.specs.Prelude.{ℕ, zero, suc, ◌+◌, ◌*◌, Bool, if◌then◌else◌, not, ◌&&◌, List}
use Rattle.std.specs.Prelude.{slice_index, take, drop, ◌==◌}
use Rattle.links.specs.Log.{bit}
use Rattle.lists.specs.Below.{tabulate}
use Rattle.frame_spec.specs.declared.Record.{Record}
use Rattle.frame_spec.specs.Record.{record_from}
use Rattle.frame_spec.specs.Frame.{records_of}
use Rattle.station_spec.specs.declared.Taking.{Taking}
use Rattle.station_spec.specs.Hearing.{Hearing, hear_frame}

-- the room of a frame: four bytes, and sixteen records of sixteen bytes (M8)
abbrev pub frame_room : ℕ
frame_room = 260

-- where frame j begins
abbrev pub frame_start : ℕ → ℕ
frame_start j = frame_room * j

-- N: byte 0 of the first frame
abbrev pub size_in : List ℕ → ℕ
size_in bytes = slice_index bytes 0

-- the sixteen bytes at a place, the record there, and the taking of its body
abbrev pub bytes_at : List ℕ → ℕ → List ℕ
bytes_at bytes at = take 16 (drop at bytes)

abbrev pub record_at : List ℕ → ℕ → Record
record_at bytes at = record_from (bytes_at bytes at)

abbrev pub taking_at : List ℕ → ℕ → Taking
taking_at bytes at = record { source = (record_at bytes at).station; body = (record_at bytes at).body }

-- the records of the frame that begins at a place
abbrev pub records_at : List ℕ → ℕ → List Record
records_at bytes start = records_of (drop start bytes)

-- the first r of them
abbrev pub first_records : List ℕ → ℕ → ℕ → List Record
first_records bytes start r = tabulate r (λ i. record_at bytes (start + 4 + 16 * i))

-- station `own` hears sender j: another station, whose bit its mask has
abbrev pub hears_sender : ℕ → ℕ → ℕ → Bool
hears_sender own mask j = not (own == j) && bit mask j

-- the frames of the senders below j that station `own` hears, by ascending sender
unfoldable pub hear_senders : Hearing → List ℕ → ℕ → ℕ → ℕ → Hearing
hear_senders h bytes own mask zero = h
hear_senders h bytes own mask (suc j) =
    if hears_sender own mask j
    then hear_frame (hear_senders h bytes own mask j) (records_at bytes (frame_start j))
    else hear_senders h bytes own mask j
