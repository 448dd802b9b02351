-- Document 01, "Frame bytes" and "Turned down": reading a whole frame, and writing one into a lent
-- buffer.
use Rattle.std.specs.Prelude.{ℕ, Bool, false, if◌then◌else◌, not, ◌&&◌, ◌||◌, List, ◌++◌, slice_index, slice_index_or}
use Rattle.std.specs.Prelude.{drop, length, replicate, nat_lt, Result, Ok}
use Rattle.bodies.specs.declared.Body.{Body}
use Rattle.bodies.specs.Refusals.{refuse, then_ok}
use Rattle.bodies.specs.declared.refusals.Refusal.{Refusal}
use Rattle.bodies.specs.declared.refusals.Refusal.TheVariants.{BadNumber, BadRecord, BadEdition, ShortBuffer}
use Rattle.bodies.specs.Limits.{is_edition, body_inside}
use Rattle.lists.specs.Below.{all_below, set_below, filter_map}
use Rattle.frame_spec.specs.declared.Record.{Record}
use Rattle.frame_spec.specs.declared.Records.{Records}
use Rattle.frame_spec.specs.Record.{record_from, framed, place_fits, no_record}
use Rattle.frame_spec.specs.Frame.{valid_number, part, check_refusal, frame_bytes}

-- the records of a frame in sixteen entries; those that it does not use are zero
unfoldable pub entries : List ℕ → List Record
entries bytes = set_below (slice_index bytes 2) (λ k. record_from (part bytes k)) (replicate 16 no_record)

-- what a frame says
abbrev pub records_read : List ℕ → Records
records_read bytes = record { count = slice_index bytes 2; records = entries bytes }

-- the answer to reading a frame: its records, or the refusal of the frame check
unfoldable pub reading : ℕ → List ℕ → ℕ → ℕ → Result Records Refusal
reading edition bytes n own = then_ok (check_refusal edition bytes n own) (records_read bytes)

-- the records that a table holds of the first n stations, in their order, as a frame carries them
unfoldable pub table_records : ℕ → List Bool → List Record → List Record
table_records n held table =
    filter_map n (λ k. slice_index_or held k false) (λ k. framed n (slice_index_or table k no_record))

-- the answer to writing a frame into room for some bytes: 9 where it is longer, else its length
unfoldable pub written : List ℕ → ℕ → Result ℕ Refusal
written frame room = refuse (nat_lt room (length frame)) ShortBuffer (Ok (length frame))

-- the buffer afterwards: as it was where it is shorter than the frame, else the frame and then what
-- stood past it
unfoldable pub buffer_with : List ℕ → List ℕ → List ℕ
buffer_with frame buffer =
    if nat_lt (length buffer) (length frame) then buffer else frame ++ drop (length frame) buffer

-- the records at the held places may stand in a frame: each is of its place's station and inside
-- the record limits, and the sender's is among them
unfoldable pub table_fits : (Body → Bool) → ℕ → ℕ → List Bool → List Record → Bool
table_fits inside n sender held table =
    all_below n (λ k. not (slice_index_or held k false) || place_fits inside n k (slice_index_or table k no_record))
    && slice_index_or held sender false

-- writing a frame judges N and the sender (1), the edition (17), then the records (7), then the
-- buffer (9)
unfoldable pub frame_written : ℕ → ℕ → ℕ → List Bool → List Record → ℕ → Result ℕ Refusal
frame_written edition n sender held table room =
    refuse (not (valid_number n sender)) BadNumber
    (refuse (not (is_edition edition)) BadEdition
    (refuse (not (table_fits (body_inside edition) n sender held table)) BadRecord
    (written (frame_bytes edition n sender (table_records n held table)) room)))

-- the buffer afterwards: what is refused leaves it as it was
unfoldable pub frame_buffer : ℕ → ℕ → ℕ → List Bool → List Record → List ℕ → List ℕ
frame_buffer edition n sender held table buffer =
    if valid_number n sender && is_edition edition && table_fits (body_inside edition) n sender held table
    then buffer_with (frame_bytes edition n sender (table_records n held table)) buffer
    else buffer
