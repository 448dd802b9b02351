-- Document 01, "Frame bytes" and "Turned down", and document 02, A9: a frame of an edition, its
-- check with every refusal in its order, its records, and its bytes.
use Rattle.std.specs.Prelude.{ℕ, pred, ◌+◌, ◌*◌, Bool, not, ◌&&◌, ◌||◌, List, [], ◌∷◌, ◌++◌}
use Rattle.std.specs.Prelude.{slice_index, slice_index_or, take, drop, length, nat_le, nat_lt, ◌==◌, Result, Ok, ⊤}
use Rattle.bodies.specs.declared.Body.{Body}
use Rattle.bodies.specs.Refusals.{refuse}
use Rattle.bodies.specs.declared.refusals.Refusal.{Refusal}
use Rattle.bodies.specs.declared.refusals.Refusal.TheVariants.{BadNumber, BadShape, BadAddress, BadRecord, BadEdition}
use Rattle.bodies.specs.Limits.{is_edition}
use Rattle.lists.specs.Below.{all_below, any_below, tabulate}
use Rattle.frame_spec.specs.declared.Record.{Record}
use Rattle.frame_spec.specs.Record.{record_from, record_bytes, no_record, bytes_inside, record_fits}

-- N can be a number of stations, and own is one of them
abbrev pub valid_number : ℕ → ℕ → Bool
valid_number n own = (nat_le 1 n && nat_le n 16) && nat_lt own n

-- the part of a frame that is record k's: sixteen bytes
abbrev pub part : List ℕ → ℕ → List ℕ
part bytes k = take 16 (drop (4 + 16 * k) bytes)

-- 5: too short for a frame; no record, or more than 16; byte 3 no edition; or not as long as so
-- many records are
unfoldable pub shape_wrong : List ℕ → Bool
shape_wrong bytes =
    nat_lt (length bytes) 4
    || slice_index bytes 2 == 0
    || nat_lt 16 (slice_index bytes 2)
    || not (is_edition (slice_index bytes 3))
    || not (length bytes == 4 + 16 * slice_index bytes 2)

-- 6: made for another edition, or for another N; or its sender is the hearer, or no station among N
unfoldable pub address_wrong : ℕ → List ℕ → ℕ → ℕ → Bool
address_wrong edition bytes n own =
    not (slice_index bytes 3 == edition)
    || not (slice_index bytes 0 == n)
    || slice_index bytes 1 == own
    || not (nat_lt (slice_index bytes 1) n)

-- the station that record k of a frame is of
abbrev pub record_station : List ℕ → ℕ → ℕ
record_station bytes k = slice_index (part bytes k) 0

-- the record limits over a whole frame: each inside its own, stations strictly ascending, the
-- sender's among them
unfoldable pub records_inside : ℕ → List ℕ → ℕ → Bool
records_inside edition bytes n =
    all_below (slice_index bytes 2)
    (λ k. bytes_inside edition n (part bytes k)
    && (k == 0 || nat_lt (record_station bytes (pred k)) (record_station bytes k)))
    && any_below (slice_index bytes 2) (λ k. record_station bytes k == slice_index bytes 1)

-- what hearing judges of a frame, in the order 5, 6, 7
unfoldable pub frame_refusal : ℕ → List ℕ → ℕ → ℕ → Result ⊤ Refusal
frame_refusal edition bytes n own =
    refuse (shape_wrong bytes) BadShape
    (refuse (address_wrong edition bytes n own) BadAddress
    (refuse (not (records_inside edition bytes n)) BadRecord (Ok tt)))

-- the frame check: 1, 17, 5, 6, 7
unfoldable pub check_refusal : ℕ → List ℕ → ℕ → ℕ → Result ⊤ Refusal
check_refusal edition bytes n own =
    refuse (not (valid_number n own)) BadNumber
    (refuse (not (is_edition edition)) BadEdition (frame_refusal edition bytes n own))

-- the records of a frame, in order
unfoldable pub records_of : List ℕ → List Record
records_of bytes = tabulate (slice_index bytes 2) (λ k. record_from (part bytes k))

-- the bytes of records one after the other
unfoldable pub records_bytes : ℕ → List Record → List ℕ
records_bytes n [] = []
records_bytes n (r ∷ rs) = record_bytes n r ++ records_bytes n rs

-- the frame of an edition that a sender among n stations makes of records
unfoldable pub frame_bytes : ℕ → ℕ → ℕ → List Record → List ℕ
frame_bytes edition n sender records = n ∷ sender ∷ length records ∷ edition ∷ records_bytes n records

-- the record limits over records that are to be written: each inside its own, stations strictly
-- ascending, the sender's among them
unfoldable pub records_fit : (Body → Bool) → ℕ → ℕ → List Record → Bool
records_fit inside n sender rs =
    all_below (length rs)
    (λ k. record_fits inside n (slice_index_or rs k no_record)
    && (k == 0
    || nat_lt (slice_index_or rs (pred k) no_record).station (slice_index_or rs k no_record).station))
    && any_below (length rs) (λ k. (slice_index_or rs k no_record).station == sender)
