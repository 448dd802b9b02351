-- Document 02, A9: what a receiver of document 01 alone, which knows no editions, makes of a frame.
use Rattle.std.specs.Prelude.{ℕ, ◌+◌, ◌*◌, Bool, not, ◌||◌, List, ◌≡◌, nat_lt, ◌==◌, slice_index, length}
use Rattle.std.specs.Prelude.{Result, Ok, Err, ⊤}
use Rattle.bodies.specs.Refusals.{refuse}
use Rattle.bodies.specs.declared.refusals.Refusal.{Refusal}
use Rattle.bodies.specs.declared.refusals.Refusal.TheVariants.{BadNumber, BadShape, BadAddress, BadRecord}
use Rattle.frame_spec.specs.Frame.{valid_number, records_inside, check_refusal}

-- its 5: too short for a frame; no record, or more than 16; byte 3 not zero; or not as long as so
-- many records are
unfoldable pub old_shape_wrong : List ℕ → Bool
old_shape_wrong bytes =
    nat_lt (length bytes) 4
    || slice_index bytes 2 == 0
    || nat_lt 16 (slice_index bytes 2)
    || not (slice_index bytes 3 == 0)
    || not (length bytes == 4 + 16 * slice_index bytes 2)

-- its 6: made for another N; or its sender is the hearer, or no station among N
unfoldable pub old_address_wrong : List ℕ → ℕ → ℕ → Bool
old_address_wrong bytes n own =
    not (slice_index bytes 0 == n) || slice_index bytes 1 == own || not (nat_lt (slice_index bytes 1) n)

-- its frame check: 1, 5, 6, 7; in its records byte 3 is zero, as in edition 0
unfoldable pub old_refusal : List ℕ → ℕ → ℕ → Result ⊤ Refusal
old_refusal bytes n own =
    refuse (not (valid_number n own)) BadNumber
    (refuse (old_shape_wrong bytes) BadShape
    (refuse (old_address_wrong bytes n own) BadAddress
    (refuse (not (records_inside 0 bytes n)) BadRecord (Ok tt))))

-- it gives 5 for every frame of edition 1 that a new one accepts, and so shows none of its bodies
abbrev pub OldReceivers : Type 0
OldReceivers =
    (bytes : List ℕ) (n own : ℕ) → check_refusal 1 bytes n own ≡ Ok tt → old_refusal bytes n own ≡ Err BadShape

-- edition 0 remains: what is no frame of edition 1, a new receiver judges in edition 0 as an old
-- one does
abbrev pub EditionZeroRemains : Type 0
EditionZeroRemains =
    (bytes : List ℕ) (n own : ℕ) → (slice_index bytes 3 ≡ 1 → ⊥) → check_refusal 0 bytes n own ≡ old_refusal bytes n own
