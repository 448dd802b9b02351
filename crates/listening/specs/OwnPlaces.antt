-- Where the records of a frame begin, by station.
use Rattle.std.specs.Prelude.{ℕ, zero, suc, ◌+◌, ◌*◌, List, slice_index, set}

-- where record r begins of the frame that begins at a place
abbrev pub record_place : ℕ → ℕ → ℕ
record_place start r = start + 4 + 16 * r

-- where the first r records begin, each at the place of its station; at the other places stands
-- what stood there
unfoldable pub places_of : List ℕ → ℕ → List ℕ → ℕ → List ℕ
places_of bytes start places zero = places
places_of bytes start places (suc r) =
    set (places_of bytes start places r) (slice_index bytes (record_place start r)) (record_place start r)
