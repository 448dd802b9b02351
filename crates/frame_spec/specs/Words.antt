-- Document 01, "Frame bytes": fields of four bytes, the lowest first, and two's complement.
use Rattle.std.specs.Prelude.{ℕ, ◌+◌, ◌-◌, ◌*◌, ◌/◌, ◌%◌, if◌then◌else◌}
use Rattle.std.specs.Prelude.{List, [], ◌∷◌, slice_index, nat_lt, ℤ, pos, negsuc}

-- the number in four bytes from a place on
unfoldable pub word_at : List ℕ → ℕ → ℕ
word_at bytes at =
    slice_index bytes at + 256 * slice_index bytes (at + 1) + 65_536 * slice_index bytes (at + 2)
    + 16_777_216 * slice_index bytes (at + 3)

-- a number as four bytes
unfoldable pub word_bytes : ℕ → List ℕ
word_bytes word = word % 256 ∷ word / 256 % 256 ∷ word / 65_536 % 256 ∷ word / 16_777_216 % 256 ∷ []

-- a word as a signed number in two's complement (negsuc k is -(k + 1))
unfoldable pub signed : ℕ → ℤ
signed word = if nat_lt word 2_147_483_648 then pos word else negsuc (4_294_967_295 - word)

-- a signed number as a word in two's complement
unfoldable pub unsigned : ℤ → ℕ
unsigned (pos n) = n
unsigned (negsuc n) = 4_294_967_295 - n
