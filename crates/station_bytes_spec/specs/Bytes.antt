-- Bytes one behind the other: what stands at a place of a list of bytes, and parts of one width.
use Rattle.std.specs.Prelude.{ℕ, zero, suc, Bool, if◌then◌else◌, List, [], ◌++◌, ◌==◌, nat_lt, slice_index, take, drop}

-- the bytes of a word
abbrev pub word_width : ℕ
word_width = 4

-- the byte at a place
abbrev pub byte_at : List ℕ → ℕ → ℕ
byte_at b at = slice_index b at

-- the flag at a place, and its byte
abbrev pub flag_at : List ℕ → ℕ → Bool
flag_at b at = byte_at b at == 1

abbrev pub flag_byte : Bool → ℕ
flag_byte flag = if flag then 1 else 0

-- a number as a byte; 255 stands for all greater ones, of which no station inside its limits has
-- one
unfoldable pub as_byte : ℕ → ℕ
as_byte number = if nat_lt number 256 then number else 255

-- so many bytes from a place on
abbrev pub span : ℕ → ℕ → List ℕ → List ℕ
span at width b = take width (drop at b)

-- the parts below n, one behind the other
unfoldable pub joined_below : ℕ → (ℕ → List ℕ) → List ℕ
joined_below zero part = []
joined_below (suc k) part = joined_below k part ++ part k
