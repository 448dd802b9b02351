-- Document 01, "The relay listing": a number right-justified in its columns, read from the left.
-- Blanks come first, then at most one minus, then the digits up to the last column; no leading
-- zero, no minus before a zero, at most nine digits. `reads_exactly` (proofs/Only) says the same
-- without the order of reading: bytes are read as a number exactly if they are what `columns` of
-- `Writing` writes of it.
use Rattle.std.specs.Prelude.{ℕ, ◌+◌, ◌-◌, ◌*◌, Bool, true, false, if◌then◌else◌, ◌&&◌, ◌||◌, List}
use Rattle.std.specs.Prelude.{[], ◌∷◌, nat_le, nat_lt, ◌==◌}
use Rattle.columns.specs.declared.reader.Reading.{Reading}
use Rattle.columns.specs.declared.reader.Reading.TheVariants.{Blank, Minus, Number, Malformed}

-- the value of the bytes '0' to '9', and 10 for any other
abbrev pub digit_of : ℕ → ℕ
digit_of b = if nat_le 48 b && nat_le b 57 then b - 48 else 10

-- a number's first digit
unfoldable pub started : Bool → ℕ → Reading
started minus d = if d == 10 || (minus && d == 0) then Malformed else Number minus d

-- a further digit; nothing follows a zero, and no tenth digit a ninth
unfoldable pub grown : Bool → ℕ → ℕ → Reading
grown minus v d =
    if d == 10 || (v == 0 || nat_lt 99_999_999 v) then Malformed else Number minus (v * 10 + d)

-- what is read once one byte more is seen: a blank is byte 32, a minus byte 45
unfoldable pub next : Reading → ℕ → Reading
next Blank b = if b == 32 then Blank else if b == 45 then Minus else started false (digit_of b)
next Minus b = started true (digit_of b)
next (Number minus v) b = grown minus v (digit_of b)
next Malformed b = Malformed

-- what is read once all the bytes are seen
unfoldable pub read_from : Reading → List ℕ → Reading
read_from r [] = r
read_from r (b ∷ bs) = read_from (next r b) bs

abbrev pub read_columns : List ℕ → Reading
read_columns bytes = read_from Blank bytes
