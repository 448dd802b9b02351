-- Document 01, "The relay listing": a number written right-justified in its columns.
use Rattle.std.specs.Prelude.{ℕ, zero, suc, ◌+◌, ◌*◌, ◌/◌, ◌%◌, ◌^◌, ◌<◌, ◌≡◌, Bool, true, false}
use Rattle.std.specs.Prelude.{if◌then◌else◌, List, [], ◌∷◌}
use Rattle.std.specs.Prelude.{◌++◌, replicate, nat_lt, ℤ, pos, nat_abs}
use Rattle.std.specs.Int.Signed.{lt_z}

-- what stands in the w columns before the first digit: blanks, or blanks with a minus in the last
-- of them
unfoldable pub lead : Bool → ℕ → List ℕ
lead false w = replicate w 32
lead true zero = []
lead true (suc w) = replicate w 32 ++ (45 ∷ [])

-- a number in w columns, behind a minus or not: its last digit in the last column, before it the
-- number without that digit. A number that does not fit loses what stands first.
unfoldable pub columns : Bool → ℕ → ℕ → List ℕ
columns minus zero v = []
columns minus (suc w) v = (if nat_lt v 10 then lead minus w else columns minus w (v / 10)) ++ ((48 + v % 10) ∷ [])

-- a natural number in w columns
abbrev pub nat_columns : ℕ → ℕ → List ℕ
nat_columns w v = columns false w v

-- a whole number in w columns
abbrev pub int_columns : ℕ → ℤ → List ℕ
int_columns w z = columns (lt_z z (pos 0)) w (nat_abs z)

-- a number of at most nine digits fits w columns; a minus takes a column of its own, and stands
-- before no zero
pub record Fits (minus : Bool) (w v : ℕ) : Type 0 where
  pub some : 0 < w
  pub digits : v < 10 ^ w
  pub nine : v < 1_000_000_000
  pub behind : minus ≡ true → (0 < v) × (v * 10 < 10 ^ w)
