-- What the inner functions promise to each other: the digits of a number, and the next kept line of
-- a listing.
use Rattle.std.specs.Prelude.{ℕ, ◌+◌, ◌<◌, ◌≤◌, Bool, true, false, if◌then◌else◌, ◌&&◌, List, []}
use Rattle.std.specs.Prelude.{◌∷◌, ◌≡◌, nat_le, nat_lt, ◌==◌}
use Rattle.std.specs.Prelude.{length, take, slice_index}
use Rattle.std.specs.List.{list_all}
use Rattle.columns.specs.declared.reader.Reading.TheVariants.{Blank}
use Rattle.columns.specs.Reading.{read_from, read_columns}
use Rattle.air_logs_spec.specs.Form.{is_line, is_listing}
use Rattle.air_logs_spec.specs.Logs.{edit_in, log_of}

-- the most columns of a number in a line: those of an event, and of an argument
abbrev pub widest_columns : ℕ
widest_columns = 9

-- '0' to '9'
abbrev pub is_digit : ℕ → Bool
is_digit b = nat_le 48 b && nat_le b 57

abbrev pub all_digits : List ℕ → Bool
all_digits s = list_all is_digit s

-- a number above 0, with nothing before it
unfoldable pub is_positive : List ℕ → Bool
is_positive [] = false
is_positive (b ∷ s) = nat_lt 48 b && (nat_le b 57 && all_digits s)

-- a number, with nothing before it
unfoldable pub is_unsigned : List ℕ → Bool
is_unsigned [] = false
is_unsigned (b ∷ s) = if b == 48 then length s == 0 else is_positive (b ∷ s)

-- the same, or a minus and a number above 0
unfoldable pub is_signed : List ℕ → Bool
is_signed [] = false
is_signed (b ∷ s) = if b == 45 then is_positive s else is_unsigned (b ∷ s)

-- what stands behind the blanks of a field: it reads alike, and does not begin with a blank
pub record Unpadded (s t : List ℕ) : Type 0 where
  pub inside : length t ≤ length s
  pub read : read_columns s ≡ read_from Blank t
  pub used : 0 < length t → slice_index t 0 ≡ 32 → ⊥

-- the two bytes of a station up to 15 behind a blank
abbrev pub tens_of : ℕ → ℕ
tens_of p = if nat_lt p 10 then 32 else 49

-- a line with its line end
abbrev pub is_ended_line : List ℕ → Bool
is_ended_line s = is_line (take 34 s) && slice_index s 34 == 10

-- the first line of station p in a listing, and the listing behind it
pub record KeptLine (p : ℕ) (listing line rest : List ℕ) : Type 0 where
  pub form : is_line line ≡ true
  pub behind : is_listing rest ≡ true
  pub shorter : length rest + 35 ≤ length listing
  pub log : log_of p listing ≡ edit_in line ∷ log_of p rest
