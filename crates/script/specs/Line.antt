-- Document 01, "The relay listing": what a script line, without its line end, says; or that it is
-- malformed.
use Rattle.std.specs.Prelude.{ℕ, ◌+◌, ◌*◌, Bool, true, false, if◌then◌else◌, ◌&&◌, List}
use Rattle.std.specs.Prelude.{slice_index, take, drop, length, nat_le, nat_lt}
use Rattle.std.specs.Prelude.{◌==◌, ℤ, pos, neg_ℤ}
use Rattle.lists.specs.Below.{all_below, tabulate}
use Rattle.columns.specs.declared.reader.Reading.{Reading}
use Rattle.columns.specs.declared.reader.Reading.TheVariants.{Blank, Minus, Number, Malformed}
use Rattle.columns.specs.Reading.{read_columns}
use Rattle.script.specs.declared.Command.{Command}
use Rattle.script.specs.declared.Command.TheVariants.{Size, Post, Round, Malformed as MalformedLine}

-- the highest number that the nine columns of a field hold
abbrev pub highest_number : ℕ
highest_number = 999_999_999

-- what a field without a number counts as: more than a field holds, so that it is beyond every
-- limit
abbrev pub no_number : ℕ
no_number = highest_number + 1

-- the number in nine columns, if it has no minus
abbrev pub natural_of : Reading → ℕ
natural_of Blank = no_number
natural_of Minus = no_number
natural_of (Number minus v) = if minus then no_number else v
natural_of Malformed = no_number

-- there is such a number
abbrev pub is_natural : Reading → Bool
is_natural r = nat_lt (natural_of r) no_number

-- there is a number, behind a minus or not
abbrev pub is_whole : Reading → Bool
is_whole Blank = false
is_whole Minus = false
is_whole (Number minus v) = true
is_whole Malformed = false

abbrev pub signed_of : Bool → ℕ → ℤ
signed_of minus v = if minus then neg_ℤ (pos v) else pos v

-- the number with its sign, 0 where there is none
abbrev pub whole_of : Reading → ℤ
whole_of Blank = pos 0
whole_of Minus = pos 0
whole_of (Number minus v) = signed_of minus v
whole_of Malformed = pos 0

-- the number in the nine columns of field k, the first behind the letter being field 0; a line has
-- at most sixteen fields
unfoldable pub field_of : List ℕ → ℕ → Reading
field_of line k =
    if nat_lt k 16 && nat_le (9 * k + 10) (length line)
    then read_columns (take 9 (drop (9 * k + 1) line))
    else Malformed

-- the line is a letter and n fields, and nothing else
abbrev pub shaped : List ℕ → ℕ → ℕ → Bool
shaped line letter n = length line == 9 * n + 1 && slice_index line 0 == letter

-- `N`: the group's size
unfoldable pub size_line : List ℕ → Command
size_line line =
    if shaped line 78 1 && (nat_le 1 (natural_of (field_of line 0)) && nat_le (natural_of (field_of line 0)) 16)
    then Size (natural_of (field_of line 0))
    else MalformedLine

-- `P`: station, kind, event and argument, of which only the argument may have a minus
unfoldable pub post_shaped : List ℕ → Bool
post_shaped line =
    shaped line 80 4
    && (is_natural (field_of line 0)
    && (is_natural (field_of line 1) && (is_natural (field_of line 2) && is_whole (field_of line 3))))

unfoldable pub post_line : List ℕ → Command
post_line line =
    if post_shaped line
    then Post (natural_of (field_of line 0)) (natural_of (field_of line 1)) (natural_of (field_of line 2))
    (whole_of (field_of line 3))
    else MalformedLine

-- a mask is 0 to 65,535
unfoldable pub is_mask : Reading → Bool
is_mask r = nat_le (natural_of r) 65535

-- the fields below n are masks
unfoldable pub masks_inside : List ℕ → ℕ → Bool
masks_inside line n = all_below n (λ k. is_mask (field_of line k))

-- `R`: a mask for each of n stations
unfoldable pub round_line : ℕ → List ℕ → Command
round_line n line = if shaped line 82 n && masks_inside line n then Round else MalformedLine

-- a line of a script whose group has n stations; n = 0 says that no `N` line was read yet. An `N`
-- line is wanted first, and is malformed later
unfoldable pub command_of : ℕ → List ℕ → Command
command_of n line =
    if n == 0 then size_line line
    else if slice_index line 0 == 80 then post_line line
    else round_line n line

-- the masks of a round's line, a mask for each of n stations; those from n up are 0
unfoldable pub mask_at : List ℕ → ℕ → ℕ → ℕ
mask_at line n k =
    if nat_lt k n && is_mask (field_of line k) then natural_of (field_of line k) else 0

unfoldable pub masks_of : ℕ → List ℕ → List ℕ
masks_of n line = tabulate 16 (mask_at line n)
