-- Document 02, A5: the script of a seed, a group's size and a number of rounds, in the form that
-- document 01 gives for the listing's input.
use Rattle.std.specs.Prelude.{ℕ, zero, suc, ◌+◌, ◌*◌, List, [], ◌∷◌, ◌++◌}
use Rattle.lists.specs.Below.{filter_map, tabulate}
use Rattle.columns.specs.Writing.{nat_columns}
use Rattle.load_spec.specs.Draws.{post_draw, mask_draw, after_round, posts}

-- the columns of a number, and numbers, each right-justified in its columns
abbrev pub field_width : ℕ
field_width = 9

unfoldable pub fields : List ℕ → List ℕ
fields [] = []
fields (v ∷ vs) = nat_columns field_width v ++ fields vs

-- a line, without its line end: a letter and numbers
unfoldable pub line_of : ℕ → List ℕ → List ℕ
line_of letter numbers = letter ∷ fields numbers

-- lines as bytes, each with its line end, which is byte 10
unfoldable pub text_of : List (List ℕ) → List ℕ
text_of [] = []
text_of (l ∷ ls) = l ++ (10 ∷ text_of ls)

-- `N`: the group's size
unfoldable pub size_line : ℕ → List ℕ
size_line n = line_of 78 (n ∷ [])

-- its bytes: the letter, a number and the line end
abbrev pub size_length : ℕ
size_length = 1 + field_width + 1

-- `P`: station p posts what a draw says, an insert (kind 2) whose event is draw + 1 and whose start
-- is the draw
unfoldable pub post_line : ℕ → ℕ → List ℕ
post_line p draw = line_of 80 (p ∷ 2 ∷ (draw + 1) ∷ draw ∷ [])

-- its bytes: the letter, four numbers and the line end
abbrev pub post_length : ℕ
post_length = 1 + field_width * 4 + 1

-- `R`: the masks of n stations
unfoldable pub mask_line : ℕ → ℕ → List ℕ
mask_line s n = line_of 82 (tabulate n (mask_draw s))

-- the posts of a round among n stations that begins in state s, by station
unfoldable pub post_lines : ℕ → ℕ → List (List ℕ)
post_lines s n = filter_map n (λ p. posts (post_draw s p)) (λ p. post_line p (post_draw s p))

-- the lines of that round: its posts, then its masks
unfoldable pub round_lines : ℕ → ℕ → List (List ℕ)
round_lines s n = post_lines s n ++ (mask_line s n ∷ [])

-- the lines of so many rounds, each beginning in the state that the round before left
unfoldable pub rounds_lines : ℕ → ℕ → ℕ → List (List ℕ)
rounds_lines s n zero = []
rounds_lines s n (suc count) = round_lines s n ++ rounds_lines (after_round n s) n count

-- the whole script
unfoldable pub script_lines : ℕ → ℕ → ℕ → List (List ℕ)
script_lines seed n count = size_line n ∷ rounds_lines seed n count

unfoldable pub script_of : ℕ → ℕ → ℕ → List ℕ
script_of seed n count = text_of (script_lines seed n count)
