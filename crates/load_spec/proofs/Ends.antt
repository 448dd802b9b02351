-- Lines without a line end in them are found again in their text, one after the other.
use mathlib.Core.Path.{◌≡◌, refl, ap, ◌∙◌}
use mathlib.Core.Bool.{true, false}
use mathlib.Core.List.{List, [], ◌∷◌, ◌++◌}
use Prim.Native.Nat.{ℕ}
use borrow.Author.Tests.{ne_eqb}
use Rattle.columns.specs.Writing.{nat_columns}
use Rattle.listing_spec.specs.Listing.{Lines, rest, line, lines_of}
use Rattle.listing_spec.proofs.LineEnds.{no_end, no_end-append, no_end-columns, line_first}
use Rattle.load_spec.specs.Script.{fields, line_of, text_of}

no_end-fields : (numbers : List ℕ) → no_end (fields numbers) ≡ true
unfolding fields no_end
no_end-fields [] = refl
no_end-fields (v ∷ vs) = no_end-append (nat_columns 9 v) (fields vs) (no_end-columns false 9 v) (no_end-fields vs)

pub no_end_line : (letter : ℕ) (numbers : List ℕ) → (letter ≡ 10 → ⊥) → no_end (line_of letter numbers) ≡ true
unfolding line_of no_end
no_end_line letter numbers h = rw (ne_eqb letter 10 h) (no_end-fields numbers)

-- the lines of a text
unfoldable pub all_lines : List (List ℕ) → Lines
all_lines [] = rest []
all_lines (l ∷ ls) = line l (all_lines ls)

-- each of the lines has no line end in it
pub data NoEnds : List (List ℕ) → Type 0 where
  no_line : NoEnds []
  one_more : {l : List ℕ} {ls : List (List ℕ)} → no_end l ≡ true → NoEnds ls → NoEnds (l ∷ ls)

pub no_ends-append : {a b : List (List ℕ)} → NoEnds a → NoEnds b → NoEnds (a ++ b)
no_ends-append no_line q = q
no_ends-append (one_more e p) q = one_more e (no_ends-append p q)

pub lines_found : {ls : List (List ℕ)} → NoEnds ls → lines_of (text_of ls) ≡ all_lines ls
unfolding text_of lines_of all_lines
lines_found no_line = refl
lines_found (one_more {l} {ls} e p) = line_first l (text_of ls) e ∙ ap (λ (x : Lines). line l x) (lines_found p)
