-- Document 01's example: the definition gives its listing, line by line. What bytes a line has is
-- said by Lines.
use mathlib.Core.Path.{◌≡◌, refl}
use mathlib.Core.List.{List, [], ◌∷◌, ◌++◌}
use Prim.Native.Nat.{ℕ, zero, suc}
use lib.IntN.{pos}
use Rattle.bodies.specs.declared.Body.TheVariants.{Empty, Neutral, Insert}
use Rattle.columns.specs.Writing.{nat_columns}
use Rattle.listing_lines.specs.Lines.{delivered, airing, ending, turned_down, line_bytes, end_line}
use Rattle.listing_spec.specs.Listing.{listing_of}
use Rattle.listing_spec.proofs.Computing.{listing_runs}

abbrev edit : Rattle.bodies.specs.declared.Body.Body
edit = Insert 0 7 (pos 100)

abbrev round_of : ℕ → ℕ → List ℕ
round_of a b = 82 ∷ nat_columns 9 a ++ nat_columns 9 b ++ (10 ∷ [])

-- the script: N, P and three times R
abbrev script : List ℕ
script =
    (78 ∷ nat_columns 9 2 ++ (10 ∷ []))
    ++ (80 ∷ nat_columns 9 0 ++ nat_columns 9 2 ++ nat_columns 9 7 ++ nat_columns 9 100 ++ (10 ∷ []))
    ++ round_of 2 1
    ++ round_of 2 1
    ++ round_of 2 1

pub example :
    listing_of script
    ≡ line_bytes 2 ending 0 0 Empty
    ++ line_bytes 2 delivered 0 0 edit
    ++ line_bytes 2 ending 1 1 Empty
    ++ line_bytes 2 delivered 1 1 Neutral
    ++ line_bytes 3 delivered 0 1 Neutral
    ++ line_bytes 3 airing 0 0 edit
    ++ line_bytes 3 delivered 1 0 edit
    ++ line_bytes 3 airing 1 0 edit
    ++ end_line
unfolding listing_runs
example = refl

-- an empty script, and one whose first line is not `N`: the reading stops, whatever follows
pub empty : listing_of [] ≡ line_bytes 0 turned_down 0 11 Empty ++ end_line
unfolding listing_runs
empty = refl

pub stops : listing_of (88 ∷ 10 ∷ script) ≡ line_bytes 0 turned_down 0 11 Empty ++ end_line
unfolding listing_runs
stops = refl

-- a script of one station, and a line that posts an edit there
abbrev alone : List ℕ
alone = 78 ∷ nat_columns 9 1 ++ (10 ∷ [])

abbrev post_line : List ℕ
post_line = 80 ∷ nat_columns 9 0 ++ nat_columns 9 3 ++ nat_columns 9 7 ++ nat_columns 9 0 ++ (10 ∷ [])

unfoldable pub posts : ℕ → List ℕ
posts zero = []
posts (suc k) = post_line ++ posts k

-- the listing's limit is 32: of 33 posts before the first round the last alone is refused
pub thirty_two : listing_of (alone ++ posts 32) ≡ end_line
unfolding listing_runs posts
thirty_two = refl

pub thirty_three : listing_of (alone ++ posts 33) ≡ line_bytes 0 turned_down 0 3 Empty ++ end_line
unfolding listing_runs posts
thirty_three = refl
