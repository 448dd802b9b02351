-- Two listing lines, byte by byte: a line of document 01's example, and one whose numbers fill
-- their columns or stand behind a minus.
use mathlib.Core.List.{[], ◌∷◌}
use mathlib.Core.Path.{◌≡◌, refl}
use lib.IntN.{pos, negsuc}
use Rattle.bodies.specs.declared.Body.TheVariants.{Insert, Shift}
use Rattle.columns.specs.Writing.{lead, columns}
use Rattle.listing_lines.specs.Lines.{delivered, airing, head_bytes, body_bytes, line_bytes}

pub taken_line :
    line_bytes 2 delivered 0 0 (Insert 0 7 (pos 100))
    ≡ 32 ∷ 32 ∷ 32 ∷ 32 ∷ 32 ∷ 50 ∷ 32 ∷ 68 ∷ 32 ∷ 32 ∷ 48 ∷ 32 ∷ 32 ∷ 48 ∷ 32 ∷ 50 ∷ 32 ∷ 32 ∷ 32 ∷ 32 ∷ 32 ∷ 32 ∷ 32 ∷ 32 ∷ 55 ∷ 32 ∷ 32 ∷ 32 ∷ 32 ∷ 32 ∷ 32 ∷ 49 ∷ 48 ∷ 48 ∷ 10 ∷ []
unfolding line_bytes head_bytes body_bytes columns lead
taken_line = refl

pub aired_line :
    line_bytes 999_999 airing 15 3 (Shift 0 12_345_678 (negsuc 1_499))
    ≡ 57 ∷ 57 ∷ 57 ∷ 57 ∷ 57 ∷ 57 ∷ 32 ∷ 65 ∷ 32 ∷ 49 ∷ 53 ∷ 32 ∷ 32 ∷ 51 ∷ 32 ∷ 52 ∷ 32 ∷ 49 ∷ 50 ∷ 51 ∷ 52 ∷ 53 ∷ 54 ∷ 55 ∷ 56 ∷ 32 ∷ 32 ∷ 32 ∷ 32 ∷ 45 ∷ 49 ∷ 53 ∷ 48 ∷ 48 ∷ 10 ∷ []
unfolding line_bytes head_bytes body_bytes columns lead
aired_line = refl
