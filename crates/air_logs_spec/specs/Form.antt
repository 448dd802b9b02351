-- Document 02, A8: when bytes are a listing. Its lines, and the last one, are those of document 01,
-- "The relay listing": what lines/specs writes is read here.
use Rattle.std.specs.Prelude.{ℕ, Bool, true, false, if◌then◌else◌, ◌&&◌, ◌||◌, List, [], ◌∷◌, ◌++◌}
use Rattle.std.specs.Prelude.{◌==◌, slice_index, take, drop}
use Rattle.std.specs.Prelude.{length}
use Rattle.columns.specs.declared.reader.Reading.{Reading}
use Rattle.columns.specs.Reading.{read_columns}
use Rattle.script.specs.Line.{is_natural, is_whole}
use Rattle.listing_lines.specs.Lines.{delivered, airing, ending, turned_down, end_line}
use Rattle.listing_spec.specs.Listing.{Lines, rest, line, lines_of}

-- the number in the w columns from a place of a line
abbrev pub field : List ℕ → ℕ → ℕ → Reading
field l at w = read_columns (take w (drop at l))

-- A, D, E or X
abbrev pub is_letter : ℕ → Bool
is_letter b = b == airing || (b == delivered || (b == ending || b == turned_down))

-- the listing's form of a line, without its line end: round in 6 columns, a space, the letter,
-- station in 3, source in 3, kind in 2, event in 9, argument in 9. Each number is right-justified,
-- and only the argument may have a minus; values are not judged
unfoldable pub is_line : List ℕ → Bool
is_line l =
    length l == 34
    && (is_natural (field l 0 6)
    && (slice_index l 6 == 32
    && (is_letter (slice_index l 7)
    && (is_natural (field l 8 3)
    && (is_natural (field l 11 3)
    && (is_natural (field l 14 2)
    && (is_natural (field l 16 9)
    && is_whole (field l 25 9))))))))

-- the same bytes
unfoldable pub same_bytes : List ℕ → List ℕ → Bool
same_bytes [] [] = true
same_bytes [] (b ∷ t) = false
same_bytes (a ∷ s) [] = false
same_bytes (a ∷ s) (b ∷ t) = a == b && same_bytes s t

-- with its line end a line is the last one
abbrev pub is_end : List ℕ → Bool
is_end l = same_bytes (l ++ (10 ∷ [])) end_line

-- neither a line nor a byte is left
abbrev pub none_left : Lines → Bool
none_left (rest l) = length l == 0
none_left (line l ls) = false

-- lines of the form, then the last line, and nothing after it
unfoldable pub are_listing : Lines → Bool
are_listing (rest l) = false
are_listing (line l ls) = if is_line l then are_listing ls else is_end l && none_left ls

-- the bytes are a listing
abbrev pub is_listing : List ℕ → Bool
is_listing bytes = are_listing (lines_of bytes)
