-- Document 02, A8: the air log of a station in a listing, which is what its A lines say without
-- their rounds.
use Rattle.std.specs.Prelude.{ℕ, Bool, if◌then◌else◌, ◌&&◌, List, [], ◌∷◌, ◌++◌, ◌==◌, ℤ, slice_index}
use Rattle.script.specs.Line.{natural_of, whole_of}
use Rattle.listing_lines.specs.Lines.{airing}
use Rattle.listing_spec.specs.Listing.{Lines, rest, line, lines_of}
use Rattle.air_logs_spec.specs.Form.{field}

-- what is compared of a line
pub record Edit : Type 0 where
  pub source : ℕ
  pub kind : ℕ
  pub event : ℕ
  pub argument : ℤ

unfoldable pub edit_in : List ℕ → Edit
edit_in l =
    record {
      source = natural_of (field l 11 3);
      kind = natural_of (field l 14 2);
      event = natural_of (field l 16 9);
      argument = whole_of (field l 25 9);
    }

-- an A line of station p
unfoldable pub is_kept : ℕ → List ℕ → Bool
is_kept p l = slice_index l 7 == airing && natural_of (field l 8 3) == p

-- what is kept of lines, in their order
unfoldable pub kept_in : ℕ → Lines → List Edit
kept_in p (rest l) = []
kept_in p (line l ls) = (if is_kept p l then edit_in l ∷ [] else []) ++ kept_in p ls

-- the log of station p
abbrev pub log_of : ℕ → List ℕ → List Edit
log_of p bytes = kept_in p (lines_of bytes)
