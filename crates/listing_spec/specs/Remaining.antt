-- A script read in parts: what is still to be listed where the reading stands, and what each call
-- says of it.
use Rattle.std.specs.Prelude.{ℕ, ◌≤◌, ◌<◌, ◌≡◌, List, ◌++◌, length, take, slice_index, replicate}
use Rattle.listing_lines.specs.Lines.{end_line, Put}
use Rattle.listing_spec.specs.declared.Session.{Session}
use Rattle.listing_spec.specs.Listing.{Lines, rest, line, session_begun, lines_of, listed}
use Rattle.listing_spec.specs.declared.reading.Reader.{Reader}
use Rattle.listing_spec.specs.declared.reading.FeedAnswer.{FeedAnswer}

-- how many bytes of a line are kept: one more than the longest line of the form has, so that a
-- line that is too long is seen to be malformed
abbrev pub kept_bytes : ℕ
kept_bytes = 146

-- bytes put before the first line
abbrev pub behind : List ℕ → Lines → Lines
behind held (rest l) = rest (held ++ l)
behind held (line l ls) = line (held ++ l) ls

-- what is still to be listed: what the lines print, of which the first begins with the bytes held,
-- and the last line
unfoldable pub remaining_at : Session → List ℕ → List ℕ → List ℕ
remaining_at s held bytes = listed s (behind held (lines_of bytes)) ++ end_line

-- the bytes of a line whose line end is still to come. What stands in the array past them is left
-- from earlier lines and is no part of the state: nothing that a reader does or promises depends on
-- it
abbrev pub held_by : Reader → List ℕ
held_by r = take r.len r.line

-- what is still to be listed of a script of which these bytes are to come
abbrev pub remaining : Reader → List ℕ → List ℕ
remaining r bytes = remaining_at r.session (held_by r) bytes

-- before any byte is read
abbrev pub beginning : Reader
beginning = record { session = session_begun; len = 0; line = replicate kept_bytes 0 }

-- some bytes of a part are read, and the front of the buffer is what they print: with what is then
-- to be listed it is what was to be listed before, whatever follows
pub record Listed
    (s : Session) (held part entry : List ℕ) (s' : Session) (held' : List ℕ) (read len : ℕ) (exit : List ℕ)
    : Type 0 where
  pub inside : read ≤ length part
  pub put : Put entry exit 0 len (take len exit)
  pub lists : (more : List ℕ) →
      remaining_at s held (take read part ++ more) ≡ take len exit ++ remaining_at s' held' more

-- what feeding a part promises; of a part that is not empty something is read
pub record Feeds (r : Reader) (part entry exit : List ℕ) (f : FeedAnswer) : Type 0 where
  pub lists :
      Listed r.session (held_by r) part entry f.reader.session (held_by f.reader) f.read f.len exit
  pub kept : f.reader.len ≤ kept_bytes
  pub moves : 0 < length part → 0 < f.read

-- bytes taken into the line that is held: in every session, and whatever follows, the same is to be
-- listed
pub record Same (held bytes held' : List ℕ) : Type 0 where
  pub same : (s : Session) (more : List ℕ) → remaining_at s held (bytes ++ more) ≡ remaining_at s held' more

-- at a place of a part a line end stands, or the part is over
abbrev pub EndsAt : List ℕ → ℕ → Type 0
EndsAt part next = (next ≤ length part) × (next < length part → slice_index part next ≡ 10)
