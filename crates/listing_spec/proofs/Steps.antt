-- What is still to be listed, byte by byte: a byte joins the line that is held, one too many
-- changes nothing, a line end prints the line, and the end closes the script.
use mathlib.Core.Path.{◌≡◌, refl, ◌∙◌}
use mathlib.Core.List.{List, [], ◌∷◌, ◌++◌, append_assoc, append-nil}
use Prim.Native.Nat.{ℕ, ◌<◌}
use native.Mathlib.Omega.{arith}
use lib.ListN.{length, length-append}
use borrow.Author.Tests.{ne_eqb}
use Rattle.listing_lines.specs.Lines.{end_line}
use Rattle.listing_spec.specs.declared.Session.{Session}
use Rattle.listing_spec.specs.Listing.{Lines, rest, line, before, session_begun, lines_of, listed, listing_of, after, printed, closed}
use Rattle.listing_spec.proofs.Overlong.{printed_long, after_long, closed_some}
use Rattle.listing_spec.specs.Remaining.{behind, remaining_at}

behind_none : (ls : Lines) → behind [] ls ≡ ls
behind_none (rest l) = refl
behind_none (line l ls) = refl

behind-before : (held : List ℕ) (b : ℕ) (ls : Lines) → behind held (before b ls) ≡ behind (held ++ (b ∷ [])) ls
behind-before held b (rest l) = rw append_assoc
behind-before held b (line l ls) = rw append_assoc

-- a byte that is no line end joins the line
pub joins : (s : Session) (held : List ℕ) (b : ℕ) (bytes : List ℕ) → (b ≡ 10 → ⊥) → remaining_at s held (b ∷ bytes) ≡ remaining_at s (held ++ (b ∷ [])) bytes
unfolding remaining_at lines_of
joins s held b bytes d = rw (ne_eqb b 10 d, behind-before)

-- the bytes of a line of more than 145 don't matter
listed_long : (s : Session) (held more : List ℕ) (ls : Lines) → 145 < length held → 145 < length more → listed s (behind held ls) ≡ listed s (behind more ls)
unfolding listed
listed_long s held more (rest l) h k =
    closed_some s (held ++ l) (more ++ l) (omega (arith, length-append held l)) (omega (arith, length-append more l))
listed_long s held more (line l ls) h k =
    let left : 145 < length (held ++ l) = omega (arith, length-append held l) in
    let right : 145 < length (more ++ l) = omega (arith, length-append more l) in
    rw (printed_long s (held ++ l) (more ++ l) left right, after_long s (held ++ l) (more ++ l) left right)

long_same : (s : Session) (held more bytes : List ℕ) → 145 < length held → 145 < length more → remaining_at s held bytes ≡ remaining_at s more bytes
unfolding remaining_at
long_same s held more bytes h k = rw (listed_long s held more (lines_of bytes) h k)

-- a byte behind 145 others need not be kept
pub drops :
    (s : Session) (held : List ℕ) (b : ℕ) (bytes : List ℕ) → (b ≡ 10 → ⊥) → 145 < length held →
    remaining_at s held (b ∷ bytes) ≡ remaining_at s held bytes
drops s held b bytes d h = joins s held b bytes d ∙ long_same s (held ++ (b ∷ [])) held bytes (omega (arith, length-append held (b ∷ []))) h

-- a line end prints the line
pub line_end : (s : Session) (held bytes : List ℕ) → remaining_at s held (10 ∷ bytes) ≡ printed s held ++ remaining_at (after s held) [] bytes
unfolding remaining_at lines_of listed
line_end s held bytes = rw (append-nil, append_assoc, behind_none)

-- the end of the script
pub at_end : (s : Session) (held : List ℕ) → remaining_at s held [] ≡ closed s held ++ end_line
unfolding remaining_at lines_of listed
at_end s held = rw append-nil

-- before any byte is read the whole listing is still to come
pub at_start : (script : List ℕ) → remaining_at session_begun [] script ≡ listing_of script
unfolding remaining_at listing_of
at_start script = rw behind_none
