-- Fed in parts of any size, a script is listed whole: what was put into buffers, and what is still
-- to be listed, is at every time the listing of what was read and whatever follows.
use Prim.Native.Nat.{ℕ}
use mathlib.Core.Path.{◌≡◌, sym, ap, ◌∙◌}
use mathlib.Core.List.{List, [], ◌++◌, append_assoc, append-nil}
use lib.ListN.{take}
use Rattle.listing_spec.specs.Listing.{listing_of}
use Rattle.listing_spec.specs.declared.reading.Reader.{Reader}
use Rattle.listing_spec.specs.Remaining.{remaining}
use Rattle.listing_spec.specs.Whole.{Reached, at_first, then_fed, ListsWhole}
use Rattle.listing_spec.proofs.Steps.{at_start}

always : {r : Reader} {read listed : List ℕ} → Reached r read listed → (more : List ℕ) → listed ++ remaining r more ≡ listing_of (read ++ more)
always at_first more = at_start more
always (then_fed {r} {read} {listed} part entry exit f g h) more =
    append_assoc listed (take f.len exit) (remaining f.reader more)
    ∙ ap (λ (l : List ℕ). listed ++ l) (sym (h.lists.lists more))
    ∙ always g (take f.read part ++ more)
    ∙ ap listing_of (sym (append_assoc read (take f.read part) more))

pub lists_whole : ListsWhole
lists_whole r read listed g = always g [] ∙ ap listing_of (append-nil read)
