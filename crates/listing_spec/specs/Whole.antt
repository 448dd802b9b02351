-- Document 01, "The relay listing", of a script read in parts of any size.
use Rattle.std.specs.Prelude.{ℕ, ◌≡◌, List, [], ◌++◌, take}
use Rattle.listing_spec.specs.Listing.{listing_of}
use Rattle.listing_spec.specs.declared.reading.Reader.{Reader}
use Rattle.listing_spec.specs.declared.reading.FeedAnswer.{FeedAnswer}
use Rattle.listing_spec.specs.Remaining.{beginning, remaining, Feeds}

-- a reader that was fed parts of a script, with all that it read of them and all that it put into
-- buffers
pub data Reached : Reader → List ℕ → List ℕ → Type 0 where
  at_first : Reached beginning [] []
  then_fed :
      {r : Reader} {read listed : List ℕ} (part entry exit : List ℕ) (f : FeedAnswer) →
      Reached r read listed → Feeds r part entry exit f →
      Reached f.reader (read ++ take f.read part) (listed ++ take f.len exit)

-- with what the end of the script prints it is the listing of the script
abbrev pub ListsWhole : Type 0
ListsWhole = (r : Reader) (read listed : List ℕ) → Reached r read listed → listed ++ remaining r [] ≡ listing_of read
