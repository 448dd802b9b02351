-- A whole part of a script passed to the reader, and a whole script.
use Rattle.std.specs.Prelude.{ℕ, List, ◌++◌, Option}
use Rattle.std.specs.Io.KnownBytes.{Appends, Consumes}
use Rattle.listing_spec.specs.declared.reading.Reader.{Reader}
use Rattle.listing_spec.specs.Listing.{listing_of}
use Rattle.listing_spec.specs.Whole.{Reached}

-- a part was fed to the reader, from its first byte to its last, and the text that the calls put
-- into the buffer was written, behind what the writer held
pub record Passes (r : Reader) (part : List ℕ) (r' : Reader) (before after : Option (List ℕ)) : Type 0 where
  pub text : List ℕ
  pub reaches : (read listed : List ℕ) → Reached r read listed → Reached r' (read ++ part) (listed ++ text)
  pub written : Appends before after text

-- a front of a script was read, and a text written that came of it
pub record Reads (r : Reader) (left left' before after : Option (List ℕ)) : Type 0 where
  pub read : List ℕ
  pub text : List ℕ
  pub reached : Reached r read text
  pub taken : Consumes left left' read
  pub written : Appends before after text

-- a front of a script was read, and its listing written
pub record Lists (left left' before after : Option (List ℕ)) : Type 0 where
  pub read : List ℕ
  pub taken : Consumes left left' read
  pub written : Appends before after (listing_of read)
