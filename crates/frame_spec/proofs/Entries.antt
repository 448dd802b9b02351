-- Reading: a record field by field, and the entries of a frame one after the other.
use mathlib.Core.Path.{◌≡◌, refl}
use mathlib.Core.List.{List}
use Prim.Native.Nat.{ℕ, ◌+◌}
use native.Mathlib.Numerals.{add-one}
use lib.ListN.{set, replicate}
use Rattle.lists.specs.Below.{set_below}
use Rattle.frame_spec.specs.declared.Record.{Record}
use Rattle.frame_spec.specs.Record.{record_from, no_record}
use Rattle.frame_spec.specs.Frame.{part}

module _ (bytes : List ℕ) where
  -- the entries once k of the records are read
  abbrev pub entries_below : ℕ → List Record
  entries_below k = set_below k (λ j. record_from (part bytes j)) (replicate 16 no_record)

  pub entries_none : replicate 16 no_record ≡ entries_below 0
  unfolding set_below
  entries_none = refl

  pub entries_more :
      (k : ℕ) (l : List Record) (r : Record) → l ≡ entries_below k → r ≡ record_from (part bytes k) → set l k r ≡ entries_below (k + 1)
  unfolding set_below
  entries_more k l r h e = rw (add-one k, h, e)

-- what a loop over the entries cites
pub ruleset steps = (entries_none, entries_more)
