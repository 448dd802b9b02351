-- One more byte, taken from the left of what is left, or added at the right of what was read.
use mathlib.Core.Path.{◌≡◌, refl}
use mathlib.Core.List.{List, [], ◌∷◌, ◌++◌}
use Prim.Native.Nat.{ℕ, ◌+◌, ◌<◌}
use native.Mathlib.Numerals.{add-one}
use lib.ListN.{length, drop, get_or}
use lib.Seq.{drop-cons}
use Rattle.columns.specs.declared.reader.Reading.{Reading}
use Rattle.columns.specs.Reading.{next, read_from}

pub read_step :
    (r : Reading) (s : List ℕ) (i : ℕ) → i < length s → read_from (next r (get_or s i 0)) (drop (i + 1) s) ≡ read_from r (drop i s)
unfolding read_from
read_step r s i h = rw (add-one, drop-cons s i 0)

pub read_snoc : (r : Reading) (s : List ℕ) (b : ℕ) → read_from r (s ++ (b ∷ [])) ≡ next (read_from r s) b
unfolding read_from
read_snoc r [] b = refl
read_snoc r (a ∷ s) b = read_snoc (next r a) s b
