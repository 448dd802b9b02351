-- Texts put one behind the other in a loop: no place, and one place more.
use mathlib.Core.List.{List}
use Prim.Native.Nat.{ℕ, ◌+◌, ◌≤◌}
use native.Mathlib.Numerals.{add-one}
use lib.ListN.{length}
use Rattle.listing_lines.specs.Lines.{Put}
use Rattle.listing_lines.specs.Reports.{joined}
use Rattle.listing_lines.proofs.Placed.{put_none, put_more}

pub joined_none : (f : ℕ → List ℕ) (l : List ℕ) (at : ℕ) → Put l l at at (joined 0 f)
unfolding joined
joined_none f l at = put_none l at

pub joined_more :
    (f : ℕ → List ℕ) (k : ℕ) (l₀ l₁ l₂ : List ℕ) (at mid end : ℕ) → at ≤ length l₀ →
    Put l₀ l₁ at mid (joined k f) → Put l₁ l₂ mid end (f k) → Put l₀ l₂ at end (joined (k + 1) f)
unfolding joined
joined_more f k l₀ l₁ l₂ at mid end h p q = rw add-one (put_more l₀ l₁ l₂ at mid end (joined k f) (f k) h p q)
