-- What a call that answers with two numbers leaves in its buffer.
use mathlib.Core.List.{List, [], ◌∷◌}
use mathlib.Core.Path.{◌≡◌, refl}
use Prim.Native.Nat.{ℕ, ◌≤◌}
use native.Mathlib.Omega.{arith}
use lib.ListN.{length, set, drop}

-- two numbers put in front of a list that has two
pub two_put : (b : List ℕ) (x y : ℕ) → 2 ≤ length b → set (set b 0 x) 1 y ≡ x ∷ y ∷ drop 2 b
two_put [] x y l = absurd (omega arith)
two_put (a ∷ []) x y l = absurd (omega arith)
two_put (a ∷ b ∷ rest) x y l = refl
