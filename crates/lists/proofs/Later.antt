-- What holds at u, and at each next number where it holds at one from u on, holds from u on.
use Prim.Native.Nat.{ℕ, zero, suc, ◌≤◌}
use mathlib.Core.Path.{subst}
use native.Mathlib.Decide.{ℕ_discrete}
use native.Mathlib.Omega.{arith}

pub from_on : (P : ℕ → Type 0) (u : ℕ) → P u → ((w : ℕ) → u ≤ w → P w → P (suc w)) → (w : ℕ) → u ≤ w → P w
from_on P u here step zero l = subst P (omega arith) here
from_on P u here step (suc w) l =
    elim (ℕ_discrete u (suc w)) [
      | yes e ↦ subst P e here
      | no d ↦ step w (omega arith) (from_on P u here step w (omega arith))
    ]
