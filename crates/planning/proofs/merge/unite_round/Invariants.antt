use Prim.Native.Nat.{ℕ, ◌+◌}
use mathlib.Core.List.{List}
use mathlib.Core.Path.{◌≡◌}
use lib.Bits.{bit_and, bit_or}
use lib.ListN.{get_or}
use Rattle.planning.specs.MergedRounds.{fill_from}
use Rattle.planning.proofs.merge.unite_round.Given as goal

-- the mask of station p
abbrev pub united : List ℕ → List ℕ → List ℕ → ℕ → ℕ → ℕ
united first second others at p = bit_and (bit_or (get_or first (at + p) 0) (get_or second (at + p) 0)) (get_or others p 0)

abbrev pub invariant-loop-p : goal.invariant-loop-p
invariant-loop-p l = l.merged ≡ fill_from l.at l.p (united l.first l.second l.others l.at) l.initial.merged
