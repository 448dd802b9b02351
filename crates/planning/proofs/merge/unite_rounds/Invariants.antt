use Rattle.std.proofs.Common.{◌≡◌, ◌-◌, ◌%◌, ◌<◌, ◌≤◌, ℕ, List}
use lib.Bits.{bit_and, bit_or}
use lib.ListN.{get_or}
use Rattle.lists.specs.Below.{set_below}
use Rattle.planning.proofs.merge.unite_rounds.Given as goal

-- the masks united at a place are those of f, from one place to another
abbrev pub united : List ℕ → List ℕ → List ℕ → ℕ → ℕ → ℕ → (ℕ → ℕ) → Type 0
united first second others n from to f =
    (i : ℕ) → from ≤ i → i < to → bit_and (bit_or (get_or first i 0) (get_or second i 0)) (get_or others (i % n) 0) ≡ f i

abbrev pub invariant-loop-at : goal.invariant-loop-at
invariant-loop-at l =
    record {
      begun : l.from ≤ l.at;
      inside : l.at ≤ l.to;
      begins : l.at % l.n ≡ 0;
      written :
          (f : ℕ → ℕ) (base : List ℕ) → united l.first l.second l.others l.n l.from l.to f →
          l.initial.merged ≡ set_below l.from f base → l.merged ≡ set_below l.at f base;
    }

abbrev pub decreases-loop-at : goal.decreases-loop-at
decreases-loop-at l = l.to - l.at
