-- The ends of a round, station by station. The set of s at s is as it was until s is looked at, for
-- looking at a station changes its own column alone.
use mathlib.Core.Bool.{Bool, true}
use mathlib.Core.List.{List}
use mathlib.Core.Path.{◌≡◌, ◌∙◌}
use Prim.Native.Nat.{ℕ, ◌+◌}
use native.Mathlib.Decide.{ℕ_discrete}
use native.Mathlib.Omega.{arith}
use borrow.Author.Tests.{eq-eqb, ne_eqb}
use lib.ListN.{get_or, set, length}
use Rattle.planning.specs.Sets.{ColumnIs, first_set, OneClosed, AllBegun}

pub closed : (b : Bool) (s round : ℕ) (k k' e l : List ℕ) → b ≡ true → ColumnIs 16 k k' s (λ p. first_set p s)
    → OneClosed b s round k k' e (set e s (get_or e s 0 + 1)) l (set l s round)
closed b s round k k' e l q c =
    record {
      size = c.size;
      sets =
          λ p t h i.
          elim (ℕ_discrete t s) [
            | yes x ↦ rw (q, eq-eqb t s x) (rw x (c.column p h))
            | no x ↦ rw (q, ne_eqb t s x) (c.rest p t i (λ y. absurd (x y)))
          ];
      count = rw q;
      round_of = rw q;
    }

pub fresh_more : (m k : List ℕ) (s : ℕ) → AllBegun s m → ColumnIs 16 m k s (λ p. first_set p s) → AllBegun (s + 1) k
fresh_more m k s a c =
    record {
      size = c.size ∙ a.size;
      each =
          λ p t hp ht d.
          elim (ℕ_discrete t s) [
            | yes x ↦ rw x (c.column p hp)
            | no x ↦ c.rest p t ht (λ y. absurd (x y)) ∙ a.each p t hp ht (omega arith)
          ];
    }

pub fresh_start : (m : List ℕ) → length m ≡ 256 → AllBegun 0 m
fresh_start m e = record { size = e; each = λ p s h i d. absurd (omega arith) }
