-- The refusal of the first station that has one: it is done exactly where every station's is, and
-- else it is that of some station.
use Prim.Native.Nat.{ℕ, zero, suc, ◌<◌}
use mathlib.Core.Bool.{Bool, true, false, cond, false≢true}
use mathlib.Core.Path.{◌≡◌, refl, sym, ◌∙◌}
use native.Mathlib.Decide.{ℕ_discrete}
use native.Mathlib.Omega.{arith}
use lib.Dec.{eqb}
use borrow.Author.Tests.{eqb-true, eq-eqb, ne_eqb}
use Rattle.bodies.specs.Refusals.{done}
use Rattle.group_spec.specs.Calls.{first_refusal}

pub first_none : (n : ℕ) (refusal : ℕ → ℕ) → ((i : ℕ) → i < n → refusal i ≡ done) → first_refusal n refusal ≡ done
unfolding first_refusal
first_none zero refusal none = refl
first_none (suc k) refusal none =
    rw (first_none k refusal (λ i l. none i (omega arith))) (none k (omega arith))

-- the last of n is not refused, and nobody before it
first_more :
    (k : ℕ) (refusal : ℕ → ℕ) → first_refusal (suc k) refusal ≡ done → (first_refusal k refusal ≡ done) × (refusal k ≡ done)
unfolding first_refusal
first_more k refusal = go (eqb (first_refusal k refusal) done) refl
  where
    go :
        (t : Bool) → eqb (first_refusal k refusal) done ≡ t → cond t (refusal k) (first_refusal k refusal) ≡ done →
        (first_refusal k refusal ≡ done) × (refusal k ≡ done)
    go true e q = (eqb-true (first_refusal k refusal) done e, q)
    go false e q = absurd (false≢true (sym e ∙ eq-eqb (first_refusal k refusal) done q))

pub first_done : (n : ℕ) (refusal : ℕ → ℕ) → first_refusal n refusal ≡ done → (i : ℕ) → i < n → refusal i ≡ done
first_done zero refusal e i l = absurd (omega arith)
first_done (suc k) refusal e i l =
    let parts = first_more k refusal e in
    elim (ℕ_discrete i k) [
      | yes same ↦ rw same parts.1
      | no other ↦ first_done k refusal parts.0 i (omega arith)
    ]

-- where nobody below k is refused and k is, with others behind it or not, its refusal is the answer
pub first_hit :
    (n : ℕ) (refusal : ℕ → ℕ) (k : ℕ) → k < n → ((i : ℕ) → i < k → refusal i ≡ done) → (refusal k ≡ done → ⊥) →
    first_refusal n refusal ≡ refusal k
unfolding first_refusal
first_hit zero refusal k l before hit = absurd (omega arith)
first_hit (suc m) refusal k l before hit =
    elim (ℕ_discrete k m) [
      | yes same ↦ rw (same, first_none m refusal (λ i b. before i (omega arith)))
      | no other ↦
          let here = first_hit m refusal k (omega arith) before hit in
          rw (here, ne_eqb (refusal k) done hit)
    ]
