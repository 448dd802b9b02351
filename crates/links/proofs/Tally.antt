-- Sums over all stations but one of what was added since: they go up with their parts, by as much;
-- where two such sums are equal, and no part fell, no part changed. Each is a law of totals, with
-- nothing to add at the station that is left out.
use mathlib.Core.Path.{◌≡◌, refl, sym, ◌∙◌}
use Prim.Native.Nat.{ℕ, zero, suc, ◌+◌, ◌-◌, ◌*◌, ◌<◌, ◌≤◌}
use native.Mathlib.Decide.{ℕ_discrete}
use native.Mathlib.Nat.{mul_comm}
use native.Mathlib.Omega.{arith}
use borrow.Author.Tests.{eq-eqb, ne_eqb}
use Rattle.lists.proofs.Total.{total_ext, total_most, total_mono, total_pins, total_gap, total_raised}
use Rattle.links.specs.Inner.Number.{added, tally}

added_own : (p : ℕ) (now before : ℕ → ℕ) (r : ℕ) → r ≡ p → added p now before r ≡ 0
unfolding added
added_own p now before r e = rw (eq-eqb r p e)

added_other : (p : ℕ) (now before : ℕ → ℕ) (r : ℕ) → (r ≡ p → ⊥) → added p now before r ≡ now r - before r
unfolding added
added_other p now before r d = rw (ne_eqb r p d)

-- The sum depends on the other stations below n alone.
pub tally_same : (p n : ℕ) (now now' before before' : ℕ → ℕ)
    → ((r : ℕ) → r < n → (r ≡ p → ⊥) → (now r ≡ now' r) × (before r ≡ before' r))
    → tally n p now before ≡ tally n p now' before'
unfolding tally
tally_same p n now now' before before' h =
    total_ext n (added p now before) (added p now' before')
    (λ r l.
    elim (ℕ_discrete r p) [
      | yes e ↦ added_own p now before r e ∙ sym (added_own p now' before' r e)
      | no d ↦ (let g = h r l d in omega (arith, added_other p now before r d, added_other p now' before' r d, g.0, g.1))
    ])

-- Where nothing was added the sum is 0.
pub tally_none : (p n : ℕ) (now : ℕ → ℕ) → tally n p now now ≡ 0
unfolding tally
tally_none p n now =
    omega (
      arith,
      total_most n 0 (added p now now)
          (λ r l.
          elim (ℕ_discrete r p) [
            | yes e ↦ omega (arith, added_own p now now r e)
            | no d ↦ omega (arith, added_other p now now r d)
          ]),
    )

no_less : (p : ℕ) (now now' before : ℕ → ℕ) (r : ℕ) → ((r ≡ p → ⊥) → now r ≤ now' r) → added p now before r ≤ added p now' before r
no_less p now now' before r h =
    elim (ℕ_discrete r p) [
      | yes e ↦ omega (arith, added_own p now before r e)
      | no d ↦ omega (arith, added_other p now before r d, added_other p now' before r d, h d)
    ]

-- The sum does not fall where no part does.
pub tally_mono : (p n : ℕ) (now now' before : ℕ → ℕ)
    → ((r : ℕ) → r < n → (r ≡ p → ⊥) → now r ≤ now' r)
    → tally n p now before ≤ tally n p now' before
unfolding tally
tally_mono p n now now' before h =
    total_mono n (added p now before) (added p now' before) (λ r l. no_less p now now' before r (λ d. h r l d))

-- Where no part fell and the sums are equal, the parts are.
pub tally_pins : (p n : ℕ) (now now' before : ℕ → ℕ)
    → ((r : ℕ) → r < n → (r ≡ p → ⊥) → (before r ≤ now r) × (now r ≤ now' r))
    → tally n p now before ≡ tally n p now' before
    → (r : ℕ) → r < n → (r ≡ p → ⊥) → now r ≡ now' r
unfolding tally
tally_pins p n now now' before h e r l d =
    let g = h r l d in
    omega (
      arith,
      total_pins n (added p now before) (added p now' before) (λ q m. no_less p now now' before q (λ f. (h q m f).1)) e r l,
      added_other p now before r d,
      added_other p now' before r d,
      g.0,
      g.1,
    )

-- One part that rises by one lifts the sum by one.
pub tally_rises : (p n : ℕ) (now now' before : ℕ → ℕ) (q : ℕ) → q < n → (q ≡ p → ⊥)
    → before q ≤ now q
    → now' q ≡ suc (now q)
    → ((r : ℕ) → (r ≡ q → ⊥) → now' r ≡ now r)
    → tally n p now' before ≡ suc (tally n p now before)
unfolding tally
tally_rises p n now now' before q l d b e h =
    total_raised n (added p now before) (added p now' before) q l
    (omega (arith, added_other p now before q d, added_other p now' before q d))
    (λ r m f.
    elim (ℕ_discrete r p) [
      | yes i ↦ added_own p now' before r i ∙ sym (added_own p now before r i)
      | no i ↦ omega (arith, added_other p now before r i, added_other p now' before r i, h r f)
    ])

-- Parts of at most k each give at most k for each station, p left out.
pub tally_limit : (k p n : ℕ) (now before : ℕ → ℕ) → p < n
    → ((r : ℕ) → r < n → (r ≡ p → ⊥) → now r ≤ before r + k)
    → tally n p now before ≤ k * (n - 1)
unfolding tally
tally_limit k p zero now before l h = absurd (omega arith)
tally_limit k p (suc n) now before l h =
    let e : suc n - 1 ≡ n = omega arith in
    let most =
    total_gap (suc n) k (added p now before)
    (λ r m.
    elim (ℕ_discrete r p) [
      | yes i ↦ omega (arith, added_own p now before r i)
      | no i ↦ omega (arith, added_other p now before r i, h r m i)
    ])
    p l (added_own p now before p refl) in
    rw e (omega (arith, most, mul_comm k n))
