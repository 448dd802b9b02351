-- The total of a number at each place below n: it is at most n times what each is at most, goes up
-- with the numbers and by as much, and where it stays although none falls they all stay.
use Prim.Native.Nat.{ℕ, zero, suc, ◌+◌, ◌*◌, ◌≤◌, ◌<◌}
use mathlib.Core.Path.{◌≡◌, refl, ap}
use native.Mathlib.Decide.{ℕ_discrete}
use native.Mathlib.Omega.{arith}
use Rattle.lists.specs.Inner.Total.{total}

pub total_ext : (n : ℕ) (f g : ℕ → ℕ) → ((k : ℕ) → k < n → f k ≡ g k) → total n f ≡ total n g
unfolding total
total_ext zero f g h = refl
total_ext (suc n) f g h = rw (total_ext n f g (λ k l. h k (omega arith)), h n (omega arith))

pub total_most : (n most : ℕ) (f : ℕ → ℕ) → ((k : ℕ) → k < n → f k ≤ most) → total n f ≤ n * most
unfolding total
total_most zero most f h = omega arith
total_most (suc n) most f h = omega (arith, total_most n most f (λ k l. h k (omega arith)), h n (omega arith))

pub total_mono : (n : ℕ) (f g : ℕ → ℕ) → ((k : ℕ) → k < n → f k ≤ g k) → total n f ≤ total n g
unfolding total
total_mono zero f g h = omega arith
total_mono (suc n) f g h = omega (arith, total_mono n f g (λ k l. h k (omega arith)), h n (omega arith))

-- no number falls, and the total stays
pub total_pins : (n : ℕ) (f g : ℕ → ℕ) → ((k : ℕ) → k < n → f k ≤ g k) → total n f ≡ total n g → (j : ℕ) → j < n → f j ≡ g j
unfolding total
total_pins zero f g h e j l = absurd (omega arith)
total_pins (suc n) f g h e j l =
    let rest = total_mono n f g (λ k m. h k (omega arith)) in
    let last = h n (omega arith) in
    elim (ℕ_discrete j n) [
      | yes same ↦ rw same (omega arith)
      | no ne ↦ total_pins n f g (λ k m. h k (omega arith)) (omega arith) j (omega arith)
    ]

-- a place at which there is none
pub total_gap :
    (n most : ℕ) (f : ℕ → ℕ) → ((k : ℕ) → k < n → f k ≤ most) → (j : ℕ) → j < n → f j ≡ 0 → total n f + most ≤ n * most
unfolding total
total_gap zero most f h j l e = absurd (omega arith)
total_gap (suc n) most f h j l e =
    elim (ℕ_discrete j n) [
      | yes same ↦ omega (arith, total_most n most f (λ k m. h k (omega arith)), ap f same)
      | no ne ↦ omega (arith, total_gap n most f (λ k m. h k (omega arith)) j (omega arith) e, h n (omega arith))
    ]

-- one place rises by one
pub total_raised :
    (n : ℕ) (f g : ℕ → ℕ) (j : ℕ) → j < n → g j ≡ suc (f j) → ((k : ℕ) → k < n → (k ≡ j → ⊥) → g k ≡ f k) → total n g ≡ suc (total n f)
unfolding total
total_raised zero f g j l e h = absurd (omega arith)
total_raised (suc n) f g j l e h =
    elim (ℕ_discrete j n) [
      | yes same ↦
          omega (arith, total_ext n g f (λ k m. h k (omega arith) (λ z. absurd (omega arith))), ap f same, ap g same)
      | no ne ↦
          omega (arith, total_raised n f g j (omega arith) e (λ k m d. h k (omega arith) d), h n (omega arith) (λ z. absurd (omega arith)))
    ]
