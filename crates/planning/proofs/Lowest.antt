-- The lowest bit of a mask, by its trailing zeros, and the mask without it. By induction on the
-- number of digits: an odd mask has its lowest bit at 0, and an even one has it one place above
-- that of its half.
use mathlib.Core.Bool.{Bool, true, false, ◌&&◌, not, and-false, and-true}
use mathlib.Core.Path.{◌≡◌, refl, sym, ap, ap₂, ◌∙◌}
use Prim.Native.Nat.{ℕ, zero, suc, min, ◌+◌, ◌-◌, ◌*◌, ◌/◌, ◌%◌, ◌^◌, ◌<◌}
use native.Mathlib.Decide.{ℕ_discrete}
use native.Mathlib.Nat.{pow-suc, div-one}
use native.Mathlib.Omega.{arith}
use borrow.Author.Tests.{eq-eqb, ne_eqb}
use lib.Bits.{bit_and, and_step, and_self}
use lib.Count.{count_trailing_zeros, under}
use lib.Dec.{eqb}
use lib.Pow.{shr-shr}
use Rattle.links.specs.Log.{bit}

-- Bit 0 of a number, and the bits of its half.
pub bit_first : (m : ℕ) → bit m 0 ≡ eqb (m % 2) 1
unfolding bit
bit_first m = ap (λ (x : ℕ). eqb (x % 2) 1) (div-one m)

pub bit_half : (m i : ℕ) → bit m (suc i) ≡ bit (m / 2) i
unfolding bit
bit_half m i =
    let e : suc i ≡ 1 + i = omega arith in
    ap (λ (x : ℕ). eqb (x % 2) 1) (ap (λ (x : ℕ). m / 2 ^ x) e ∙ sym (shr-shr m 1 i))

-- t is the place of the lowest bit of m, and rest is m without it.
pub record Lowest (m t rest : ℕ) : Type 0 where
  pub set : bit m t ≡ true
  pub below : (i : ℕ) → i < t → bit m i ≡ false
  pub others : (i : ℕ) → bit rest i ≡ (bit m i && not (eqb i t))

odd : (m : ℕ) → m % 2 ≡ 1 → Lowest m 0 (bit_and m (m - 1))
odd m e =
    let h : (m - 1) / 2 ≡ m / 2 = omega arith in
    let z : (m - 1) % 2 ≡ 0 = omega arith in
    let a : bit_and m (m - 1) ≡ m / 2 * 2 =
    and_step m (m - 1) ∙ ap₂ (λ (x y : ℕ). bit_and (m / 2) x * 2 + min (m % 2) y) h z
    ∙ (let q = and_self (m / 2) in omega (arith, q)) in
    rw a
    record {
      set = bit_first m ∙ eq-eqb (m % 2) 1 e;
      below = λ i l. absurd (omega arith);
      others = at;
    }
  where
    at : (i : ℕ) → bit (m / 2 * 2) i ≡ (bit m i && not (eqb i 0))
    at zero = bit_first (m / 2 * 2) ∙ ne_eqb (m / 2 * 2 % 2) 1 (λ x. absurd (omega arith)) ∙ sym (and-false (bit m 0))
    at (suc i) =
        bit_half (m / 2 * 2) i
        ∙ ap (λ (x : ℕ). bit x i) (let q : m / 2 * 2 / 2 ≡ m / 2 = omega arith in q)
        ∙ sym (bit_half m i)
        ∙ sym (ap (λ (b : Bool). bit m (suc i) && not b) (ne_eqb (suc i) 0 (λ x. absurd (omega arith))) ∙ and-true (bit m (suc i)))

even : (m t : ℕ) → m % 2 ≡ 0 → 0 < m → Lowest (m / 2) t (bit_and (m / 2) (m / 2 - 1)) → Lowest m (suc t) (bit_and m (m - 1))
even m t e pos k =
    let h : (m - 1) / 2 ≡ m / 2 - 1 = omega arith in
    let a : bit_and m (m - 1) ≡ bit_and (m / 2) (m / 2 - 1) * 2 =
    and_step m (m - 1) ∙ ap₂ (λ (x y : ℕ). bit_and (m / 2) x * 2 + min y ((m - 1) % 2)) h e ∙ omega arith in
    rw a
    record {
      set = bit_half m t ∙ k.set;
      below = low;
      others = at;
    }
  where
    rest : ℕ
    rest = bit_and (m / 2) (m / 2 - 1)

    low : (i : ℕ) → i < suc t → bit m i ≡ false
    low zero l = bit_first m ∙ ne_eqb (m % 2) 1 (λ x. absurd (omega arith))
    low (suc i) l = bit_half m i ∙ k.below i (omega arith)

    suc_test : (i : ℕ) → eqb (suc i) (suc t) ≡ eqb i t
    suc_test i =
        elim (ℕ_discrete i t) [
          | yes x ↦ rw (eq-eqb i t x, eq-eqb (suc i) (suc t) (ap suc x))
          | no d ↦ rw (ne_eqb i t d) (ne_eqb (suc i) (suc t) (λ x. d (omega arith)))
        ]

    at : (i : ℕ) → bit (rest * 2) i ≡ (bit m i && not (eqb i (suc t)))
    at zero =
        bit_first (rest * 2) ∙ ne_eqb (rest * 2 % 2) 1 (λ x. absurd (omega arith))
        ∙ sym (ap (λ (b : Bool). b && not (eqb 0 (suc t))) (low 0 (omega arith)))
    at (suc i) =
        bit_half (rest * 2) i
        ∙ ap (λ (x : ℕ). bit x i) (let q : rest * 2 / 2 ≡ rest = omega arith in q)
        ∙ k.others i
        ∙ ap₂ (λ (a b : Bool). a && not b) (sym (bit_half m i)) (sym (suc_test i))

pub lowest_bit : (k m : ℕ) → 0 < m → m < 2 ^ k → Lowest m (count_trailing_zeros k m) (bit_and m (m - 1))
unfolding count_trailing_zeros
lowest_bit zero m pos l = absurd (omega arith)
lowest_bit (suc k) m pos l =
    go (m % 2) refl (λ (h : 0 < m / 2). lowest_bit k (m / 2) h (let q = pow-suc 2 k in omega arith))
  where
    go : (d : ℕ) → m % 2 ≡ d → (0 < m / 2 → Lowest (m / 2) (count_trailing_zeros k (m / 2)) (bit_and (m / 2) (m / 2 - 1)))
        → Lowest m (under d (count_trailing_zeros k (m / 2))) (bit_and m (m - 1))
    go zero e half = even m (count_trailing_zeros k (m / 2)) e pos (half (omega arith))
    go (suc zero) e half = odd m e
    go (suc (suc d)) e half = absurd (omega arith)
