-- A mask made of a test has the test's bits, and a mask is made of its own bits: by induction on
-- the number of bits, the lowest first, for that bit is the remainder by 2 and the others are the
-- bits of the half.
use mathlib.Core.Bool.{Bool, true, false, cond, ◌&&◌}
use mathlib.Core.Path.{◌≡◌, refl, sym, ap, ap₂, ◌∙◌}
use Prim.Native.Nat.{ℕ, zero, suc, ◌+◌, ◌*◌, ◌/◌, ◌%◌, ◌^◌, ◌<◌}
use native.Mathlib.Decide.{ℕ_discrete, dec_le}
use native.Mathlib.Nat.{div-one, div-add-mod', div-div-eq-div-mul, pow-succ'}
use native.Mathlib.Omega.{arith}
use borrow.Author.Tests.{eq-eqb, ne_eqb, lt-ltb, le-ltb}
use lib.Arith.{digits_div, digits_mod}
use lib.Dec.{eqb, ltb}
use Rattle.links.specs.Log.{bit}
use Rattle.links.proofs.Log.{bit_zero}
use Rattle.planning_spec.specs.Merge.{mask_of}

bit_first : (x : ℕ) → bit x 0 ≡ eqb (x % 2) 1
unfolding bit
bit_first x = ap (λ (y : ℕ). eqb (y % 2) 1) (div-one x)

bit_half : (x j : ℕ) → bit x (suc j) ≡ bit (x / 2) j
unfolding bit
bit_half x j =
    ap (λ (y : ℕ). eqb (y % 2) 1) (ap (λ (p : ℕ). x / p) (pow-succ' 2 j) ∙ sym (div-div-eq-div-mul x 2 (2 ^ j)))

digit_small : (b : Bool) → cond b 1 0 < 2
digit_small true = omega arith
digit_small false = omega arith

digit_is : (b : Bool) → eqb (cond b 1 0) 1 ≡ b
digit_is true = refl
digit_is false = refl

less_suc : (j n : ℕ) → ltb (suc j) (suc n) ≡ ltb j n
less_suc j n =
    elim (dec_le (suc j) n) [
      | yes l ↦ lt-ltb (suc j) (suc n) (omega arith) ∙ sym (lt-ltb j n l)
      | no g ↦ le-ltb (suc j) (suc n) (omega arith) ∙ sym (le-ltb j n (omega arith))
    ]

pub bit-mask_of : (n : ℕ) (test : ℕ → Bool) (j : ℕ) → bit (mask_of n test) j ≡ (ltb j n && test j)
unfolding mask_of
bit-mask_of zero test j = bit_zero j ∙ sym (rw (le-ltb j 0 (omega arith)))
bit-mask_of (suc n) test zero =
    bit_first (mask_of n (λ j. test (suc j)) * 2 + cond (test 0) 1 0)
    ∙ ap (λ (y : ℕ). eqb y 1) (digits_mod (mask_of n (λ j. test (suc j))) {m = 2} (digit_small (test 0)))
    ∙ digit_is (test 0)
    ∙ sym (rw (lt-ltb 0 (suc n) (omega arith)))
bit-mask_of (suc n) test (suc j) =
    bit_half (mask_of n (λ i. test (suc i)) * 2 + cond (test 0) 1 0) j
    ∙ ap (λ (y : ℕ). bit y j) (digits_div (mask_of n (λ i. test (suc i))) {m = 2} (digit_small (test 0)))
    ∙ bit-mask_of n (λ i. test (suc i)) j
    ∙ ap (λ (b : Bool). b && test (suc j)) (sym (less_suc j n))

pub mask_of_ext : (n : ℕ) (f g : ℕ → Bool) → ((j : ℕ) → j < n → f j ≡ g j) → mask_of n f ≡ mask_of n g
unfolding mask_of
mask_of_ext zero f g h = refl
mask_of_ext (suc n) f g h =
    ap₂ (λ (m : ℕ) (b : Bool). m * 2 + cond b 1 0) (mask_of_ext n (λ j. f (suc j)) (λ j. g (suc j)) (λ j l. h (suc j) (omega arith)))
    (h 0 (omega arith))

last_digit : (x : ℕ) → cond (eqb (x % 2) 1) 1 0 ≡ x % 2
last_digit x =
    elim (ℕ_discrete (x % 2) 1) [
      | yes e ↦ rw (eq-eqb (x % 2) 1 e) (sym e)
      | no d ↦ rw (ne_eqb (x % 2) 1 d) (omega arith)
    ]

pub mask_of_bits : (n x : ℕ) → x < 2 ^ n → mask_of n (λ j. bit x j) ≡ x
unfolding mask_of
mask_of_bits zero x l = omega arith
mask_of_bits (suc n) x l =
    ap₂ (λ (m d : ℕ). m * 2 + d)
    (mask_of_ext n (λ j. bit x (suc j)) (λ j. bit (x / 2) j) (λ j h. bit_half x j) ∙ mask_of_bits n (x / 2) (omega (arith, pow-succ' 2 n)))
    (ap (λ (b : Bool). cond b 1 0) (bit_first x) ∙ last_digit x)
    ∙ div-add-mod' x 2
