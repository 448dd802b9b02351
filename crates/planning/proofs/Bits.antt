-- Bits of masks: of a union, of a power of two, and of a set that has all stations below n. A set
-- is full where its lowest n bits, as a number, are 2 ^ n - 1; that is one bit more at each step.
use mathlib.Core.Bool.{Bool, true, false, ◌||◌, ◌&&◌, and-false}
use mathlib.Core.Path.{◌≡◌, sym, ap, ◌∙◌}
use Prim.Native.Nat.{ℕ, zero, suc, ◌+◌, ◌-◌, ◌*◌, ◌/◌, ◌%◌, ◌^◌, ◌<◌, ◌≤◌, max, min}
use native.Mathlib.Decide.{ℕ_discrete, dec_le}
use native.Mathlib.Nat.{one-mul, zero-mul, mod-eq_of_lt, pow-suc, pow-succ', mul_comm, mod-lt, mod-one, div_self, le_refl}
use native.Mathlib.Omega.{arith}
use borrow.Author.Tests.{eq-eqb, ne_eqb, lt-ltb, le-ltb}
use lib.Arith.{mod-mul}
use lib.Bits.{bit_and, bit_or, and_shr, and_step, or_shr, or_step, and_mask}
use lib.Dec.{eqb, ltb}
use lib.Pow.{pow_pos, pow-lt, pow-add, shl-shr}
use Rattle.lists.specs.Below.{all_below}
use Rattle.lists.proofs.Laws.{all_below_at}
use Rattle.links.specs.Log.{bit}
use Rattle.links.proofs.Log.{bit_high}
use Rattle.planning.specs.Sets.{is_full}

pub shifted16 : (p : ℕ) → p < 16 → (1 * 2 ^ p) % 65536 ≡ 2 ^ p
shifted16 p h =
    let l : 2 ^ p < 2 ^ 16 = pow-lt h in
    ap (λ (x : ℕ). x % 65536) (one-mul (2 ^ p)) ∙ mod-eq_of_lt l

pub shifted32 : (n : ℕ) → n ≤ 16 → (1 * 2 ^ n) % 4294967296 ≡ 2 ^ n
shifted32 n h =
    let k : n < 32 = omega arith in
    let l : 2 ^ n < 2 ^ 32 = pow-lt k in
    ap (λ (x : ℕ). x % 4294967296) (one-mul (2 ^ n)) ∙ mod-eq_of_lt l

digit : (a b : ℕ) → eqb (max (a % 2) (b % 2)) 1 ≡ (eqb (a % 2) 1 || eqb (b % 2) 1)
digit a b =
    elim (ℕ_discrete (a % 2) 1) [
      | yes e ↦ rw (eq-eqb (a % 2) 1 e) (eq-eqb (max (a % 2) (b % 2)) 1 (omega arith))
      | no d ↦
          (let z : a % 2 ≡ 0 = omega arith in
          let m : max (a % 2) (b % 2) ≡ b % 2 = omega arith in
          rw (ne_eqb (a % 2) 1 d, m))
    ]

pub bit_or_lem : (a b j : ℕ) → bit (bit_or a b) j ≡ (bit a j || bit b j)
unfolding bit
bit_or_lem a b j =
    let x = a / (2 ^ j) in
    let y = b / (2 ^ j) in
    let e : bit_or x y % 2 ≡ max (x % 2) (y % 2) = omega (arith, or_step x y) in
    ap (λ (z : ℕ). eqb (z % 2) 1) (or_shr a b j) ∙ ap (λ (z : ℕ). eqb z 1) e ∙ digit x y

digit_and : (a b : ℕ) → eqb (min (a % 2) (b % 2)) 1 ≡ (eqb (a % 2) 1 && eqb (b % 2) 1)
digit_and a b =
    elim (ℕ_discrete (a % 2) 1) [
      | yes e ↦ (let m : min (a % 2) (b % 2) ≡ b % 2 = omega arith in rw (eq-eqb (a % 2) 1 e, m))
      | no d ↦ (let m : min (a % 2) (b % 2) ≡ 0 = omega arith in rw (ne_eqb (a % 2) 1 d, m))
    ]

pub bit_and_lem : (a b j : ℕ) → bit (bit_and a b) j ≡ (bit a j && bit b j)
unfolding bit
bit_and_lem a b j =
    let x = a / (2 ^ j) in
    let y = b / (2 ^ j) in
    let e : bit_and x y % 2 ≡ min (x % 2) (y % 2) = omega (arith, and_step x y) in
    ap (λ (z : ℕ). eqb (z % 2) 1) (and_shr a b j) ∙ ap (λ (z : ℕ). eqb z 1) e ∙ digit_and x y

pow_same : (r : ℕ) → bit (2 ^ r) r ≡ true
unfolding bit
pow_same r = rw (div_self (pow_pos r))

pow_below : (p r k : ℕ) → p ≡ suc k + r → bit (2 ^ p) r ≡ false
unfolding bit
pow_below p r k e =
    let q : 2 ^ p / 2 ^ r ≡ 2 ^ suc k = ap (λ (x : ℕ). 2 ^ x / 2 ^ r) e ∙ ap (λ (x : ℕ). x / 2 ^ r) (pow-add 2 (suc k) r) ∙ shl-shr (2 ^ suc k) r in
    let z : 2 ^ suc k % 2 ≡ 0 = omega (arith, pow-suc 2 k) in
    rw (q, z)

pub bit-pow : (p r : ℕ) → bit (2 ^ p) r ≡ eqb p r
bit-pow p r =
    elim (ℕ_discrete p r) [
      | yes e ↦ rw (eq-eqb p r e) (rw e (pow_same r))
      | no d ↦
          rw (ne_eqb p r d)
          (elim (dec_le (suc p) r) [
            | yes l ↦ bit_high (2 ^ p) (suc p) r (pow-lt (le_refl (suc p))) l
            | no g ↦ pow_below p r (p - r - 1) (omega arith)
          ])
    ]

top : (P y d : ℕ) → 0 < P → y < P → d < 2 → eqb (d * P + y) (P * 2 - 1) ≡ (eqb y (P - 1) && eqb d 1)
top P y d a b h =
    elim (ℕ_discrete d 1) [
      | yes e ↦
          (let m : d * P ≡ P = rw e (one-mul P) in
          rw (eq-eqb d 1 e, m)
          (elim (ℕ_discrete y (P - 1)) [
            | yes q ↦ rw (eq-eqb y (P - 1) q) (eq-eqb (P + y) (P * 2 - 1) (omega arith))
            | no q ↦ rw (ne_eqb y (P - 1) q) (ne_eqb (P + y) (P * 2 - 1) (λ w. q (omega arith)))
          ]))
      | no e ↦
          (let z : d ≡ 0 = omega arith in
          let m : d * P ≡ 0 = rw z (zero-mul P) in
          rw (ne_eqb d 1 e, m, and-false (eqb y (P - 1))) (ne_eqb (0 + y) (P * 2 - 1) (λ w. absurd (omega arith))))
    ]

lowest : (n x : ℕ) → eqb (x % 2 ^ n) (2 ^ n - 1) ≡ all_below n (λ r. bit x r)
unfolding all_below bit
lowest zero x = rw (mod-one x)
lowest (suc n) x =
    let m : x % (2 * 2 ^ n) ≡ x / 2 ^ n % 2 * 2 ^ n + x % 2 ^ n = mod-mul x (omega arith) (pow_pos n) in
    rw (pow-succ' 2 n, m, mul_comm 2 (2 ^ n), sym (lowest n x))
    (top (2 ^ n) (x % 2 ^ n) (x / 2 ^ n % 2) (pow_pos n) (mod-lt x (pow_pos n)) (omega arith))

-- All of n bits are set where the lowest n are all ones.
pub is_full_bits : (n x : ℕ) → is_full n x ≡ all_below n (λ r. bit x r)
unfolding is_full
is_full_bits n x = ap (λ (y : ℕ). eqb y (2 ^ n - 1)) (and_mask x n) ∙ lowest n x

-- The bits of n ones, and of a mask's lowest n.
pub bit_ones : (n j : ℕ) → bit (2 ^ n - 1) j ≡ ltb j n
unfolding is_full
bit_ones n j =
    elim (dec_le (suc j) n) [
      | yes l ↦
          (let p = pow_pos n in
          let e : is_full n (2 ^ n - 1) ≡ true =
          eq-eqb (bit_and (2 ^ n - 1) (2 ^ n - 1)) (2 ^ n - 1) (and_mask (2 ^ n - 1) n ∙ mod-eq_of_lt (omega arith)) in
          all_below_at n (λ r. bit (2 ^ n - 1) r) (sym (is_full_bits n (2 ^ n - 1)) ∙ e) j l ∙ sym (lt-ltb j n l))
      | no g ↦ (let p = pow_pos n in bit_high (2 ^ n - 1) n j (omega arith) (omega arith) ∙ sym (le-ltb j n (omega arith)))
    ]

pub bit_below : (mask n j : ℕ) → bit (bit_and mask (2 ^ n - 1)) j ≡ (bit mask j && ltb j n)
bit_below mask n j = bit_and_lem mask (2 ^ n - 1) j ∙ ap (λ (b : Bool). bit mask j && b) (bit_ones n j)
