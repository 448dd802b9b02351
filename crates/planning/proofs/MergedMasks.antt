-- Two masks united, with all bits taken away that are no hearing of station p, are the mask of whom
-- p hears by either log: the bits agree below n, and there are no others.
use mathlib.Core.Bool.{Bool, true, false, ◌||◌, ◌&&◌, not, and-false, and-true}
use mathlib.Core.List.{List}
use mathlib.Core.Path.{◌≡◌, refl, sym, ap, ap₂, ◌∙◌}
use Prim.Native.Nat.{ℕ, zero, suc, ◌-◌, ◌*◌, ◌/◌, ◌%◌, ◌^◌, ◌<◌, ◌≤◌}
use native.Mathlib.Decide.{dec_le}
use native.Mathlib.Nat.{div-add-mod', mod-lt}
use native.Mathlib.Omega.{arith}
use borrow.Author.Tests.{ne_eqb, lt-ltb, le-ltb}
use lib.Bits.{bit_and, bit_or, bit_xor, differ, xor_shr, xor_step, xor_lt, and_le_r}
use lib.Dec.{eqb, ltb}
use lib.ListN.{get_or, length}
use lib.Pow.{pow-lt, ones_lt}
use Rattle.links.specs.Log.{bit}
use Rattle.planning.proofs.Bits.{bit_or_lem, bit_and_lem, bit-pow, bit_ones}
use Rattle.planning_spec.specs.LinkLog.{links_of}
use Rattle.planning_spec.specs.Merge.{merged_mask}
use Rattle.planning_spec.proofs.LinkLog.{whole_hears}
use Rattle.planning_spec.proofs.Masks.{mask_of_ext, mask_of_bits}

-- One of two, not both.
unfoldable one_of : Bool → Bool → Bool
one_of true y = not y
one_of false y = y

digit_xor : (x y : ℕ) → x < 2 → y < 2 → eqb (differ x y % 2) 1 ≡ one_of (eqb x 1) (eqb y 1)
unfolding one_of
digit_xor zero zero a b = refl
digit_xor zero (suc zero) a b = refl
digit_xor zero (suc (suc y)) a b = absurd (omega arith)
digit_xor (suc zero) zero a b = refl
digit_xor (suc zero) (suc zero) a b = refl
digit_xor (suc zero) (suc (suc y)) a b = absurd (omega arith)
digit_xor (suc (suc x)) y a b = absurd (omega arith)

bit_xor_lem : (a b j : ℕ) → bit (bit_xor a b) j ≡ one_of (bit a j) (bit b j)
unfolding bit
bit_xor_lem a b j =
    let x = a / (2 ^ j) in
    let y = b / (2 ^ j) in
    let e : bit_xor x y % 2 ≡ differ (x % 2) (y % 2) % 2 = omega (arith, xor_step x y) in
    ap (λ (z : ℕ). eqb (z % 2) 1) (xor_shr a b j) ∙ ap (λ (z : ℕ). eqb z 1) e ∙ digit_xor (x % 2) (y % 2) (omega arith) (omega arith)

bit_others : (n p j : ℕ) → p < n → bit (bit_xor (2 ^ n - 1) (2 ^ p)) j ≡ (ltb j n && not (eqb p j))
unfolding one_of
bit_others n p j l =
    bit_xor_lem (2 ^ n - 1) (2 ^ p) j
    ∙ ap₂ one_of (bit_ones n j) (bit-pow p j)
    ∙ elim (dec_le (suc j) n) [
      | yes h ↦ rw (lt-ltb j n h)
      | no g ↦ rw (le-ltb j n (omega arith)) (ne_eqb p j (λ e. omega arith))
    ]

either : (p q x y : Bool) → ((x || y) && (p && q)) ≡ ((p && (q && x)) || (p && (q && y)))
either true true x y = and-true (x || y)
either true false x y = and-false (x || y)
either false q x y = and-false (x || y)

pub mask_is : (n a b : ℕ) (first second : List ℕ) (x : ℕ) → 1 ≤ n → length first ≡ a * n → length second ≡ b * n
    → bit_and (bit_or (get_or first x 0) (get_or second x 0)) (bit_xor (2 ^ n - 1) (2 ^ (x % n))) ≡ merged_mask n first second x
unfolding merged_mask
mask_is n a b first second x low wa wb =
    sym (mask_of_bits n v small)
    ∙ mask_of_ext n (λ j. bit v j)
    (λ j. (links_of n first).hears (suc (x / n)) (x % n) j || (links_of n second).hears (suc (x / n)) (x % n) j) (λ j h. same j)
  where
    v : ℕ
    v = bit_and (bit_or (get_or first x 0) (get_or second x 0)) (bit_xor (2 ^ n - 1) (2 ^ (x % n)))

    p_low : x % n < n
    p_low = mod-lt x low

    small : v < 2 ^ n
    small =
        omega (
          arith,
          and_le_r (bit_or (get_or first x 0) (get_or second x 0)) (bit_xor (2 ^ n - 1) (2 ^ (x % n))),
          xor_lt n (2 ^ n - 1) (2 ^ (x % n)) (ones_lt n) (pow-lt p_low),
        )

    heard : (r : ℕ) (log : List ℕ) (j : ℕ) → length log ≡ r * n
        → (links_of n log).hears (suc (x / n)) (x % n) j ≡ (ltb j n && (not (eqb (x % n) j) && bit (get_or log x 0) j))
    heard r log j e =
        whole_hears n r log (x / n) (x % n) j e p_low
        ∙ ap (λ (y : ℕ). ltb j n && (not (eqb (x % n) j) && bit (get_or log y 0) j)) (div-add-mod' x n)

    same : (j : ℕ) → bit v j ≡ ((links_of n first).hears (suc (x / n)) (x % n) j || (links_of n second).hears (suc (x / n)) (x % n) j)
    same j =
        bit_and_lem (bit_or (get_or first x 0) (get_or second x 0)) (bit_xor (2 ^ n - 1) (2 ^ (x % n))) j
        ∙ ap₂ (λ (h o : Bool). h && o) (bit_or_lem (get_or first x 0) (get_or second x 0) j) (bit_others n (x % n) j p_low)
        ∙ either (ltb j n) (not (eqb (x % n) j)) (bit (get_or first x 0) j) (bit (get_or second x 0) j)
        ∙ ap₂ (λ (h o : Bool). h || o) (sym (heard a first j wa)) (sym (heard b second j wb))
