-- A 32-bit number and its complement, which is -1 less the number: what the code's tests,
-- differences and casts come to.
use mathlib.Core.Path.{◌≡◌, refl, ap, ◌∙◌}
use mathlib.Core.Bool.{true, false, true≢false}
use Prim.Native.Nat.{ℕ, zero, suc, ◌-◌, ◌≤◌}
use native.Mathlib.Nat.{zero-add}
use native.Mathlib.Omega.{arith}
use lib.Dec.{T}
use lib.IntN.{ℤ, pos, negsuc, ◌-ℤ◌, nat_abs}
use lib.Signed.{lt_z, non_neg}
use borrow.Author.Tests.{le-ltb, ltb-true}
use mir.Syntax.{w32}
use mir.Val.{Fits, SFits, to_z, of_z}
use mir.ValLaws.{to_z-of_z}

-- -1 less a number
abbrev pub complement : ℤ → ℤ
complement (pos n) = negsuc n
complement (negsuc n) = pos n

pub minus_one_less : (z : ℤ) → negsuc 0 -ℤ z ≡ complement z
minus_one_less (pos zero) = refl
minus_one_less (pos (suc n)) = ap (λ (k : ℕ). negsuc (suc k)) (zero-add n)
minus_one_less (negsuc n) =
    let one : 1 ≤ suc n = omega arith in
    let back : suc n - 1 ≡ n = omega arith in
    rw (le-ltb _ _ one, back)

complement_fits : (z : ℤ) → SFits w32 z → SFits w32 (complement z)
complement_fits (pos n) f = record { sfits = f.sfits }
complement_fits (negsuc n) f = record { sfits = f.sfits }

-- a negative number, and another one, as a word
pub negative_cast : (z : ℤ) → SFits w32 z → lt_z z (pos 0) ≡ true → T (non_neg (complement z)) × Fits w32 (nat_abs (complement z))
negative_cast (pos n) f h = absurd (omega (arith, ltb-true n 0 h))
negative_cast (negsuc n) f h = (tt, record { fits = omega (arith, f.sfits) })

pub other_cast : (z : ℤ) → SFits w32 z → lt_z z (pos 0) ≡ false → T (non_neg z) × Fits w32 (nat_abs z)
other_cast (pos n) f h = (tt, record { fits = omega (arith, f.sfits) })
other_cast (negsuc n) f h = absurd (true≢false h)

-- the complement as the code makes it
pub complement_made : (z : ℤ) → SFits w32 z → to_z w32 (of_z w32 (negsuc 0 -ℤ to_z w32 (of_z w32 z))) ≡ complement z
complement_made z f =
    ap (λ (x : ℤ). to_z w32 (of_z w32 (negsuc 0 -ℤ x))) (to_z-of_z w32 z f)
    ∙ ap (λ (x : ℤ). to_z w32 (of_z w32 x)) (minus_one_less z)
    ∙ to_z-of_z w32 (complement z) (complement_fits z f)

pub complement_made_fits : (z : ℤ) → SFits w32 z → SFits w32 (negsuc 0 -ℤ to_z w32 (of_z w32 z))
complement_made_fits z f = rw (to_z-of_z w32 z f, minus_one_less z) (complement_fits z f)
