-- The value of a byte as a digit: at most 10, and below 10 exactly for the ten digits.
use mathlib.Core.Path.{◌≡◌, refl, ◌∙◌}
use mathlib.Core.Bool.{Bool, true, false}
use Prim.Native.Nat.{ℕ, ◌+◌, ◌-◌, ◌≤◌, ◌<◌}
use native.Mathlib.Omega.{arith}
use lib.Dec.{leb}
use borrow.Author.Tests.{le-leb, lt-leb, leb-true, leb-false}
use Rattle.columns.specs.Reading.{digit_of}

pub digit_below : (b : ℕ) → b < 48 → digit_of b ≡ 10
digit_below b h = rw (lt-leb 48 b h)

pub digit_above : (b : ℕ) → 57 < b → digit_of b ≡ 10
digit_above b h = rw (le-leb 48 b (omega arith), lt-leb b 57 h)

pub digit_inside : (b : ℕ) → 48 ≤ b → b ≤ 57 → digit_of b ≡ b - 48
digit_inside b h l = rw (le-leb 48 b h, le-leb b 57 l)

-- any byte is one of three
data Place (b : ℕ) : Type 0 where
  below : b < 48 → Place b
  inside : 48 ≤ b → b ≤ 57 → Place b
  above : 57 < b → Place b

place : (b : ℕ) → Place b
place b = go (leb 48 b) (leb b 57) refl refl
  where
    go : (l m : Bool) → leb 48 b ≡ l → leb b 57 ≡ m → Place b
    go false m p q = below (leb-false 48 b p)
    go true false p q = above (leb-false b 57 q)
    go true true p q = inside (leb-true 48 b p) (leb-true b 57 q)

pub digit_le : (b : ℕ) → digit_of b ≤ 10
digit_le b = go (place b)
  where
    go : Place b → digit_of b ≤ 10
    go (below h) = omega (arith, digit_below b h)
    go (above h) = omega (arith, digit_above b h)
    go (inside h l) = omega (arith, digit_inside b h l)

-- the byte of a digit
pub digit_byte : (b : ℕ) → digit_of b < 10 → b ≡ 48 + digit_of b
digit_byte b d = go (place b)
  where
    go : Place b → b ≡ 48 + digit_of b
    go (below h) = absurd (omega (arith, digit_below b h))
    go (above h) = absurd (omega (arith, digit_above b h))
    go (inside h l) = omega (arith, digit_inside b h l)

pub byte_digit : (d : ℕ) → d < 10 → digit_of (48 + d) ≡ d
byte_digit d h = digit_inside (48 + d) (omega arith) (omega arith) ∙ omega arith
