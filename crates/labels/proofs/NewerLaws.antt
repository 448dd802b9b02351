-- What "newer" decides where the held and the seen label are those of two numbers at most one
-- apart: the next number is newer, the one before is not, and within one number the count decides.
-- No record is newer than itself, and whether all else is equal matters at the same label and count
-- alone.
use Prim.Native.Nat.{ℕ, suc, ◌%◌}
use mathlib.Core.Bool.{Bool, true, false, ◌&&◌, and-false}
use mathlib.Core.Path.{◌≡◌, refl, ap, ◌∙◌}
use native.Mathlib.Decide.{ℕ_discrete}
use native.Mathlib.Omega.{arith}
use borrow.Author.Tests.{eq-eqb, ne_eqb, le-ltb}
use lib.Dec.{eqb, ltb}
use Rattle.labels.specs.Label.{successor}
use Rattle.labels.specs.declared.Age.TheVariants.{Newer}
use Rattle.labels.specs.Newer.{is_newer, age_of}

pub newer_next : (a b c d : ℕ) → b ≡ suc a → is_newer true (a % 3) c (b % 3) d ≡ true
unfolding is_newer
newer_next a b c d e = rw (eq-eqb (b % 3) (successor (a % 3)) (omega arith))

pub newer_same : (a b c d : ℕ) → b ≡ a → is_newer true (a % 3) c (b % 3) d ≡ ltb c d
unfolding is_newer
newer_same a b c d e = rw (ne_eqb (b % 3) (successor (a % 3)) (omega arith), eq-eqb (b % 3) (a % 3) (omega arith))

pub newer_past : (a b c d : ℕ) → a ≡ suc b → is_newer true (a % 3) c (b % 3) d ≡ false
unfolding is_newer
newer_past a b c d e = rw (ne_eqb (b % 3) (successor (a % 3)) (omega arith), ne_eqb (b % 3) (a % 3) (omega arith))

-- where none is held
pub newer_none : (h : Bool) (l c m d : ℕ) → h ≡ false → is_newer h l c m d ≡ true
unfolding is_newer
newer_none h l c m d e = rw e

-- no label comes after itself, so no record is newer than itself; that holds of every number, label
-- or not
pub newer_self : (l c : ℕ) → is_newer true l c l c ≡ false
unfolding is_newer
newer_self l c = rw (ne_eqb l (successor l) (λ e. omega arith), eq-eqb l l refl, le-ltb c c (omega arith))

-- whether all else is equal is looked at where label and count are the same, and nowhere else
pub age_level :
    (h : Bool) (l c m d : ℕ) (e f : Bool) → (m ≡ l → d ≡ c → e ≡ f) → age_of h l c m d e ≡ age_of h l c m d f
unfolding age_of
age_level h l c m d e f same =
    elim (ℕ_discrete m l) [
      | no z ↦ apart (ap (λ (t : Bool). t && eqb d c) (ne_eqb m l z))
      | yes i ↦
          elim (ℕ_discrete d c) [
            | no z ↦ apart (ap (λ (t : Bool). eqb m l && t) (ne_eqb d c z) ∙ and-false (eqb m l))
            | yes j ↦ ap (age_of h l c m d) (same i j)
          ]
    ]
  where
    apart : (eqb m l && eqb d c) ≡ false → age_of h l c m d e ≡ age_of h l c m d f
    apart z = rw z

-- where none is held, every record is newer
pub age_none : (h : Bool) (l c m d : ℕ) (e : Bool) → h ≡ false → age_of h l c m d e ≡ Newer
unfolding age_of is_newer
age_none h l c m d e z = rw z
