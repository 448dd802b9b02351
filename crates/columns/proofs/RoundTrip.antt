-- Reading and writing are inverse. Both laws go by the last column: what stands before it is the
-- columns of the number without its last digit.
use mathlib.Core.Path.{◌≡◌, refl, ap, ◌∙◌}
use mathlib.Core.Bool.{Bool, true, false, cond}
use mathlib.Core.List.{[], ◌∷◌, ◌++◌}
use Prim.Native.Nat.{ℕ, zero, suc, ◌+◌, ◌*◌, ◌/◌, ◌%◌, ◌^◌, ◌≤◌, ◌<◌}
use native.Mathlib.Nat.{pow-suc}
use native.Mathlib.Omega.{arith}
use lib.Dec.{ltb}
use lib.ListN.{replicate}
use borrow.Author.Tests.{le-ltb, ltb-true, ltb-false, ne_eqb}
use Rattle.columns.specs.declared.reader.Reading.{Reading}
use Rattle.columns.specs.declared.reader.Reading.TheVariants.{Blank, Minus, Number}
use Rattle.columns.specs.Reading.{started, grown, next, read_from, read_columns}
use Rattle.columns.specs.Writing.{Fits, lead, columns}
use Rattle.columns.proofs.Digits.{byte_digit}
use Rattle.columns.proofs.Steps.{read_snoc}

-- what is read before the first digit
abbrev sign : Bool → Reading
sign false = Blank
sign true = Minus

blanks_read : (w : ℕ) → read_columns (replicate w 32) ≡ Blank
unfolding read_from next
blanks_read zero = refl
blanks_read (suc w) = blanks_read w

-- blanks, and a minus if there is a column for it
lead_read : (minus : Bool) (w : ℕ) → (minus ≡ true → 0 < w) → read_columns (lead minus w) ≡ sign minus
unfolding lead next
lead_read false w h = blanks_read w
lead_read true zero h = absurd (omega (arith, h refl))
lead_read true (suc w) h = read_snoc Blank (replicate w 32) 45 ∙ ap (λ r. next r 45) (blanks_read w)

first_read : (minus : Bool) (v : ℕ) → v < 10 → (minus ≡ true → 0 < v) → next (sign minus) (48 + v % 10) ≡ Number minus v
unfolding next started
first_read false v h p =
    let e : v % 10 ≡ v = omega arith in
    rw (
      e,
      ne_eqb (48 + v) 32 (λ q. absurd (omega arith)),
      ne_eqb (48 + v) 45 (λ q. absurd (omega arith)),
      byte_digit v h,
      ne_eqb v 10 (λ q. absurd (omega arith)),
    )
first_read true v h p =
    let e : v % 10 ≡ v = omega arith in
    let l : 0 < v = p refl in
    rw (e, byte_digit v h, ne_eqb v 10 (λ q. absurd (omega arith)), ne_eqb v 0 (λ q. absurd (omega arith)))

further_read : (minus : Bool) (v : ℕ) → 10 ≤ v → v < 1_000_000_000 → next (Number minus (v / 10)) (48 + v % 10) ≡ Number minus v
unfolding next grown
further_read minus v l h =
    let e : v / 10 * 10 + v % 10 ≡ v = omega arith in
    let d : v % 10 < 10 = omega arith in
    rw (
      byte_digit (v % 10) d,
      ne_eqb (v % 10) 10 (λ q. absurd (omega arith)),
      ne_eqb (v / 10) 0 (λ q. absurd (omega arith)),
      le-ltb 99_999_999 (v / 10) (omega arith),
      e,
    )

-- the last column, after what stands before it
last_read :
    (minus : Bool) (w v : ℕ) (t : Bool) → ltb v 10 ≡ t → v < 1_000_000_000 → (minus ≡ true → (0 < v) × (0 < w)) →
    (10 ≤ v → read_columns (columns minus w (v / 10)) ≡ Number minus (v / 10)) →
    read_columns (cond t (lead minus w) (columns minus w (v / 10)) ++ ((48 + v % 10) ∷ [])) ≡ Number minus v
last_read minus w v true e n m before =
    read_snoc Blank (lead minus w) (48 + v % 10)
    ∙ ap (λ r. next r (48 + v % 10)) (lead_read minus w (λ q. (m q).1))
    ∙ first_read minus v (ltb-true v 10 e) (λ q. (m q).0)
last_read minus w v false e n m before =
    read_snoc Blank (columns minus w (v / 10)) (48 + v % 10)
    ∙ ap (λ r. next r (48 + v % 10)) (before (ltb-false v 10 e))
    ∙ further_read minus v (ltb-false v 10 e) n

written : (minus : Bool) (w v : ℕ) → Fits minus (suc w) v → read_columns (columns minus (suc w) v) ≡ Number minus v
unfolding columns
written minus zero v f =
    last_read minus zero v (ltb v 10) refl f.nine
    (λ q. absurd (omega (arith, (f.behind q).0, (f.behind q).1)))
    (λ l. absurd (omega (arith, f.digits)))
written minus (suc w) v f =
    let p : 10 ^ suc (suc w) ≡ 10 ^ suc w * 10 = pow-suc 10 (suc w) in
    last_read minus (suc w) v (ltb v 10) refl f.nine
    (λ q. ((f.behind q).0, omega arith))
    (λ l. written minus w (v / 10)
    (record {
      some = omega arith;
      digits = omega (arith, f.digits);
      nine = omega (arith, f.nine);
      behind = λ q. (omega arith, omega (arith, (f.behind q).1));
    }))

-- a number that fits its columns, written and read
pub read_written : (minus : Bool) (w v : ℕ) → Fits minus w v → read_columns (columns minus w v) ≡ Number minus v
read_written minus zero v f = absurd (omega (arith, f.some))
read_written minus (suc w) v f = written minus w v f
