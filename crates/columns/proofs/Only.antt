-- Only a number's own columns are read as that number. By the last byte: what was read before it is
-- the columns of what was read so far.
use mathlib.Core.Path.{◌≡◌, refl, ap, ◌∙◌}
use mathlib.Core.Bool.{Bool, true, false, cond, ◌||◌, ◌&&◌, false≢true}
use mathlib.Core.List.{List, [], ◌∷◌, ◌++◌, append-nil}
use mathlib.Core.Logic.{◌↔◌}
use Prim.Native.Nat.{ℕ, zero, suc, ◌+◌, ◌-◌, ◌*◌, ◌/◌, ◌%◌, ◌^◌, ◌≤◌, ◌<◌}
use native.Mathlib.Nat.{pow-suc, zero-add, add-zero, add-suc, suc-add}
use lib.Seq.{append_snoc}
use Rattle.lists.proofs.Laws.{or_left, or_right}
use native.Mathlib.Decide.{ℕ_discrete}
use native.Mathlib.Omega.{arith}
use lib.Dec.{ltb, eqb}
use lib.ListN.{length, replicate}
use borrow.Author.Tests.{lt-ltb, le-ltb, eqb-true, eqb-false, ltb-false}
use Rattle.columns.specs.declared.reader.Reading.{Reading}
use Rattle.columns.specs.declared.reader.Reading.TheVariants.{Blank, Minus, Number, Malformed}
use Rattle.columns.specs.Reading.{digit_of, started, grown, next, read_from, read_columns}
use Rattle.columns.specs.Writing.{Fits, lead, columns}
use Rattle.columns.proofs.Digits.{digit_le, digit_byte}
use Rattle.columns.proofs.RoundTrip.{read_written}

-- what w bytes are, by what is read of them
abbrev Are : List ℕ → ℕ → Reading → Type 0
Are bytes w Blank = bytes ≡ replicate w 32
Are bytes w Minus = (bytes ≡ lead true w) × (0 < w)
Are bytes w (Number minus v) = (bytes ≡ columns minus w v) × Fits minus w v
Are bytes w Malformed = Unit {0}

replicate_snoc : (w : ℕ) → replicate {A = ℕ} w 32 ++ (32 ∷ []) ≡ replicate (suc w) 32
replicate_snoc zero = refl
replicate_snoc (suc w) = ap (λ (l : List ℕ). 32 ∷ l) (replicate_snoc w)

ten_power : (w : ℕ) → 0 < 10 ^ w
ten_power zero = omega arith
ten_power (suc w) = let p : 10 ^ suc w ≡ 10 ^ w * 10 = pow-suc 10 w in omega (arith, ten_power w)

tens : (w : ℕ) → 0 < w → 10 ^ w ≡ 10 ^ (w - 1) * 10
tens zero h = absurd (omega arith)
tens (suc w) h = let e : suc w - 1 ≡ w = omega arith in rw e (pow-suc 10 w)

one_more : (v d k t : ℕ) → d < 10 → v * 10 < t → t ≡ k * 10 → (v * 10 + d) * 10 < t * 10
one_more v d k t h l e = let below : v < k = omega arith in omega arith

below_ten : (b : ℕ) → eqb (digit_of b) 10 ≡ false → digit_of b < 10
below_ten b e = go (digit_of b) (digit_le b) (eqb-false (digit_of b) 10 e)
  where
    go : (d : ℕ) → d ≤ 10 → (d ≡ 10 → ⊥) → d < 10
    go d l n = elim (ℕ_discrete d 10) [
      | yes e ↦ absurd (n e)
      | no ne ↦ omega arith
    ]

above_zero : (v : ℕ) → eqb v 0 ≡ false → 0 < v
above_zero zero e = absurd (eqb-false 0 0 e refl)
above_zero (suc v) e = omega arith

behind_minus : (b : ℕ) (minus : Bool) → minus ≡ true → (minus && eqb (digit_of b) 0) ≡ false → 0 < digit_of b
behind_minus b minus q e = above_zero (digit_of b) (rw q at e)

-- a digit behind a minus has a column of its own
wide : (w : ℕ) → 0 < w → (d : ℕ) → d < 10 → d * 10 < 10 ^ suc w
wide zero h d l = absurd (omega arith)
wide (suc w) h d l = let p : 10 ^ suc (suc w) ≡ 10 ^ suc w * 10 = pow-suc 10 (suc w) in
    let q : 10 ^ suc w ≡ 10 ^ w * 10 = pow-suc 10 w in
    let one : 0 < 10 ^ w = ten_power w in omega arith

-- the first digit, after blanks and a minus or none
module _ (bytes : List ℕ) (w b : ℕ) (minus : Bool) (before : bytes ≡ lead minus w) (room : minus ≡ true → 0 < w) where
  first_are : (t : Bool) → (eqb (digit_of b) 10 || (minus && eqb (digit_of b) 0)) ≡ t →
      Are (bytes ++ (b ∷ [])) (suc w) (cond t Malformed (Number minus (digit_of b)))
  unfolding columns
  first_are true e = tt
  first_are false e =
      let d = digit_of b in
      let digit : d < 10 = below_ten b (or_left (eqb d 10) (minus && eqb d 0) e) in
      let p : 10 ^ suc w ≡ 10 ^ w * 10 = pow-suc 10 w in
      let one : 0 < 10 ^ w = ten_power w in (
        rw (before, lt-ltb d 10 digit) (ap (λ (x : ℕ). lead minus w ++ (x ∷ [])) (digit_byte b digit ∙ omega arith)),
        record {
          some = omega arith;
          digits = omega arith;
          nine = omega arith;
          behind = λ q. (behind_minus b minus q (or_right (eqb d 10) (minus && eqb d 0) e), wide w (room q) d digit);
        },
      )

-- a further digit
module _ (bytes : List ℕ) (w b : ℕ) (minus : Bool) (v : ℕ) (before : bytes ≡ columns minus w v) (fits : Fits minus w v) where
  further_are : (t : Bool) → (eqb (digit_of b) 10 || (eqb v 0 || ltb 99_999_999 v)) ≡ t →
      Are (bytes ++ (b ∷ [])) (suc w) (cond t Malformed (Number minus (v * 10 + digit_of b)))
  unfolding columns
  further_are true e = tt
  further_are false e =
      let d = digit_of b in
      let digit : d < 10 = below_ten b (or_left (eqb d 10) (eqb v 0 || ltb 99_999_999 v) e) in
      let rest = or_right (eqb d 10) (eqb v 0 || ltb 99_999_999 v) e in
      let some : 0 < v = above_zero v (or_left (eqb v 0) (ltb 99_999_999 v) rest) in
      let small : v ≤ 99_999_999 = ltb-false 99_999_999 v (or_right (eqb v 0) (ltb 99_999_999 v) rest) in
      let p : 10 ^ suc w ≡ 10 ^ w * 10 = pow-suc 10 w in
      let whole : (v * 10 + d) / 10 ≡ v = omega arith in
      let last : (v * 10 + d) % 10 ≡ d = omega arith in (
        rw (before, le-ltb (v * 10 + d) 10 (omega arith), whole, last) (ap (λ (x : ℕ). columns minus w v ++ (x ∷ [])) (digit_byte b digit)),
        record {
          some = omega arith;
          digits = omega (arith, fits.digits);
          nine = omega arith;
          behind = λ q. (omega arith, rw p (one_more v d (10 ^ (w - 1)) (10 ^ w) digit (fits.behind q).1 (tens w fits.some)));
        },
      )

-- one byte more
step_blank : (bytes : List ℕ) (w b : ℕ) (s m : Bool) → eqb b 32 ≡ s → eqb b 45 ≡ m → bytes ≡ replicate w 32 →
    Are (bytes ++ (b ∷ [])) (suc w) (cond s Blank (cond m Minus (started false (digit_of b))))
unfolding started lead
step_blank bytes w b true m e f h = rw (eqb-true b 32 e, h) (replicate_snoc w)
step_blank bytes w b false true e f h = (rw (eqb-true b 45 f, h), omega arith)
step_blank bytes w b false false e f h = first_are bytes w b false h (λ q. absurd (false≢true q)) _ refl

step : (bytes : List ℕ) (w : ℕ) (r : Reading) (b : ℕ) → Are bytes w r → Are (bytes ++ (b ∷ [])) (suc w) (next r b)
unfolding next started grown
step bytes w Blank b h = step_blank bytes w b _ _ refl refl h
step bytes w Minus b h = first_are bytes w b true h.0 (λ q. h.1) _ refl
step bytes w (Number minus v) b h = further_are bytes w b minus v h.0 h.1 _ refl
step bytes w Malformed b h = tt

read_are : (bytes : List ℕ) (w : ℕ) (r : Reading) (rest : List ℕ) → Are bytes w r → Are (bytes ++ rest) (w + length rest) (read_from r rest)
unfolding read_from
read_are bytes w r [] h = rw (append-nil, add-zero) h
read_are bytes w r (b ∷ rest) h =
    rw (← append_snoc bytes b rest, add-suc, ← suc-add) (read_are (bytes ++ (b ∷ [])) (suc w) (next r b) rest (step bytes w r b h))

-- Bytes are read as a number exactly if they are that number's columns and it fits them; so a
-- malformed field is one that no number writes.
pub reads_exactly :
    (bytes : List ℕ) (minus : Bool) (v : ℕ) →
    (read_columns bytes ≡ Number minus v) ↔ ((bytes ≡ columns minus (length bytes) v) × Fits minus (length bytes) v)
reads_exactly bytes minus v = (
  (λ e. rw (e, zero-add) at (read_are [] 0 Blank bytes refl)),
  (λ h. ap read_columns h.0 ∙ read_written minus (length bytes) v h.1),
)
