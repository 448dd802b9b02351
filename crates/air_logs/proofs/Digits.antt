-- What is read of columns without blanks before them, by the digits alone. A number that has so
-- many digits that nine columns hold it grows with each further digit, and anything else makes it
-- malformed for good; nothing follows a zero.
use Prim.Native.Nat.{ℕ, zero, suc, ◌+◌, ◌-◌, ◌*◌, ◌^◌, ◌≤◌, ◌<◌}
use mathlib.Core.Path.{◌≡◌, refl, sym, ap, ◌∙◌}
use mathlib.Core.Bool.{Bool, true, false, cond, ◌&&◌, ◌||◌, true≢false, false≢true}
use mathlib.Core.List.{List, [], ◌∷◌}
use native.Mathlib.Nat.{pow-suc}
use native.Mathlib.Decide.{dec_le}
use native.Mathlib.Omega.{arith}
use lib.Dec.{leb, ltb, eqb}
use lib.ListN.{length, get_or}
use borrow.Author.Tests.{leb-true, leb-false, ltb-true, ltb-false, eqb-true, eqb-false, ne_eqb, lt-ltb, le-ltb, le-leb, lt-leb}
use Rattle.lists.proofs.Laws.{and_left, and_right}
use Rattle.columns.specs.declared.reader.Reading.{Reading}
use Rattle.columns.specs.declared.reader.Reading.TheVariants.{Blank, Minus, Number, Malformed}
use Rattle.columns.specs.Reading.{digit_of, started, grown, next, read_from, read_columns}
use Rattle.script.specs.Line.{is_natural, is_whole}
use Rattle.air_logs.specs.Inner.{is_digit, all_digits, is_positive, is_unsigned, is_signed, Unpadded}

-- the reading is a number exactly if the test holds
record Verdict (minus test : Bool) (r : Reading) : Type 0 where
  good : test ≡ true → (v : ℕ) × (r ≡ Number minus v) × (v < 1_000_000_000)
  bad : test ≡ false → r ≡ Malformed

is_natural_lem : (test : Bool) (r : Reading) → Verdict false test r → is_natural r ≡ test
is_natural_lem true r h = let g = h.good refl in rw (g.1, lt-ltb g.0 1_000_000_000 g.2)
is_natural_lem false r h = rw (h.bad refl)

is_whole_lem : (minus test : Bool) (r : Reading) → Verdict minus test r → is_whole r ≡ test
is_whole_lem minus true r h = rw (h.good refl).1
is_whole_lem minus false r h = rw (h.bad refl)

not_natural : (test : Bool) (r : Reading) → Verdict true test r → is_natural r ≡ false
not_natural true r h = rw (h.good refl).1
not_natural false r h = rw (h.bad refl)

malformed_stays : (t : List ℕ) → read_from Malformed t ≡ Malformed
unfolding read_from next
malformed_stays [] = refl
malformed_stays (b ∷ t) = malformed_stays t

never : (minus : Bool) (t : List ℕ) → Verdict minus false (read_from Malformed t)
never minus t = record { good = λ e. absurd (false≢true e); bad = λ e. malformed_stays t }

-- powers of ten up to nine digits
ten_most : (k : ℕ) → k ≤ 8 → 10 ^ k ≤ 100_000_000
ten_most zero h = omega arith
ten_most (suc zero) h = omega arith
ten_most (suc (suc zero)) h = omega arith
ten_most (suc (suc (suc zero))) h = omega arith
ten_most (suc (suc (suc (suc zero)))) h = omega arith
ten_most (suc (suc (suc (suc (suc zero))))) h = omega arith
ten_most (suc (suc (suc (suc (suc (suc zero)))))) h = omega arith
ten_most (suc (suc (suc (suc (suc (suc (suc zero))))))) h = omega arith
ten_most (suc (suc (suc (suc (suc (suc (suc (suc zero)))))))) h = omega arith
ten_most (suc (suc (suc (suc (suc (suc (suc (suc (suc k))))))))) h = absurd (omega arith)

nine_most : (k : ℕ) → k ≤ 9 → 10 ^ k ≤ 1_000_000_000
nine_most zero h = omega arith
nine_most (suc k) h = let p : 10 ^ suc k ≡ 10 ^ k * 10 = pow-suc 10 k in omega (arith, ten_most k (omega arith))

-- a byte that is a digit, and one that is none
digit_is : (b : ℕ) → is_digit b ≡ true → digit_of b ≡ b - 48
digit_is b e = rw e

digit_not : (b : ℕ) → is_digit b ≡ false → digit_of b ≡ 10
digit_not b e = rw e

digit_least : (b : ℕ) → is_digit b ≡ true → 48 ≤ b
digit_least b e = leb-true 48 b (and_left (leb 48 b) (leb b 57) e)

digit_most : (b : ℕ) → is_digit b ≡ true → b ≤ 57
digit_most b e = leb-true b 57 (and_right (leb 48 b) (leb b 57) e)

-- a further digit
grown_digit : (minus : Bool) (v b : ℕ) → is_digit b ≡ true → 0 < v → v ≤ 99_999_999 → next (Number minus v) b ≡ Number minus (v * 10 + (b - 48))
unfolding next grown
grown_digit minus v b e some few =
    rw (
      digit_is b e,
      ne_eqb (b - 48) 10 (λ q. absurd (omega (arith, digit_most b e))),
      ne_eqb v 0 (λ q. absurd (omega arith)),
      le-ltb 99_999_999 v few,
    )

grown_other : (minus : Bool) (v b : ℕ) → is_digit b ≡ false → next (Number minus v) b ≡ Malformed
unfolding next grown
grown_other minus v b e = rw (digit_not b e)

digits_read :
    (minus : Bool) (t : List ℕ) (k v : ℕ) → 0 < v → v < 10 ^ k → k + length t ≤ 9 → Verdict minus (all_digits t) (read_from (Number minus v) t)
unfolding read_from
digits_read minus [] k v some few room =
    record { good = λ e. (v, refl, omega (arith, nine_most k (omega arith))); bad = λ e. absurd (true≢false e) }
digits_read minus (b ∷ t) k v some few room = go (is_digit b) refl (λ d w s f. digits_read minus t (suc k) w s f (omega arith))
  where
    go :
        (u : Bool) → is_digit b ≡ u →
        ((d : is_digit b ≡ true) (w : ℕ) → 0 < w → w < 10 ^ suc k → Verdict minus (all_digits t) (read_from (Number minus w) t)) →
        Verdict minus (u && all_digits t) (read_from (next (Number minus v) b) t)
    go true e more =
        let p : 10 ^ suc k ≡ 10 ^ k * 10 = pow-suc 10 k in
        let most : v ≤ 99_999_999 = omega (arith, ten_most k (omega arith)) in
        rw (grown_digit minus v b e some most)
        (more e (v * 10 + (b - 48)) (omega arith) (omega (arith, digit_most b e)))
    go false e more = rw (grown_other minus v b e) (never minus t)

-- the first digit of a number above 0
started_digit : (minus : Bool) (b : ℕ) → 48 < b → b ≤ 57 → started minus (digit_of b) ≡ Number minus (b - 48)
unfolding started
started_digit minus b low high =
    rw (
      le-leb 48 b (omega arith),
      le-leb b 57 high,
      ne_eqb (b - 48) 10 (λ q. absurd (omega arith)),
      ne_eqb (b - 48) 0 (λ q. absurd (omega arith)),
    )
    (go minus)
  where
    go : (m : Bool) → cond (m && false) Malformed (Number m (b - 48)) ≡ Number m (b - 48)
    go true = refl
    go false = refl

started_other : (minus : Bool) (b : ℕ) → is_digit b ≡ false → started minus (digit_of b) ≡ Malformed
unfolding started
started_other minus b e = rw (digit_not b e)

started_zero : (b : ℕ) → b ≡ 48 → started true (digit_of b) ≡ Malformed
unfolding started
started_zero b e = rw e

below : (x y : ℕ) → x ≤ y → (x ≡ y → ⊥) → x < y
below x y l d =
    elim (dec_le y x) [
      | yes m ↦ absurd (d (omega arith))
      | no m ↦ omega arith
    ]

positive_read :
    (minus : Bool) (b : ℕ) (t : List ℕ) → length t ≤ 8 → (b ≡ 48 → minus ≡ true) →
    Verdict minus (is_positive (b ∷ t)) (read_from (started minus (digit_of b)) t)
unfolding is_positive
positive_read minus b t room h = go (ltb 48 b) (leb b 57) refl refl
  where
    none : started minus (digit_of b) ≡ Malformed → Verdict minus false (read_from (started minus (digit_of b)) t)
    none e = rw e (never minus t)

    zero_out : (m : Bool) → b ≡ 48 → m ≡ true → started m (digit_of b) ≡ Malformed
    zero_out m e q = rw q (started_zero b e)

    low : b ≤ 48 → started minus (digit_of b) ≡ Malformed
    low l = pick (eqb b 48) refl
      where
        pick : (u : Bool) → eqb b 48 ≡ u → started minus (digit_of b) ≡ Malformed
        pick true e = let q : b ≡ 48 = eqb-true b 48 e in zero_out minus q (h q)
        pick false e = started_other minus b (rw (lt-leb 48 b (below b 48 l (eqb-false b 48 e))))

    go :
        (u w : Bool) → ltb 48 b ≡ u → leb b 57 ≡ w →
        Verdict minus (u && (w && all_digits t)) (read_from (started minus (digit_of b)) t)
    go true true e f =
        let above : 48 < b = ltb-true 48 b e in
        let most : b ≤ 57 = leb-true b 57 f in
        rw (started_digit minus b above most)
        (digits_read minus t 1 (b - 48) (omega arith) (omega arith) (omega arith))
    go true false e f =
        let past : 57 < b = leb-false b 57 f in
        none (started_other minus b (rw (le-leb 48 b (omega arith), f)))
    go false w e f = none (low (ltb-false 48 b e))

-- a zero stands alone
zero_read : (b : ℕ) (t : List ℕ) → b ≡ 48 → Verdict false (eqb (length t) 0) (read_from (started false (digit_of b)) t)
unfolding started read_from next grown
zero_read b [] e = rw e (record { good = λ q. (0, refl, omega arith); bad = λ q. absurd (true≢false q) })
zero_read b (c ∷ t) e = rw (e, ne_eqb (suc (length t)) 0 (λ q. absurd (omega arith))) (go (eqb (digit_of c) 10))
  where
    go : (u : Bool) → Verdict false false (read_from (cond (u || true) Malformed (Number false (0 * 10 + digit_of c))) t)
    go true = never false t
    go false = never false t

unsigned_read : (b : ℕ) (t : List ℕ) → length t ≤ 8 → Verdict false (is_unsigned (b ∷ t)) (read_from (started false (digit_of b)) t)
unfolding is_unsigned
unsigned_read b t room = go (eqb b 48) refl
  where
    go : (u : Bool) → eqb b 48 ≡ u → Verdict false (cond u (eqb (length t) 0) (is_positive (b ∷ t))) (read_from (started false (digit_of b)) t)
    go true e = zero_read b t (eqb-true b 48 e)
    go false e = positive_read false b t room (λ q. absurd (eqb-false b 48 e q))

-- what follows a minus
minus_natural : (t : List ℕ) → length t ≤ 8 → is_natural (read_from Minus t) ≡ false
unfolding read_from next
minus_natural [] room = refl
minus_natural (b ∷ t) room = not_natural (is_positive (b ∷ t)) _ (positive_read true b t (omega arith) (λ q. refl))

minus_whole : (t : List ℕ) → length t ≤ 8 → is_whole (read_from Minus t) ≡ is_positive t
unfolding read_from next
minus_whole [] room = unfold is_positive in refl
minus_whole (b ∷ t) room = is_whole_lem true (is_positive (b ∷ t)) _ (positive_read true b t (omega arith) (λ q. refl))

-- columns that do not begin with a blank
natural_read : (s : List ℕ) → length s ≤ 9 → (0 < length s → get_or s 0 0 ≡ 32 → ⊥) → is_natural (read_from Blank s) ≡ is_unsigned s
unfolding read_from next
natural_read [] room h = unfold is_unsigned in refl
natural_read (b ∷ t) room h = rw (ne_eqb b 32 (h (omega arith))) (go (eqb b 45) refl)
  where
    go : (u : Bool) → eqb b 45 ≡ u → is_natural (read_from (cond u Minus (started false (digit_of b))) t) ≡ is_unsigned (b ∷ t)
    go true e = minus_natural t (omega arith) ∙ sym (dash b (eqb-true b 45 e))
      where
        dash : (b : ℕ) → b ≡ 45 → is_unsigned (b ∷ t) ≡ false
        dash b e = unfold is_unsigned is_positive in (rw e)
    go false e = is_natural_lem (is_unsigned (b ∷ t)) _ (unsigned_read b t (omega arith))

whole_read : (s : List ℕ) → length s ≤ 9 → (0 < length s → get_or s 0 0 ≡ 32 → ⊥) → is_whole (read_from Blank s) ≡ is_signed s
unfolding read_from next is_signed
whole_read [] room h = refl
whole_read (b ∷ t) room h = rw (ne_eqb b 32 (h (omega arith))) (go (eqb b 45))
  where
    go : (u : Bool) → is_whole (read_from (cond u Minus (started false (digit_of b))) t) ≡ cond u (is_positive t) (is_unsigned (b ∷ t))
    go true = minus_whole t (omega arith)
    go false = is_whole_lem false (is_unsigned (b ∷ t)) _ (unsigned_read b t (omega arith))

-- columns behind their blanks
module _ (s t : List ℕ) (h : Unpadded s t) (room : length s ≤ 9) where
  pub natural_columns : is_natural (read_columns s) ≡ is_unsigned t
  natural_columns = ap is_natural h.read ∙ natural_read t (omega (arith, h.inside)) h.used

  pub whole_columns : is_whole (read_columns s) ≡ is_signed t
  whole_columns = ap is_whole h.read ∙ whole_read t (omega (arith, h.inside)) h.used
