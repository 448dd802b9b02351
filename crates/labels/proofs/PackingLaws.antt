-- Laws of the labels in a word, for every number of stations together. The labels are the word's
-- digits to the base 4: the first is the remainder by 4, the others are the labels of the quotient,
-- and so each law goes label by label.
use Prim.Native.Nat.{ℕ, zero, suc, ◌+◌, ◌*◌, ◌/◌, ◌%◌, ◌^◌, ◌≤◌, ◌<◌}
use native.Mathlib.Nat.{div-one, div-div-eq-div-mul, pow-suc, pow-succ', pow-le-pow_right, one-le-pow, mod-lt, mul_assoc, zero-add, zero-mul, zero-div}
use native.Mathlib.Decide.{dec_lt}
use native.Mathlib.Omega.{arith}
use mathlib.Core.Bool.{Bool, true, ◌||◌}
use mathlib.Core.Path.{◌≡◌, refl, sym, ap, ap₂, ◌∙◌}
use lib.Arith.{mod-mul}
use lib.Dec.{eqb, ltb}
use borrow.Author.Tests.{eqb-true, eq-eqb, lt-ltb, le-ltb}
use Rattle.labels.specs.Label.{is_label}
use Rattle.lists.proofs.Laws.{all_below_at, all_below_make}
use Rattle.labels.specs.Packing.{label_in, labels_over, labels_inside, zero_from}

-- ---- one label

quotient_next : (word k : ℕ) → word / 4 ^ suc k ≡ word / 4 / 4 ^ k
quotient_next word k = ap (λ (p : ℕ). word / p) (pow-succ' 4 k) ∙ sym (div-div-eq-div-mul word 4 (4 ^ k))

pub label_first : (word : ℕ) → label_in word 0 ≡ word % 4
unfolding label_in
label_first word = rw div-one

pub label_next : (word k : ℕ) → label_in word (suc k) ≡ label_in (word / 4) k
unfolding label_in
label_next word k = ap (λ (q : ℕ). q % 4) (quotient_next word k)

pub label_less : (word k : ℕ) → label_in word k < 4
unfolding label_in
label_less word k = mod-lt (word / 4 ^ k) (omega arith)

pub label_zero : (k : ℕ) → label_in 0 k ≡ 0
label_zero zero = label_first 0
label_zero (suc k) = label_next 0 k ∙ label_zero k

-- a word of n labels has no others
pub label_high : (n k word : ℕ) → word < 4 ^ n → n ≤ k → label_in word k ≡ 0
label_high zero k word h l =
    let e : word ≡ 0 = omega arith in
    ap (λ (w : ℕ). label_in w k) e ∙ label_zero k
label_high (suc n) zero word h l = absurd (omega arith)
label_high (suc n) (suc k) word h l = label_next word k ∙ label_high n k (word / 4) (omega arith) (omega arith)

-- two words of m labels are the same where their labels are
pub label_ext :
    (m x y : ℕ) → x < 4 ^ m → y < 4 ^ m → ((k : ℕ) → k < m → label_in x k ≡ label_in y k) → x ≡ y
label_ext zero x y p q e = omega arith
label_ext (suc m) x y p q e =
    let rest : x / 4 ≡ y / 4 =
    label_ext m (x / 4) (y / 4) (omega arith) (omega arith)
    (λ k l. sym (label_next x k) ∙ e (suc k) (omega arith) ∙ label_next y k) in
    let low : x % 4 ≡ y % 4 = sym (label_first x) ∙ e 0 (omega arith) ∙ label_first y in
    omega arith

-- a word whose labels from n up are 0 has no more than n
pub labels_less :
    (n m word : ℕ) → n ≤ m → word < 4 ^ m → ((k : ℕ) → n ≤ k → k < m → label_in word k ≡ 0) → word < 4 ^ n
labels_less zero m word l h z =
    let e : word ≡ 0 =
    label_ext m word 0 h (one-le-pow m 4 (omega arith)) (λ k b. z k (omega arith) b ∙ sym (label_zero k)) in
    omega arith
labels_less (suc n) zero word l h z = absurd (omega arith)
labels_less (suc n) (suc m) word l h z =
    omega (
      arith,
      labels_less n m (word / 4) (omega arith) (omega arith) (λ k a b. sym (label_next word k) ∙ z (suc k) (omega arith) (omega arith)),
    )

-- ---- labels put over those of an old word

pub over_none : (label : ℕ → ℕ) (old : ℕ) → labels_over 0 label old ≡ old
unfolding labels_over
over_none label old = refl

pub over_more :
    (n : ℕ) (label : ℕ → ℕ) (old : ℕ) →
    labels_over (suc n) label old ≡ label 0 + 4 * labels_over n (λ k. label (suc k)) (old / 4)
unfolding labels_over
over_more n label old = refl

pub over_ext :
    (n : ℕ) (f g : ℕ → ℕ) (old : ℕ) → ((k : ℕ) → k < n → f k ≡ g k) → labels_over n f old ≡ labels_over n g old
unfolding labels_over
over_ext zero f g old e = refl
over_ext (suc n) f g old e =
    omega (
      arith,
      e 0 (omega arith),
      over_ext n (λ k. f (suc k)) (λ k. g (suc k)) (old / 4) (λ k l. e (suc k) (omega arith)),
    )

-- the labels below n are the new ones, those from n up the old ones
pub over_below :
    (n : ℕ) (label : ℕ → ℕ) (old k : ℕ) → ((j : ℕ) → j < n → label j < 4) → k < n → label_in (labels_over n label old) k ≡ label k
unfolding labels_over
over_below zero label old k h l = absurd (omega arith)
over_below (suc n) label old zero h l = label_first _ ∙ omega (arith, h 0 (omega arith))
over_below (suc n) label old (suc k) h l =
    let rest = labels_over n (λ j. label (suc j)) (old / 4) in
    let e : (label 0 + 4 * rest) / 4 ≡ rest = omega (arith, h 0 (omega arith)) in
    label_next (label 0 + 4 * rest) k
    ∙ ap (λ (w : ℕ). label_in w k) e
    ∙ over_below n (λ j. label (suc j)) (old / 4) k (λ j b. h (suc j) (omega arith)) (omega arith)

pub over_above :
    (n : ℕ) (label : ℕ → ℕ) (old k : ℕ) → ((j : ℕ) → j < n → label j < 4) → n ≤ k →
    label_in (labels_over n label old) k ≡ label_in old k
unfolding labels_over
over_above zero label old k h l = refl
over_above (suc n) label old zero h l = absurd (omega arith)
over_above (suc n) label old (suc k) h l =
    let rest = labels_over n (λ j. label (suc j)) (old / 4) in
    let e : (label 0 + 4 * rest) / 4 ≡ rest = omega (arith, h 0 (omega arith)) in
    label_next (label 0 + 4 * rest) k
    ∙ ap (λ (w : ℕ). label_in w k) e
    ∙ over_above n (λ j. label (suc j)) (old / 4) k (λ j b. h (suc j) (omega arith)) (omega arith)
    ∙ sym (label_next old k)

-- they are no more than the old word has room for
pub over_less :
    (n m : ℕ) (label : ℕ → ℕ) (old : ℕ) → ((j : ℕ) → j < n → label j < 4) → n ≤ m → old < 4 ^ m → labels_over n label old < 4 ^ m
unfolding labels_over
over_less zero m label old h l b = b
over_less (suc n) zero label old h l b = absurd (omega arith)
over_less (suc n) (suc m) label old h l b =
    omega (
      arith,
      h 0 (omega arith),
      over_less n m (λ j. label (suc j)) (old / 4) (λ j c. h (suc j) (omega arith)) (omega arith) (omega arith),
    )

-- of labels put over labels the last ones decide
pub over_twice :
    (n : ℕ) (f g : ℕ → ℕ) (old : ℕ) → ((j : ℕ) → j < n → g j < 4) → labels_over n f (labels_over n g old) ≡ labels_over n f old
unfolding labels_over
over_twice zero f g old h = refl
over_twice (suc n) f g old h =
    let rest = labels_over n (λ k. g (suc k)) (old / 4) in
    let e : (g 0 + 4 * rest) / 4 ≡ rest = omega (arith, h 0 (omega arith)) in
    ap (λ (w : ℕ). f 0 + 4 * labels_over n (λ k. f (suc k)) w) e
    ∙ ap (λ (w : ℕ). f 0 + 4 * w) (over_twice n (λ k. f (suc k)) (λ k. g (suc k)) (old / 4) (λ j l. h (suc j) (omega arith)))

-- a word's own labels put over it leave it
pub over_own : (n : ℕ) (f : ℕ → ℕ) (word : ℕ) → ((k : ℕ) → k < n → f k ≡ label_in word k) → labels_over n f word ≡ word
unfolding labels_over
over_own zero f word e = refl
over_own (suc n) f word e =
    omega (
      arith,
      e 0 (omega arith),
      label_first word,
      over_own n (λ k. f (suc k)) (word / 4) (λ k l. e (suc k) (omega arith) ∙ label_next word k),
    )

-- ---- the labels of a word put over those of another

pub over_sum : (n word old : ℕ) → labels_over n (label_in word) old ≡ old / 4 ^ n * 4 ^ n + word % 4 ^ n
unfolding labels_over
over_sum zero word old = omega arith
over_sum (suc n) word old =
    let p = 4 ^ n in
    let rest : labels_over n (λ k. label_in word (suc k)) (old / 4) ≡ old / 4 / p * p + word / 4 % p =
    over_ext n (λ k. label_in word (suc k)) (label_in (word / 4)) (old / 4) (λ k l. label_next word k)
    ∙ over_sum n (word / 4) (old / 4) in
    let high : old / 4 ^ suc n * 4 ^ suc n ≡ old / 4 / p * p * 4 =
    ap₂ ◌*◌ (quotient_next old n) (pow-suc 4 n) ∙ sym (mul_assoc (old / 4 / p) p 4) in
    let low : word % 4 ^ suc n ≡ word / 4 % p * 4 + word % 4 =
    ap (λ (q : ℕ). word % q) (pow-suc 4 n) ∙ mod-mul word (one-le-pow n 4 (omega arith)) (omega arith) in
    omega (arith, label_first word, rest, high, low)

-- over 0 they are what is left of the word
pub first_is : (n word : ℕ) → labels_over n (label_in word) 0 ≡ word % 4 ^ n
first_is n word = rw (zero-div, zero-mul, zero-add) at (over_sum n word 0)

-- ---- the tests

module _ (n word : ℕ) where
  pub inside_at : labels_inside n word ≡ true → (k : ℕ) → k < n → is_label (label_in word k) ≡ true
  unfolding labels_inside
  inside_at h = all_below_at n (λ k. is_label (label_in word k)) h

  pub inside_make : ((k : ℕ) → k < n → is_label (label_in word k) ≡ true) → labels_inside n word ≡ true
  unfolding labels_inside
  inside_make h = all_below_make n (λ k. is_label (label_in word k)) h

  abbrev zero_at : ℕ → Bool
  zero_at k = ltb k n || eqb (label_in word k) 0

  pub zeros_at : zero_from n word ≡ true → (k : ℕ) → n ≤ k → k < 16 → label_in word k ≡ 0
  unfolding zero_from
  zeros_at h k l b =
      let t : zero_at k ≡ true = all_below_at 16 zero_at h k b in
      eqb-true (label_in word k) 0 (rw (le-ltb k n l) at t)

  pub zeros_make : ((k : ℕ) → n ≤ k → k < 16 → label_in word k ≡ 0) → zero_from n word ≡ true
  unfolding zero_from
  zeros_make h =
      all_below_make 16 zero_at
      (λ k b.
      elim (dec_lt k n) [
        | yes l ↦ rw (lt-ltb k n l)
        | no l ↦ rw (le-ltb k n (omega arith)) (eq-eqb (label_in word k) 0 (h k (omega arith) b))
      ])

  -- a word whose labels from n up are 0 is its first n labels
  pub first_whole : word < 4 ^ 16 → zero_from n word ≡ true → labels_over n (label_in word) 0 ≡ word
  first_whole h z =
      let fits : (j : ℕ) → j < n → label_in word j < 4 = λ j l. label_less word j in
      let room : 4 ^ 16 ≤ 4 ^ (16 + n) = pow-le-pow_right {n = 4} (omega arith) {i = 16} {j = 16 + n} (omega arith) in
      label_ext (16 + n) (labels_over n (label_in word) 0) word
      (over_less n (16 + n) (label_in word) 0 fits (omega arith) (one-le-pow (16 + n) 4 (omega arith)))
      (omega (arith, room))
      (λ k b.
      elim (dec_lt k n) [
        | yes l ↦ over_below n (label_in word) 0 k fits l
        | no l ↦
            over_above n (label_in word) 0 k fits (omega arith)
            ∙ label_zero k
            ∙ sym
            (elim (dec_lt k 16) [
              | yes a ↦ zeros_at z k (omega arith) a
              | no a ↦ label_high 16 k word h (omega arith)
            ])
      ])
