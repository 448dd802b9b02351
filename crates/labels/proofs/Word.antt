-- How looks at a word's bits show what is asked of its sixteen labels. A label is 3 where both its
-- bits are 1, so a word has a 3 where the word and its half share a bit at an even place; and the
-- labels from n up are 0 where nothing is left above 2 n bits.
use Prim.Native.Nat.{ℕ, zero, suc, ◌+◌, ◌-◌, ◌*◌, ◌/◌, ◌%◌, ◌^◌, ◌≤◌, ◌<◌, min}
use native.Mathlib.Nat.{mod-one, pow-suc, one-le-pow, div-eq_of_lt, div-lt_iff_lt-mul}
use native.Mathlib.Decide.{dec_lt}
use native.Mathlib.Omega.{arith}
use mathlib.Core.Bool.{◌&&◌}
use mathlib.Core.Path.{◌≡◌, refl, sym, ap, ap₂, ◌∙◌}
use lib.Arith.{mod-mul}
use lib.Bits.{bit_and, bit_or, and_step, and_mask, and_zero_r, and_le_l, and_le_r, or_add_and}
use lib.Dec.{eqb}
use borrow.Author.Tests.{leb-true, eqb-true, le-leb, eq-eqb}
use Rattle.labels.proofs.LabelLaws.{same_test}
use Rattle.lists.proofs.Laws.{both, and_both}
use Rattle.labels.specs.Packing.{label_in, labels_inside, zero_from, word_inside}
use Rattle.labels.proofs.PackingLaws.{label_first, label_next, label_high, labels_less, inside_at, inside_make, zeros_at, zeros_make}

-- 2 n bits are n labels
pub four : (n : ℕ) → 2 ^ (2 * n) ≡ 4 ^ n
four zero = refl
four (suc n) =
    let e : 2 * suc n ≡ suc (suc (2 * n)) = omega arith in
    rw e (omega (arith, four n))

pub low_mask : (word n : ℕ) → bit_and word (4 ^ n - 1) ≡ word % 4 ^ n
low_mask word n = rw (← four n) (and_mask word (2 * n))

-- ---- labels are no 3

-- the even places of n labels
abbrev pub evens : ℕ → ℕ
evens zero = 0
evens (suc n) = 1 + 4 * evens n

-- where a word and its half share a bit
abbrev shared : ℕ → ℕ
shared word = bit_and word (word / 2)

-- where a label is 3
abbrev pub threes : ℕ → ℕ → ℕ
threes n word = bit_and (shared word) (evens n)

shared_quarter : (word : ℕ) → shared word / 2 / 2 ≡ shared (word / 4)
shared_quarter word =
    let e : word / 2 / 2 ≡ word / 4 = omega arith in
    omega (arith, and_step word (word / 2), and_step (word / 2) (word / 2 / 2), ap shared e)

threes_step :
    (n word : ℕ) →
    threes (suc n) word ≡ 4 * threes n (word / 4) + min (word % 2) (word / 2 % 2)
threes_step n word =
    let e : (1 + 4 * evens n) / 2 / 2 ≡ evens n = omega arith in
    omega (
      arith,
      and_step (shared word) (1 + 4 * evens n),
      and_step (shared word / 2) ((1 + 4 * evens n) / 2),
      ap₂ bit_and (shared_quarter word) e,
      and_step word (word / 2),
    )

bits : (word : ℕ) → word % 4 ≡ word / 2 % 2 * 2 + word % 2
bits word = mod-mul word (omega arith) (omega arith)

threes_none : (n word : ℕ) → threes n word ≡ 0 → (k : ℕ) → k < n → label_in word k ≤ 2
threes_none zero word z k h = absurd (omega arith)
threes_none (suc n) word z zero h = omega (arith, threes_step n word, bits word, label_first word)
threes_none (suc n) word z (suc k) h =
    rw (label_next word k) (threes_none n (word / 4) (omega (arith, threes_step n word)) k (omega arith))

none_threes : (n word : ℕ) → ((k : ℕ) → k < n → label_in word k ≤ 2) → threes n word ≡ 0
none_threes zero word f = and_zero_r (shared word)
none_threes (suc n) word f =
    let low : word % 4 ≤ 2 = rw (label_first word) at (f 0 (omega arith)) in
    let rest = none_threes n (word / 4) (λ k h. rw (label_next word k) at (f (suc k) (omega arith))) in
    omega (arith, threes_step n word, bits word, rest)

threes_are : (n word : ℕ) → eqb (threes n word) 0 ≡ labels_inside n word
threes_are n word =
    same_test (eqb (threes n word) 0) (labels_inside n word)
    (λ t.
    inside_make n word
    (λ k l. le-leb (label_in word k) 2 (threes_none n word (eqb-true (threes n word) 0 t) k l)))
    (λ t.
    eq-eqb (threes n word) 0
    (none_threes n word (λ k l. leb-true (label_in word k) 2 (inside_at n word t k l))))

-- the places above those of the first n labels are masked out
threes_mod : (n m word : ℕ) → n ≤ m → threes m word % 4 ^ n ≡ threes n word
threes_mod zero m word h = mod-one (threes m word) ∙ sym (and_zero_r (shared word))
threes_mod (suc n) zero word h = absurd (omega arith)
threes_mod (suc n) (suc m) word h =
    let x = threes (suc m) word in
    let q : x / 4 ≡ threes m (word / 4) = omega (arith, threes_step m word) in
    let e : x % (4 ^ n * 4) ≡ x / 4 % 4 ^ n * 4 + x % 4 = mod-mul x (one-le-pow n 4 (omega arith)) (omega arith) in
    rw (pow-suc 4 n)
    (e ∙ rw q (omega (arith, threes_mod n m (word / 4) (omega arith), threes_step m word, threes_step n word)))

pub inside_masked : (n word : ℕ) → n ≤ 16 → eqb (bit_and (threes 16 word) (4 ^ n - 1)) 0 ≡ labels_inside n word
inside_masked n word h = rw (low_mask (threes 16 word) n, threes_mod n 16 word h) (threes_are n word)

-- ---- and nothing stands above them

high_zero : (n word : ℕ) → n ≤ 16 → word < 2 ^ 32 → eqb (word / 4 ^ n) 0 ≡ zero_from n word
high_zero n word l h =
    same_test (eqb (word / 4 ^ n) 0) (zero_from n word)
    (λ t.
    let z : word / 4 ^ n < 1 = omega (arith, eqb-true (word / 4 ^ n) 0 t) in
    let less : word < 1 * 4 ^ n = (div-lt_iff_lt-mul (one-le-pow n 4 (omega arith))).0 z in
    zeros_make n word (λ k a b. label_high n k word (omega arith) a))
    (λ t. eq-eqb (word / 4 ^ n) 0 (div-eq_of_lt (labels_less n 16 word l h (zeros_at n word t))))

-- two numbers are both 0 where together they have no bit
or_zero : (a b : ℕ) → eqb (bit_or a b) 0 ≡ (eqb a 0 && eqb b 0)
or_zero a b =
    same_test
    (eqb (bit_or a b) 0)
    (eqb a 0 && eqb b 0)
    (λ t.
    let z : bit_or a b ≡ 0 = eqb-true (bit_or a b) 0 t in
    and_both
    (eq-eqb a 0 (omega (arith, or_add_and a b, and_le_r a b)))
    (eq-eqb b 0 (omega (arith, or_add_and a b, and_le_l a b))))
    (λ t.
    let p = both (eqb a 0) (eqb b 0) t in
    eq-eqb (bit_or a b) 0 (omega (arith, or_add_and a b, eqb-true a 0 p.0, eqb-true b 0 p.1)))

-- where the labels from n up are 0, the first n are labels exactly if all sixteen are
all_sixteen : (n word : ℕ) → n ≤ 16 → (labels_inside 16 word && zero_from n word) ≡ (labels_inside n word && zero_from n word)
all_sixteen n word l =
    same_test (labels_inside 16 word && zero_from n word) (labels_inside n word && zero_from n word)
    (λ t.
    let p = both (labels_inside 16 word) (zero_from n word) t in
    and_both (inside_make n word (λ k b. inside_at 16 word p.0 k (omega arith))) p.1)
    (λ t.
    let p = both (labels_inside n word) (zero_from n word) t in
    and_both
    (inside_make 16 word
    (λ k b.
    elim (dec_lt k n) [
      | yes a ↦ inside_at n word p.0 k a
      | no a ↦ le-leb (label_in word k) 2 (omega (arith, zeros_at n word p.1 k (omega arith) b))
    ]))
    p.1)

-- both looks as one
pub inside_one :
    (n word : ℕ) → n ≤ 16 → word < 2 ^ 32 → eqb (bit_or (threes 16 word) (word / 2 ^ (2 * n))) 0 ≡ word_inside n word
unfolding word_inside
inside_one n word l h =
    or_zero (threes 16 word) (word / 2 ^ (2 * n))
    ∙ ap₂ ◌&&◌ (threes_are 16 word) (ap (λ (p : ℕ). eqb (word / p) 0) (four n) ∙ high_zero n word l h)
    ∙ all_sixteen n word l
