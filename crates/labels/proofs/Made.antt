-- The words that the code makes of labels: by masks from a word, and from the highest label down
-- from an array.
use Prim.Native.Nat.{ℕ, suc, ◌+◌, ◌-◌, ◌*◌, ◌/◌, ◌%◌, ◌^◌, ◌≤◌, ◌<◌}
use native.Mathlib.Nat.{div-one, div-add-mod', div-div-eq-div-mul, div-le_self, one-mul, one-le-pow, pow-suc, pow-le-pow_right}
use native.Mathlib.Omega.{arith}
use mathlib.Core.List.{List}
use mathlib.Core.Path.{◌≡◌, sym, ap, ◌∙◌}
use lib.Bits.{bit_and}
use lib.ListN.{get_or}
use lib.Pow.{shl_exact}
use Rattle.labels.specs.Packing.{label_in, labels_over}
use Rattle.labels.proofs.PackingLaws.{label_less, over_none, over_more, over_ext, over_less, over_sum}
use Rattle.labels.proofs.Word.{four, low_mask}

-- ---- the mask of the first n labels

pub low_is : (n : ℕ) → n ≤ 16 → (1 * 2 ^ (2 * n)) % 2 ^ 64 ≡ 4 ^ n
low_is n h = shl_exact 1 (2 * n) 64 (omega arith) (omega arith) ∙ one-mul (2 ^ (2 * n)) ∙ four n

pub low_some : (n : ℕ) → 1 ≤ 4 ^ n
low_some n = one-le-pow n 4 (omega arith)

pub low_fits : (n : ℕ) → n ≤ 16 → 4 ^ n ≤ 2 ^ 32
low_fits n h = pow-le-pow_right {n = 4} (omega arith) h

-- ---- a word by masks

module _ (n labels old : ℕ) where
  abbrev masked : ℕ
  masked = old - bit_and old (4 ^ n - 1) + bit_and labels (4 ^ n - 1)

  pub masked_is : masked ≡ labels_over n (label_in labels) old
  masked_is = rw (low_mask old n, low_mask labels n) (omega (arith, over_sum n labels old, div-add-mod' old (4 ^ n)))

  pub masked_fits : n ≤ 16 → old < 2 ^ 32 → masked < 2 ^ 32
  masked_fits h f = rw masked_is (over_less n 16 (label_in labels) old (λ j l. label_less labels j) h f)

-- ---- an array from its label n - 1 down

module _ (labels : List ℕ) (n old : ℕ) where
  -- the word of the labels from i to n, over what is left of the old word
  abbrev pub word_from : ℕ → ℕ
  word_from i = labels_over (n - i) (λ k. get_or labels (i + k) 0) (old / 4 ^ i)

  -- it begins with what is left above all n labels, and ends with all of them
  pub word_first : old / 2 ^ (2 * n) ≡ word_from n
  word_first =
      let none : n - n ≡ 0 = omega arith in
      rw (none, over_none) (ap (λ (p : ℕ). old / p) (four n))

  pub word_last : word_from 0 ≡ labels_over n (λ k. get_or labels k 0) old
  word_last =
      ap (λ (m : ℕ). labels_over m (λ k. get_or labels (0 + k) 0) (old / 4 ^ 0)) (omega arith)
      ∙ ap (labels_over n (λ k. get_or labels (0 + k) 0)) (div-one old)
      ∙ over_ext n (λ k. get_or labels (0 + k) 0) (λ k. get_or labels k 0) old (λ k l. ap (λ (j : ℕ). get_or labels j 0) (omega arith))

  module _ (i : ℕ) (pos : 0 < i) (most : i ≤ n) where
    pub word_step : word_from i * 4 + get_or labels (i - 1) 0 ≡ word_from (i - 1)
    word_step =
        let one : n - (i - 1) ≡ suc (n - i) = omega arith in
        let last : suc (i - 1) ≡ i = omega arith in
        let quotient : old / 4 ^ (i - 1) / 4 ≡ old / 4 ^ i =
        div-div-eq-div-mul old (4 ^ (i - 1)) 4
        ∙ ap (λ (p : ℕ). old / p) (sym (pow-suc 4 (i - 1)) ∙ ap (λ (j : ℕ). 4 ^ j) last) in
        let rest : labels_over (n - i) (λ k. get_or labels (i - 1 + suc k) 0) (old / 4 ^ (i - 1) / 4) ≡ word_from i =
        ap (labels_over (n - i) (λ k. get_or labels (i - 1 + suc k) 0)) quotient
        ∙ over_ext (n - i) (λ k. get_or labels (i - 1 + suc k) 0) (λ k. get_or labels (i + k) 0) (old / 4 ^ i)
        (λ k l. ap (λ (j : ℕ). get_or labels j 0) (omega arith)) in
        let first : get_or labels (i - 1 + 0) 0 ≡ get_or labels (i - 1) 0 = ap (λ (j : ℕ). get_or labels j 0) (omega arith) in
        let made = over_more (n - i) (λ k. get_or labels (i - 1 + k) 0) (old / 4 ^ (i - 1)) in
        rw one (omega (arith, made, rest, first))

  -- each word fits
  pub word_fits : n ≤ 16 → old < 2 ^ 32 → ((k : ℕ) → k < n → get_or labels k 0 < 4) → (i : ℕ) → i ≤ n → word_from i < 2 ^ 32
  word_fits few f h i l =
      over_less (n - i) 16 (λ k. get_or labels (i + k) 0) (old / 4 ^ i) (λ k b. h (i + k) (omega arith)) (omega arith)
      (omega (arith, quotient_le))
    where
      quotient_le : old / 4 ^ i ≤ old
      quotient_le = div-le_self old (4 ^ i)
