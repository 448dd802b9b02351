-- The labels of a record: each is one of its word's, and a word that is put together of labels has
-- these. Nothing above looks into the word.
use mathlib.Core.Bool.{true}
use mathlib.Core.Path.{◌≡◌, refl, ap, ◌∙◌}
use mathlib.Core.List.{List}
use Prim.Native.Nat.{ℕ, ◌≤◌, ◌<◌, ◌^◌}
use native.Mathlib.Omega.{arith}
use lib.ListN.{length, get_or}
use Rattle.labels.proofs.LabelLaws.{all_labels}
use Rattle.labels.specs.Packing.{label_in, packed, labels_over}
use Rattle.labels.proofs.PackingLaws.{label_less, label_zero, label_ext, over_below, over_above, over_less, over_ext, over_own, zeros_make, first_whole}
use Rattle.labels.proofs.Packing.{packed_label}
use Rattle.frame_spec.specs.declared.Record.{Record}
use Rattle.frame_spec.specs.Words.{word_at}
use Rattle.frame_spec.specs.Record.{record_label, record_from, framed}

-- the labels of a record that is read are those of its four bytes
pub label_read : (bytes : List ℕ) (k : ℕ) → record_label (record_from bytes) k ≡ label_in (word_at bytes 12) k
unfolding record_label record_from
label_read bytes k = refl

-- they take two bits
pub label_fits : (r : Record) (k : ℕ) → record_label r k < 4
unfolding record_label
label_fits r k = label_less r.labels k

-- the labels of a record put over a word are those of its own word
pub labels_of : (n : ℕ) (r : Record) (old : ℕ) → labels_over n (label_in r.labels) old ≡ labels_over n (record_label r) old
unfolding record_label
labels_of n r old = refl

-- of a record whose labels are put over an old record's those below n are the new ones, and the
-- others the old ones
module _ (n : ℕ) (label : ℕ → ℕ) (fits : (j : ℕ) → j < n → label j < 4) (r : Record) where
  pub label_below : (old k : ℕ) → r.labels ≡ labels_over n label old → k < n → record_label r k ≡ label k
  unfolding record_label
  label_below old k e l = ap (λ (w : ℕ). label_in w k) e ∙ over_below n label old k fits l

  pub label_above :
      (old : Record) (k : ℕ) → r.labels ≡ labels_over n label old.labels → n ≤ k → record_label r k ≡ record_label old k
  unfolding record_label
  label_above old k e l = ap (λ (w : ℕ). label_in w k) e ∙ over_above n label old.labels k fits l

-- a record's own labels put over them leave its word
pub labels_kept :
    (n : ℕ) (label : ℕ → ℕ) (r : Record) → ((k : ℕ) → k < n → label k ≡ record_label r k) → labels_over n label r.labels ≡ r.labels
unfolding record_label
labels_kept n label r e = over_own n label r.labels e

-- the labels of a record whose word is packed
pub label_packed :
    (r : Record) (labels : List ℕ) → r.labels ≡ packed labels → all_labels labels ≡ true → (k : ℕ) → k < length labels →
    record_label r k ≡ get_or labels k 0
unfolding record_label
label_packed r labels e h k l = ap (λ (w : ℕ). label_in w k) e ∙ packed_label labels h k l

-- two words of sixteen labels are the same where the records' labels are
pub same_labels :
    (r s : Record) → r.labels < 4 ^ 16 → s.labels < 4 ^ 16 → ((k : ℕ) → k < 16 → record_label r k ≡ record_label s k) →
    r.labels ≡ s.labels
unfolding record_label
same_labels r s a b e = label_ext 16 r.labels s.labels a b e

-- ---- the record as a frame carries it

module _ (n : ℕ) (r : Record) where
  pub framed_word : (framed n r).labels ≡ labels_over n (record_label r) 0
  unfolding framed
  framed_word = refl

  pub framed_label : (k : ℕ) → k < n → record_label (framed n r) k ≡ record_label r k
  framed_label k l = label_below n (record_label r) (λ j b. label_fits r j) (framed n r) 0 k framed_word l

  pub framed_zero : (k : ℕ) → n ≤ k → record_label (framed n r) k ≡ 0
  unfolding record_label framed
  framed_zero k l = over_above n (label_in r.labels) 0 k (λ j b. label_less r.labels j) l ∙ label_zero k

  pub framed_less : n ≤ 16 → (framed n r).labels < 4 ^ 16
  unfolding framed
  framed_less few = over_less n 16 (record_label r) 0 (λ j b. label_fits r j) few (omega arith)

  -- what a frame carries of a record is what it carries of that
  pub framed_twice : framed n (framed n r) ≡ framed n r
  unfolding framed
  framed_twice =
      let again = over_ext n (record_label (framed n r)) (record_label r) 0 (λ k l. framed_label k l) in
      (λ i. record { station = r.station; count = r.count; body = r.body; labels = again i })

  -- it is the whole record where the labels from n up are 0
  pub framed_whole : r.labels < 4 ^ 16 → ((k : ℕ) → n ≤ k → k < 16 → record_label r k ≡ 0) → framed n r ≡ r
  unfolding framed record_label
  framed_whole less zeros =
      (λ i. record { station = r.station; count = r.count; body = r.body; labels = first_whole n r.labels less (zeros_make n r.labels zeros) i })
