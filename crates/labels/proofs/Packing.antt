-- Laws of packing, for every number of labels together: packing and unpacking undo each other, and
-- a packed word has these labels.
use Prim.Native.Nat.{ℕ, zero, suc, ◌+◌, ◌*◌, ◌/◌, ◌%◌, ◌^◌, ◌≤◌, ◌<◌}
use native.Mathlib.Nat.{pow-succ', suc-add, zero-add}
use native.Mathlib.Omega.{arith}
use mathlib.Core.Bool.{true}
use mathlib.Core.List.{List, [], ◌∷◌, ◌++◌, append-nil}
use mathlib.Core.Path.{◌≡◌, refl, sym, ap, ◌∙◌}
use lib.ListN.{length, get_or, take, replicate}
use lib.Seq.{take-nil, take_all}
use Rattle.labels.proofs.LabelLaws.{all_labels, all_head, all_tail, all_at}
use Rattle.labels.specs.Packing.{label_in, packed, unpacked, labels_over}
use Rattle.labels.proofs.PackingLaws.{label_first, label_next, over_below}

-- n labels take 2 n bits
pub packed_less : (labels : List ℕ) → all_labels labels ≡ true → packed labels < 4 ^ length labels
unfolding packed
packed_less [] h = omega arith
packed_less (label ∷ labels) h =
    omega (
      arith,
      packed_less labels (all_tail label labels h),
      all_head label labels h,
      pow-succ' 4 (length labels),
    )

unpacked_zero : (n : ℕ) → unpacked n 0 ≡ replicate n 0
unfolding unpacked
unpacked_zero zero = refl
unpacked_zero (suc n) = ap (λ (l : List ℕ). 0 ∷ l) (unpacked_zero n)

-- unpacking more than was packed gives zeros after it
pub unpack_pack_zeros :
    (labels : List ℕ) (n : ℕ) →
    all_labels labels ≡ true →
    unpacked (length labels + n) (packed labels) ≡ labels ++ replicate n 0
unfolding packed unpacked
unpack_pack_zeros [] n h = rw zero-add (unpacked_zero n)
unpack_pack_zeros (label ∷ labels) n h =
    let l : label ≤ 2 = all_head label labels h in
    let low : (label + 4 * packed labels) % 4 ≡ label = omega arith in
    let rest : (label + 4 * packed labels) / 4 ≡ packed labels = omega arith in
    rw (suc-add, low, rest) (ap (λ (l : List ℕ). label ∷ l) (unpack_pack_zeros labels n (all_tail label labels h)))

-- unpacking what was packed gives the labels
pub unpack_pack :
    (n : ℕ) (labels : List ℕ) →
    length labels ≡ n →
    all_labels labels ≡ true →
    unpacked n (packed labels) ≡ labels
unpack_pack n labels l h =
    let e : n ≡ length labels + 0 = omega arith in
    rw e (unpack_pack_zeros labels 0 h ∙ append-nil labels)

-- packing what was unpacked gives the word, where it has no more labels
pub pack_unpack : (n word : ℕ) → word < 4 ^ n → packed (unpacked n word) ≡ word
unfolding packed unpacked
pack_unpack zero word h = omega arith
pack_unpack (suc n) word h = omega (arith, pack_unpack n (word / 4) (omega arith))

-- what is unpacked are the labels of the word
pub unpacked_label : (n word k : ℕ) → k < n → get_or (unpacked n word) k 0 ≡ label_in word k
unfolding unpacked
unpacked_label zero word k l = absurd (omega arith)
unpacked_label (suc n) word zero l = sym (label_first word)
unpacked_label (suc n) word (suc k) l = unpacked_label n (word / 4) k (omega arith) ∙ sym (label_next word k)

-- packing the first n labels puts them over 0
pub packed_first : (n : ℕ) (labels : List ℕ) → packed (take n labels) ≡ labels_over n (λ k. get_or labels k 0) 0
unfolding packed labels_over
packed_first zero labels = refl
packed_first (suc n) [] =
    let rest : packed [] ≡ labels_over n (λ k. 0) 0 = ap packed (sym (take-nil n)) ∙ packed_first n [] in
    omega (arith, rest)
packed_first (suc n) (label ∷ labels) = omega (arith, packed_first n labels)

-- and so does packing all of them
pub packed_whole : (n : ℕ) (labels : List ℕ) → length labels ≡ n → packed labels ≡ labels_over n (λ k. get_or labels k 0) 0
packed_whole n labels e = ap packed (sym (take_all n labels (omega arith))) ∙ packed_first n labels

-- the labels of a packed word
pub packed_label :
    (labels : List ℕ) → all_labels labels ≡ true → (k : ℕ) → k < length labels → label_in (packed labels) k ≡ get_or labels k 0
packed_label labels h k l =
    ap (λ (w : ℕ). label_in w k) (packed_whole (length labels) labels refl)
    ∙ over_below (length labels) (λ j. get_or labels j 0) 0 k (λ j b. omega (arith, all_at labels h j)) l
