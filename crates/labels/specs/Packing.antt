-- Document 01, "Frame bytes": the labels of a record in one word of 32 bits, the label of station k
-- at bits 2k and 2k + 1.
use Rattle.std.specs.Prelude.{ℕ, suc, zero, ◌+◌, ◌*◌, ◌/◌, ◌%◌, ◌^◌, Bool, ◌&&◌, ◌||◌, List, [], ◌∷◌, ◌==◌, nat_lt}
use Rattle.labels.specs.Label.{is_label}
use Rattle.lists.specs.Below.{all_below}

-- the label of station k in a word
unfoldable pub label_in : ℕ → ℕ → ℕ
label_in word k = word / 4 ^ k % 4

-- labels as a word: each takes two bits, the first the lowest
unfoldable pub packed : List ℕ → ℕ
packed [] = 0
packed (label ∷ labels) = label + 4 * packed labels

-- the first k labels of a word
unfoldable pub unpacked : ℕ → ℕ → List ℕ
unpacked zero word = []
unpacked (suc k) word = word % 4 ∷ unpacked k (word / 4)

-- the word with these labels for the stations below n, and with an old word's labels for the others
unfoldable pub labels_over : ℕ → (ℕ → ℕ) → ℕ → ℕ
labels_over zero label old = old
labels_over (suc n) label old = label 0 + 4 * labels_over n (λ k. label (suc k)) (old / 4)

-- the labels of the stations below n are 0 to 2
unfoldable pub labels_inside : ℕ → ℕ → Bool
labels_inside n word = all_below n (λ k. is_label (label_in word k))

-- the labels of the stations from n up are 0
unfoldable pub zero_from : ℕ → ℕ → Bool
zero_from n word = all_below 16 (λ k. nat_lt k n || label_in word k == 0)

-- the limit of a frame's record: its first n labels are labels, and nothing but zeros stands above
-- them
unfoldable pub word_inside : ℕ → ℕ → Bool
word_inside n word = labels_inside n word && zero_from n word
