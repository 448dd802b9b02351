-- Laws of which lists are labels, for every number of them together.
use Prim.Native.Nat.{ℕ, zero, suc, ◌≤◌, ◌<◌, zero-le, suc-le-suc}
use mathlib.Core.Bool.{Bool, true, false, ◌&&◌}
use mathlib.Core.List.{List, [], ◌∷◌}
use mathlib.Core.Path.{◌≡◌, refl, sym}
use lib.Dec.{leb}
use lib.ListN.{length, get_or}
use borrow.Author.Tests.{leb-true, le-leb}
use Rattle.lists.proofs.Laws.{both}
use Rattle.labels.specs.Label.{is_label}

-- every entry is 0 to 2
unfoldable pub all_labels : List ℕ → Bool
all_labels [] = true
all_labels (label ∷ labels) = is_label label && all_labels labels

-- two tests that follow from each other are the same
pub same_test : (x y : Bool) → (x ≡ true → y ≡ true) → (y ≡ true → x ≡ true) → x ≡ y
same_test true y f g = sym (f refl)
same_test false true f g = g refl
same_test false false f g = refl

module _ (label : ℕ) (labels : List ℕ) (h : all_labels (label ∷ labels) ≡ true) where
  pub all_head : label ≤ 2
  unfolding all_labels
  all_head = leb-true label 2 (both (leb label 2) (all_labels labels) h).0

  pub all_tail : all_labels labels ≡ true
  unfolding all_labels
  all_tail = (both (leb label 2) (all_labels labels) h).1

-- every place of a list of labels holds a label, and a list that has one at every place is a list
-- of labels
pub all_at : (labels : List ℕ) → all_labels labels ≡ true → (i : ℕ) → get_or labels i 0 ≤ 2
all_at [] h i = zero-le
all_at (label ∷ labels) h zero = all_head label labels h
all_at (label ∷ labels) h (suc i) = all_at labels (all_tail label labels h) i

pub at_all :
    (labels : List ℕ) →
    ((i : ℕ) → i < length labels → get_or labels i 0 ≤ 2) →
    all_labels labels ≡ true
unfolding all_labels
at_all [] f = refl
at_all (label ∷ labels) f =
    rw (le-leb label 2 (f 0 (suc-le-suc zero-le))) (at_all labels (λ i h. f (suc i) (suc-le-suc h)))
