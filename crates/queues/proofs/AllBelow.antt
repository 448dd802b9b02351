-- What holds at every place below n holds of each of the first n elements.
use Rattle.std.proofs.Common.{◌≡◌, ◌≤◌, ℕ, zero, suc, Bool, ◌&&◌, List, length, get_or, take, refl, sym, ap, ◌∙◌, arith, add-one}
use Rattle.std.specs.List.{list_all}
use Rattle.std.proofs.lemmas.List.Folds.{list_all_more}
use Rattle.lists.specs.Below.{all_below}

pub all_below_take :
    {A : Type 0} (test : A → Bool) (d : A) (xs : List A) (n : ℕ) → n ≤ length xs →
    all_below n (λ k. test (get_or xs k d)) ≡ list_all test (take n xs)
unfolding all_below
all_below_take test d xs zero h = refl
all_below_take test d xs (suc n) h =
    ap (λ (b : Bool). b && test (get_or xs n d)) (all_below_take test d xs n (omega arith)) ∙ sym (rw (← add-one) (list_all_more test xs n d (omega arith)))
