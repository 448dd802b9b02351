-- Beginnings of lists: a list begins itself and whatever is put after it, a beginning of a
-- beginning is one, and its entries are the list's.
use mathlib.Core.List.{List, [], ◌++◌, append-nil, append_assoc}
use mathlib.Core.Path.{◌≡◌, refl, sym, ap, ◌∙◌}
use Prim.Native.Nat.{ℕ, ◌≤◌, ◌<◌}
use native.Mathlib.Omega.{arith}
use lib.ListN.{length, get_or, take, length-append, get_or-append}
use lib.Seq.{take-append-le}
use Rattle.group_spec.specs.Demand.{Begins}

module _ {A : Type 0} where
  pub begins-nil : (xs : List A) → Begins [] xs
  begins-nil xs = record { rest = xs; whole = refl }

  pub begins_refl : (xs : List A) → Begins xs xs
  begins_refl xs = record { rest = []; whole = append-nil xs }

  pub begins-append : (xs ys : List A) → Begins xs (xs ++ ys)
  begins-append xs ys = record { rest = ys; whole = refl }

  pub begins_trans : (xs ys zs : List A) → Begins xs ys → Begins ys zs → Begins xs zs
  begins_trans xs ys zs a b =
      record {
        rest = a.rest ++ b.rest;
        whole = sym (append_assoc xs a.rest b.rest) ∙ ap (λ (l : List A). l ++ b.rest) a.whole ∙ b.whole;
      }

  pub begins_get_d : (xs ys : List A) → Begins xs ys → (k : ℕ) (d : A) → k < length xs → get_or xs k d ≡ get_or ys k d
  begins_get_d xs ys b k d l = sym (get_or-append xs b.rest d k l) ∙ ap (λ (l : List A). get_or l k d) b.whole

  pub begins-take : (xs ys : List A) → Begins xs ys → (k : ℕ) → k ≤ length xs → take k xs ≡ take k ys
  begins-take xs ys b k l = sym (take-append-le k xs b.rest l) ∙ ap (λ (l : List A). take k l) b.whole

  pub begins-length : (xs ys : List A) → Begins xs ys → length xs ≤ length ys
  begins-length xs ys b = omega (arith, ap length b.whole, length-append xs b.rest)
