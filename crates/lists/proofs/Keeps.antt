-- A property that every entry of a list has, and that what is put in has too, is kept when one
-- place is changed or the first places are filled; and whichever of two values a test picks, it has
-- what both have.
use Prim.Native.Nat.{ℕ, zero, suc, ◌<◌}
use mathlib.Core.Bool.{Bool, true, false, cond}
use mathlib.Core.List.{List}
use mathlib.Core.Path.{subst, sym}
use native.Mathlib.Decide.{ℕ_discrete}
use native.Mathlib.Omega.{arith}
use lib.ListN.{get_or, set, length}
use lib.Seq.{get_or-set_same, get_or-set_other}
use Rattle.lists.specs.Below.{set_below}
use Rattle.lists.proofs.Laws.{length-set_below}

module _ {A : Type 0} (P : A → Type 0) where
  pub cond_keeps : (test : Bool) (x y : A) → P x → P y → P (cond test x y)
  cond_keeps true x y p q = p
  cond_keeps false x y p q = q

  pub set_keeps : (l : List A) (i : ℕ) (a d : A) (k : ℕ) → k < length l → P (get_or l k d) → P a → P (get_or (set l i a) k d)
  set_keeps l i a d k b p q =
      elim (ℕ_discrete k i) [
        | yes e ↦
            subst (λ j. P (get_or (set l i a) j d)) (sym e) (subst P (sym (get_or-set_same l i a d (subst (λ j. j < length l) e b))) q)
        | no ne ↦ subst P (sym (get_or-set_other l i k a d ne)) p
      ]

  pub set_below_keeps :
      (n : ℕ) (f : ℕ → A) (l : List A) (d : A) (k : ℕ) → k < length l → P (get_or l k d) → ((j : ℕ) → j < n → P (f j)) →
      P (get_or (set_below n f l) k d)
  unfolding set_below
  set_below_keeps zero f l d k b p q = p
  set_below_keeps (suc n) f l d k b p q =
      set_keeps (set_below n f l) n (f n) d k (rw length-set_below b) (set_below_keeps n f l d k b p (λ j h. q j (omega arith))) (q n (omega arith))
