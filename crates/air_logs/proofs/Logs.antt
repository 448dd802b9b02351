-- The comparison by what two logs are, and the call by what it judges.
use Prim.Native.Nat.{ℕ, ◌+◌, ◌≤◌}
use mathlib.Core.Path.{◌≡◌, refl}
use mathlib.Core.Bool.{Bool, true, false, cond, not, ◌||◌}
use mathlib.Core.List.{List, [], ◌∷◌}
use native.Mathlib.Numerals.{add-one}
use native.Mathlib.Omega.{arith}
use lib.Dec.{ltb}
use borrow.Author.Tests.{ltb-false, ne_eqb}
use Rattle.bodies.specs.declared.refusals.Refusal.{Refusal}
use Rattle.bodies.specs.declared.refusals.Refusal.TheVariants.{BadNumber, OutsideLimits, QueueFull, NotAnEdit, BadShape, BadAddress, BadRecord, LaneFull, ShortBuffer, CountTooHigh, MalformedLine, BadLinkLog, BadLimit, Conflict, BadDesk, BadListing, BadEdition, BadQuestion, AlreadyIssued, BadContest}
use Rattle.bodies.specs.Refusals.{done, number}
use Rattle.air_logs_spec.specs.declared.Compared.TheVariants.{Equal, FirstBegins, SecondBegins, Different, Refused}
use Rattle.air_logs_spec.specs.Form.{is_listing}
use Rattle.air_logs_spec.specs.Logs.{Edit, log_of}
use Rattle.air_logs_spec.specs.Compare.{same_edit, compared_from, compare_refusal, compare_call}

-- two logs by their first edits
module _ (k : ℕ) (xs ys : List Edit) where
  pub both_end : xs ≡ [] → ys ≡ [] → compared_from k xs ys ≡ Equal
  unfolding compared_from
  both_end e f = rw (e, f)

  module _ (y : Edit) (more : List Edit) (f : ys ≡ y ∷ more) where
    pub first_ends : xs ≡ [] → compared_from k xs ys ≡ FirstBegins
    unfolding compared_from
    first_ends e = rw (e, f)

  module _ (x : Edit) (more : List Edit) (e : xs ≡ x ∷ more) where
    pub second_ends : ys ≡ [] → compared_from k xs ys ≡ SecondBegins
    unfolding compared_from
    second_ends f = rw (e, f)

    module _ (y : Edit) (others : List Edit) (f : ys ≡ y ∷ others) where
      pub edits_differ : same_edit x y ≡ false → compared_from k xs ys ≡ Different k
      unfolding compared_from
      edits_differ t = rw (e, f, t)

      pub edits_same : same_edit x y ≡ true → compared_from k xs ys ≡ compared_from (k + 1) more others
      unfolding compared_from
      edits_same t = rw (e, f, t, add-one k)

-- every refusal has a number above 0
number_some : (r : Refusal) → number r ≡ 0 → ⊥
number_some BadNumber e = omega arith
number_some OutsideLimits e = omega arith
number_some QueueFull e = omega arith
number_some NotAnEdit e = omega arith
number_some BadShape e = omega arith
number_some BadAddress e = omega arith
number_some BadRecord e = omega arith
number_some LaneFull e = omega arith
number_some ShortBuffer e = omega arith
number_some CountTooHigh e = omega arith
number_some MalformedLine e = omega arith
number_some BadLinkLog e = omega arith
number_some BadLimit e = omega arith
number_some Conflict e = omega arith
number_some BadDesk e = omega arith
number_some BadListing e = omega arith
number_some BadEdition e = omega arith
number_some BadQuestion e = omega arith
number_some AlreadyIssued e = omega arith
number_some BadContest e = omega arith

-- what the judge passes, and what it refuses
module _ (first : List ℕ) (p : ℕ) (second : List ℕ) (q : ℕ) where
  pub record Passed : Type 0 where
    pub first_station : p ≤ 15
    pub second_station : q ≤ 15
    pub first_listing : is_listing first ≡ true
    pub second_listing : is_listing second ≡ true

  pub passed : done ≡ compare_refusal first p second q → Passed
  unfolding compare_refusal
  passed = go (ltb 15 p) (ltb 15 q) (is_listing first) (is_listing second) refl refl refl refl
    where
      go :
          (u v w x : Bool) → ltb 15 p ≡ u → ltb 15 q ≡ v → is_listing first ≡ w → is_listing second ≡ x →
          done ≡ cond (u || v) 1 (cond (not w) 16 (cond (not x) 16 0)) → Passed
      go true v w x a b c d e = absurd (omega arith)
      go false true w x a b c d e = absurd (omega arith)
      go false false false x a b c d e = absurd (omega arith)
      go false false true false a b c d e = absurd (omega arith)
      go false false true true a b c d e =
          record { first_station = ltb-false 15 p a; second_station = ltb-false 15 q b; first_listing = c; second_listing = d }

  pub compared : done ≡ compare_refusal first p second q → compare_call first p second q ≡ compared_from 1 (log_of p first) (log_of q second)
  unfolding compare_call
  compared e = rw (← e)

  pub refused : (r : Refusal) → number r ≡ compare_refusal first p second q → compare_call first p second q ≡ Refused (number r)
  unfolding compare_call
  refused r e = rw (← e, ne_eqb (number r) 0 (number_some r))
