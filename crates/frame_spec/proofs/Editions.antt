-- Receivers of document 01 alone beside those that know editions, by byte 3 of the frame.
use Rattle.std.specs.Prelude.{Ok, Err}
use mathlib.Core.Path.{◌≡◌, refl}
use mathlib.Core.Bool.{Bool, true, false, not, ◌||◌}
use mathlib.Core.List.{List}
use Prim.Native.Nat.{ℕ, ◌+◌, ◌*◌, ◌≤◌}
use native.Mathlib.Decide.{ℕ_discrete}
use native.Mathlib.Omega.{arith}
use lib.Dec.{ltb, eqb}
use lib.ListN.{get_or, length}
use borrow.Author.Tests.{le-ltb, lt-ltb, eq-eqb, ne_eqb}
use Rattle.bodies.specs.declared.refusals.Refusal.TheVariants.{BadShape}
use Rattle.frame_spec.specs.Frame.{shape_wrong, address_wrong, frame_refusal, check_refusal}
use Rattle.frame_spec.specs.Editions.{old_shape_wrong, old_address_wrong, old_refusal, OldReceivers, EditionZeroRemains}
use Rattle.frame_spec.proofs.Check.{check_passed, accepted_check, frame_shape, address}

module _ (bytes : List ℕ) (n own : ℕ) (h : check_refusal 1 bytes n own ≡ Ok tt) where
  shape_wrong_lem : old_shape_wrong bytes ≡ true
  unfolding old_shape_wrong
  shape_wrong_lem =
      let f = frame_shape 1 bytes n own h in
      let one : get_or bytes 3 0 ≡ 1 =
      (address 1 bytes n own (accepted_check 1 bytes n own h).address_right).of_edition in
      simp (
        le-ltb (length bytes) 4 (omega (arith, f.long)),
        ne_eqb (get_or bytes 2 0) 0 (λ e. omega (arith, f.some)),
        le-ltb 16 (get_or bytes 2 0) f.few,
        ne_eqb (get_or bytes 3 0) 0 (λ e. omega arith),
      )

  refused_with_five : old_refusal bytes n own ≡ Err BadShape
  unfolding old_refusal
  refused_with_five = rw ((check_passed 1 bytes n own h).number, shape_wrong_lem)

pub old_receivers : OldReceivers
old_receivers bytes n own h = refused_with_five bytes n own h

-- byte 3 past the editions is wrong in shape for both
third : (x y : Bool) → ((x || true) || y) ≡ true
third true y = refl
third false y = refl

module _ (bytes : List ℕ) (n own : ℕ) where
  abbrev front : Bool
  front = ltb (length bytes) 4 || eqb (get_or bytes 2 0) 0 || ltb 16 (get_or bytes 2 0)

  abbrev rest : Bool
  rest = not (eqb (length bytes) (4 + 16 * get_or bytes 2 0))

  module _ (past : 2 ≤ get_or bytes 3 0) where
    new_wrong : shape_wrong bytes ≡ true
    unfolding shape_wrong
    new_wrong = rw (le-ltb (get_or bytes 3 0) 2 past) (third front rest)

    old_wrong : old_shape_wrong bytes ≡ true
    unfolding old_shape_wrong
    old_wrong = rw (ne_eqb (get_or bytes 3 0) 0 (λ e. omega arith)) (third front rest)

    both_refuse : check_refusal 0 bytes n own ≡ old_refusal bytes n own
    unfolding check_refusal frame_refusal old_refusal
    both_refuse = rw (new_wrong, old_wrong)

  -- at 0 all their tests are the same
  module _ (none : get_or bytes 3 0 ≡ 0) where
    same_shape : shape_wrong bytes ≡ old_shape_wrong bytes
    unfolding shape_wrong old_shape_wrong
    same_shape = rw (lt-ltb (get_or bytes 3 0) 2 (omega arith), eq-eqb (get_or bytes 3 0) 0 none)

    same_address : address_wrong 0 bytes n own ≡ old_address_wrong bytes n own
    unfolding address_wrong old_address_wrong
    same_address = rw (eq-eqb (get_or bytes 3 0) 0 none)

    both_judge : check_refusal 0 bytes n own ≡ old_refusal bytes n own
    unfolding check_refusal frame_refusal old_refusal
    both_judge = rw (same_shape, same_address)

pub edition_zero_remains : EditionZeroRemains
edition_zero_remains bytes n own h =
    elim (ℕ_discrete (get_or bytes 3 0) 0) [
      | yes e ↦ both_judge bytes n own e
      | no d ↦ both_refuse bytes n own (above (get_or bytes 3 0) d h)
    ]
  where
    above : (x : ℕ) → (x ≡ 0 → ⊥) → (x ≡ 1 → ⊥) → 2 ≤ x
    above x a b = omega arith
