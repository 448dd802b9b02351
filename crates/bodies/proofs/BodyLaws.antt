-- Laws of the definitions, for the crates above, by the cases of a body.
use Prim.Native.Nat.{◌≤◌}
use mathlib.Core.Bool.{Bool, true, false, ◌&&◌, false≢true}
use mathlib.Core.Path.{◌≡◌, refl, sym, ap, ◌∙◌}
use native.Mathlib.Omega.{arith}
use borrow.Author.Tests.{leb-true, le-leb, eqb-true, eq-eqb, ne_eqb}
use native.Mathlib.Nat.{le_antisymm}
use lib.Dec.{eqb}
use lib.IntN.{ℤ, pos, negsuc}
use lib.Signed.{le_z}
use Rattle.bodies.specs.declared.Body.{Body}
use Rattle.bodies.specs.declared.Body.TheVariants.{Empty, Neutral, Insert, Drop, Shift}
use Rattle.bodies.specs.Body.{kind_of, event_of, argument_of, channel_of, body_of, is_empty, is_edit, same_body}

-- the body of a body's own numbers is that body
pub body_back : (b : Body) → body_of (kind_of b) (event_of b) (argument_of b) (channel_of b) ≡ b
unfolding body_of
body_back Empty = refl
body_back Neutral = refl
body_back (Insert channel event start) = refl
body_back (Drop channel event) = refl
body_back (Shift channel event frames) = refl

-- the kind of an edit is 2 or more, so an edit is not Empty
pub edit_kind : (b : Body) → is_edit b ≡ true → 2 ≤ kind_of b
edit_kind b h = leb-true 2 (kind_of b) h

pub edit_not_empty : (b : Body) → is_edit b ≡ true → is_empty b ≡ false
edit_not_empty b h = ne_eqb (kind_of b) 0 (λ z. omega (arith, edit_kind b h))

-- an argument that is neither above nor below another is that one
argument_same : (a b : ℤ) → le_z a b ≡ true → le_z b a ≡ true → a ≡ b
argument_same (pos m) (pos n) e f = ap pos (le_antisymm (leb-true m n e) (leb-true n m f))
argument_same (pos m) (negsuc n) e f = absurd (false≢true e)
argument_same (negsuc m) (pos n) e f = absurd (false≢true f)
argument_same (negsuc m) (negsuc n) e f = ap negsuc (le_antisymm (leb-true m n f) (leb-true n m e))

argument_refl : (a : ℤ) → le_z a a ≡ true
argument_refl (pos m) = le-leb m m (omega arith)
argument_refl (negsuc m) = le-leb m m (omega arith)

-- bodies with the same kind, event, argument and channel are the same body
pub same_body_lem : (a b : Body) → same_body a b ≡ true → a ≡ b
same_body_lem a b h =
    let kinds = eqb (kind_of a) (kind_of b) in
    let events = eqb (event_of a) (event_of b) in
    let up = le_z (argument_of a) (argument_of b) in
    let down = le_z (argument_of b) (argument_of a) in
    let whole = both ((kinds && events) && (up && down)) (eqb (channel_of a) (channel_of b)) h in
    let first = both (kinds && events) (up && down) whole.0 in
    let second = both kinds events first.0 in
    let third = both up down first.1 in
    sym (body_back a)
    ∙ rw (
      eqb-true (kind_of a) (kind_of b) second.0,
      eqb-true (event_of a) (event_of b) second.1,
      argument_same (argument_of a) (argument_of b) third.0 third.1,
      eqb-true (channel_of a) (channel_of b) whole.1,
    ) (body_back b)
  where
    both : (x y : Bool) → (x && y) ≡ true → (x ≡ true) × (y ≡ true)
    both true true e = (refl, refl)
    both true false e = absurd (false≢true e)
    both false y e = absurd (false≢true e)

pub body_same : (b : Body) → same_body b b ≡ true
body_same b =
    rw (
      eq-eqb (kind_of b) (kind_of b) refl,
      eq-eqb (event_of b) (event_of b) refl,
      argument_refl (argument_of b),
      eq-eqb (channel_of b) (channel_of b) refl,
    )
