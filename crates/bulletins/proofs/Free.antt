-- The first free place, looked for from the front: each step is a case of the definition.
use mathlib.Core.Bool.{Bool, true, false}
use mathlib.Core.Path.{◌≡◌, refl, sym, ap₂}
use Prim.Native.Nat.{ℕ, zero, suc, ◌+◌, ◌*◌, ◌<◌, ◌≤◌}
use native.Mathlib.Numerals.{add-one}
use native.Mathlib.Omega.{arith}
use borrow.Author.Tests.{leb-true}
use lib.Dec.{leb}
use Rattle.std.specs.Prelude.{Option, Some, None, Result, Ok, Err, IfSome, IfOk, OnOk, ok_or}
use Rattle.bodies.specs.declared.refusals.Refusal.{Refusal}
use Rattle.lists.specs.Below.{any_below}
use Rattle.lists.proofs.Laws.{and_left, and_right}
use Rattle.bulletins_spec.specs.declared.Bulletins.{Bulletins}
use Rattle.bulletins_spec.specs.State.{stands, bulletins_inside}
use Rattle.bulletins_spec.specs.Calls.{free_from}

pub free_none : (B : Bulletins) (m s : ℕ) → m ≡ 0 → s ≡ free_from B m s
unfolding free_from
free_none B zero s e = refl
free_none B (suc m) s e = absurd (omega arith)

pub free_here : (B : Bulletins) (m s : ℕ) → 0 < m → stands B s ≡ false → s ≡ free_from B m s
unfolding free_from
free_here B zero s l e = absurd (omega arith)
free_here B (suc m) s l e = rw e

pub free_next : (B : Bulletins) (m s k : ℕ) → m ≡ suc k → stands B s ≡ true → free_from B m s ≡ free_from B k (s + 1)
unfolding free_from
free_next B zero s k q e = absurd (omega arith)
free_next B (suc m) s k q e =
    rw e (ap₂ (λ (i j : ℕ). free_from B i j) (let z : m ≡ k = omega arith in z) (sym (add-one s)))

-- one place more that has not the tag
pub any_more : (n : ℕ) (test : ℕ → Bool) → any_below n test ≡ false → test n ≡ false → any_below (n + 1) test ≡ false
unfolding any_below
any_more n test a b = rw (add-one n, a, b)

-- a state inside its limits has no more than sixteen stations
pub inside_few : (B : Bulletins) → bulletins_inside B ≡ true → B.n ≤ 16
unfolding bulletins_inside
inside_few B h = leb-true B.n 16 (and_right (leb 1 B.n) (leb B.n 16) (and_left _ _ h))

-- an issuer's place is one of all places
pub place_within : (r : Option ℕ) (e : Refusal) (i : ℕ) → i < 16 → IfSome r (λ s. s < 4 * i + 4) → IfOk (ok_or r e) (λ s. s < 64)
place_within (Some s) e i l h = omega arith
place_within None e i l h = tt

pub always : (r : Result ℕ Refusal) {P : Type 0} → P → OnOk r P
always (Ok s) p = p
always (Err e) p = tt
