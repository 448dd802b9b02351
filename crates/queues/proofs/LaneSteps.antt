-- What pushing and popping make of a lane, by its length: none, one, or two and more, of which only
-- two are its bodies.
use Prim.Native.Nat.{ℕ, zero, suc, ◌≤◌}
use native.Mathlib.Omega.{arith}
use mathlib.Core.Path.{◌≡◌, refl}
use mathlib.Core.List.{[], ◌∷◌, ◌++◌}
use lib.ListN.{take, drop}
use Rattle.bodies.specs.declared.Body.{Body}
use Rattle.bodies.specs.declared.Body.TheVariants.{Empty}
use Rattle.queues.specs.declared.Lane.{Lane}
use Rattle.queues.specs.Lane.{bodies, lane_of, pushed, popped, no_lane}

pub push_none : (l : Lane) (b : Body) → l.len ≡ 0 → record { len = 1; first = b; second = Empty } ≡ pushed l b
unfolding bodies lane_of
push_none l b h = rw h

pub push_one : (l : Lane) (b : Body) → l.len ≡ 1 → record { len = 2; first = l.first; second = b } ≡ pushed l b
unfolding bodies lane_of
push_one l b h = rw h

taken : (n : ℕ) (x y b : Body) → 2 ≤ n → record { len = 2; first = x; second = y } ≡ lane_of (take n (x ∷ y ∷ []) ++ (b ∷ []))
unfolding lane_of
taken zero x y b h = absurd (omega arith)
taken (suc zero) x y b h = absurd (omega arith)
taken (suc (suc n)) x y b h = refl

pub push_two : (l : Lane) (b : Body) → 2 ≤ l.len → record { len = 2; first = l.first; second = l.second } ≡ pushed l b
unfolding bodies
push_two l b h = taken l.len l.first l.second b h

left : (n : ℕ) (x y : Body) → n ≤ 1 → no_lane ≡ lane_of (drop 1 (take n (x ∷ y ∷ [])))
unfolding lane_of
left zero x y h = refl
left (suc zero) x y h = refl
left (suc (suc n)) x y h = absurd (omega arith)

pub pop_one : (l : Lane) → l.len ≤ 1 → no_lane ≡ popped l
unfolding bodies
pop_one l h = left l.len l.first l.second h

second : (n : ℕ) (x y : Body) → 2 ≤ n → record { len = 1; first = y; second = Empty } ≡ lane_of (drop 1 (take n (x ∷ y ∷ [])))
unfolding lane_of
second zero x y h = absurd (omega arith)
second (suc zero) x y h = absurd (omega arith)
second (suc (suc zero)) x y h = refl
second (suc (suc (suc n))) x y h = refl

pub pop_two : (l : Lane) → 2 ≤ l.len → record { len = 1; first = l.second; second = Empty } ≡ popped l
unfolding bodies
pop_two l h = second l.len l.first l.second h
