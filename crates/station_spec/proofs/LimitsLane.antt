-- Lanes inside their limits: a body that a lane may hold can be put into one that has a place, and
-- the oldest can be removed from any. A lane has none, one or two bodies; each law looks at the
-- three cases.
use Prim.Native.Nat.{ℕ, zero, suc, ◌≤◌, ◌<◌}
use mathlib.Core.Bool.{Bool, true, false, true≢false, ◌&&◌, ◌||◌}
use mathlib.Core.Path.{◌≡◌, refl}
use native.Mathlib.Omega.{arith}
use lib.Dec.{leb, eqb, leb-zero}
use lib.Seq.{take-nil}
use borrow.Author.Tests.{leb-true, lt-leb, le-leb, ne_eqb}
use Rattle.bodies.specs.declared.Body.{Body}
use Rattle.lists.proofs.Laws.{and_both, and_left, and_right}
use Rattle.queues.specs.declared.Lane.{Lane}
use Rattle.queues.specs.Lane.{bodies, lane_of, pushed, popped}
use Rattle.station_spec.specs.Limits.{lane_inside, takeable}

or_second : (a b : Bool) → (a || b) ≡ true → a ≡ false → b ≡ true
or_second true b h e = absurd (true≢false e)
or_second false b h e = h

abbrev lane : ℕ → Body → Body → Lane
lane k a b = record { len = k; first = a; second = b }

pub lane_most : (inside : Body → Bool) (most : ℕ) (l : Lane) → lane_inside inside most l ≡ true → l.len ≤ most
unfolding lane_inside
lane_most inside most l h =
    leb-true l.len most
    (and_left (leb l.len most) (eqb l.len 0 || takeable inside l.first)
    (and_left (leb l.len most && (eqb l.len 0 || takeable inside l.first)) (leb l.len 1 || takeable inside l.second) h))

pub lane_first : (inside : Body → Bool) (most : ℕ) (l : Lane) → lane_inside inside most l ≡ true → 0 < l.len → takeable inside l.first ≡ true
unfolding lane_inside
lane_first inside most l h p =
    or_second (eqb l.len 0) (takeable inside l.first)
    (and_right (leb l.len most) (eqb l.len 0 || takeable inside l.first)
    (and_left (leb l.len most && (eqb l.len 0 || takeable inside l.first)) (leb l.len 1 || takeable inside l.second) h))
    (ne_eqb l.len 0 (λ e. absurd (omega arith)))

pub lane_second : (inside : Body → Bool) (most : ℕ) (l : Lane) → lane_inside inside most l ≡ true → 1 < l.len → takeable inside l.second ≡ true
unfolding lane_inside
lane_second inside most l h p =
    or_second (leb l.len 1) (takeable inside l.second)
    (and_right (leb l.len most && (eqb l.len 0 || takeable inside l.first)) (leb l.len 1 || takeable inside l.second) h)
    (lt-leb l.len 1 p)

pub lane_none : (inside : Body → Bool) (most : ℕ) (a b : Body) → lane_inside inside most (lane 0 a b) ≡ true
unfolding lane_inside
lane_none inside most a b = and_both (and_both (leb-zero most) refl) refl

lane_one : (inside : Body → Bool) (most : ℕ) (a b : Body) → 1 ≤ most → takeable inside a ≡ true → lane_inside inside most (lane 1 a b) ≡ true
unfolding lane_inside
lane_one inside most a b m p = and_both (and_both (le-leb 1 most m) p) refl

lane_two : (inside : Body → Bool) (most : ℕ) (a b : Body) → 2 ≤ most → takeable inside a ≡ true → takeable inside b ≡ true → lane_inside inside most (lane 2 a b) ≡ true
unfolding lane_inside
lane_two inside most a b m p q = and_both (and_both (le-leb 2 most m) p) q

pub popped_inside : (inside : Body → Bool) (most : ℕ) (l : Lane) → lane_inside inside most l ≡ true → lane_inside inside most (popped l) ≡ true
unfolding bodies lane_of
popped_inside inside most l h = go l.len l.first l.second h
  where
    go : (k : ℕ) (a b : Body) → lane_inside inside most (lane k a b) ≡ true → lane_inside inside most (popped (lane k a b)) ≡ true
    go zero a b h = lane_none inside most _ _
    go (suc zero) a b h = lane_none inside most _ _
    go (suc (suc k)) a b h =
        rw (take-nil {A = Body} k)
        (lane_one inside most b _ (omega (arith, lane_most inside most (lane (suc (suc k)) a b) h))
        (lane_second inside most (lane (suc (suc k)) a b) h (omega arith)))

pub pushed_inside :
    (inside : Body → Bool) (most : ℕ) (l : Lane) (b : Body) → lane_inside inside most l ≡ true → l.len < most → l.len < 2 → takeable inside b ≡ true →
    lane_inside inside most (pushed l b) ≡ true
unfolding bodies lane_of
pushed_inside inside most l b h m t p = go l.len l.first l.second h m t
  where
    go :
        (k : ℕ) (x y : Body) → lane_inside inside most (lane k x y) ≡ true → k < most → k < 2 →
        lane_inside inside most (pushed (lane k x y) b) ≡ true
    go zero x y h m t = lane_one inside most b _ m p
    go (suc zero) x y h m t = lane_two inside most x b m (lane_first inside most (lane 1 x y) h (omega arith)) p
    go (suc (suc k)) x y h m t = absurd (omega arith)
