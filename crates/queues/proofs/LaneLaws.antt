-- Lanes as lists: to put a body last or to remove the oldest is the same on a lane as on the list
-- of its bodies, as long as there is room for two. A lane holds a list when these are its bodies
-- and their number is its length; the laws are cases on lists of at most two.
use mathlib.Core.Path.{◌≡◌, refl, ap, ◌∙◌}
use mathlib.Core.List.{List, [], ◌∷◌, ◌++◌}
use Prim.Native.Nat.{ℕ, zero, suc, ◌≤◌, ◌<◌, min}
use native.Mathlib.Omega.{arith}
use lib.ListN.{take, drop, length, get_or, length-take, length-append, length-drop}
use Rattle.bodies.specs.declared.Body.{Body}
use Rattle.queues.specs.declared.Lane.{Lane}
use Rattle.queues.specs.Lane.{bodies, lane_of, pushed, popped, no_lane}

-- the lane of a list
pub bodies-lane_of : (xs : List Body) → length xs ≤ 2 → bodies (lane_of xs) ≡ xs
unfolding bodies lane_of
bodies-lane_of [] h = refl
bodies-lane_of (a ∷ []) h = refl
bodies-lane_of (a ∷ b ∷ []) h = refl
bodies-lane_of (a ∷ b ∷ c ∷ xs) h = absurd (omega arith)

pub len_lane_of : (xs : List Body) → length xs ≤ 2 → (lane_of xs).len ≡ length xs
unfolding lane_of
len_lane_of [] h = refl
len_lane_of (a ∷ []) h = refl
len_lane_of (a ∷ b ∷ []) h = refl
len_lane_of (a ∷ b ∷ c ∷ xs) h = absurd (omega arith)

-- the length of a lane
pub length-bodies : (l : Lane) → length (bodies l) ≡ min l.len 2
unfolding bodies
length-bodies l = length-take l.len (l.first ∷ l.second ∷ [])

pub bodies-no_lane : bodies no_lane ≡ []
unfolding bodies
bodies-no_lane = refl

-- a body put last, and the oldest removed
pub bodies-pushed : (l : Lane) (b : Body) → l.len < 2 → bodies (pushed l b) ≡ bodies l ++ (b ∷ [])
bodies-pushed l b h = bodies-lane_of (bodies l ++ (b ∷ [])) (omega (arith, length-append (bodies l) (b ∷ []), length-bodies l))

pub len_pushed : (l : Lane) (b : Body) → l.len < 2 → (pushed l b).len ≡ suc l.len
len_pushed l b h =
    len_lane_of (bodies l ++ (b ∷ [])) (omega (arith, length-append (bodies l) (b ∷ []), length-bodies l))
    ∙ omega (arith, length-append (bodies l) (b ∷ []), length-bodies l)

pub bodies-popped : (l : Lane) → bodies (popped l) ≡ drop 1 (bodies l)
bodies-popped l = bodies-lane_of (drop 1 (bodies l)) (omega (arith, length-drop 1 (bodies l), length-bodies l))

pub len_popped : (l : Lane) → (popped l).len ≡ length (drop 1 (bodies l))
len_popped l = len_lane_of (drop 1 (bodies l)) (omega (arith, length-drop 1 (bodies l), length-bodies l))

-- the oldest
pub first_bodies : (l : Lane) (d : Body) → 0 < l.len → l.first ≡ get_or (bodies l) 0 d
unfolding bodies
first_bodies l d h = go l.len h
  where
    go : (k : ℕ) → 0 < k → l.first ≡ get_or (take k (l.first ∷ l.second ∷ [])) 0 d
    go zero h = absurd (omega arith)
    go (suc k) h = refl

-- a lane that holds a list
pub record Holds (l : Lane) (xs : List Body) : Type 0 where
  pub these : bodies l ≡ xs
  pub many : l.len ≡ length xs

pub holds_none : Holds no_lane []
holds_none = record { these = bodies-no_lane; many = refl }

pub holds_pushed : (l : Lane) (xs : List Body) (b : Body) → Holds l xs → length xs < 2 → Holds (pushed l b) (xs ++ (b ∷ []))
holds_pushed l xs b h r =
    let k : l.len < 2 = omega (arith, h.many) in
    record {
      these = bodies-pushed l b k ∙ ap (λ (ys : List Body). ys ++ (b ∷ [])) h.these;
      many = omega (arith, len_pushed l b k, h.many, length-append xs (b ∷ []));
    }

pub holds-popped : (l : Lane) (xs : List Body) → Holds l xs → Holds (popped l) (drop 1 xs)
holds-popped l xs h =
    let e : drop 1 (bodies l) ≡ drop 1 xs = ap (drop 1) h.these in
    record { these = bodies-popped l ∙ e; many = len_popped l ∙ ap length e }

pub holds_first : (l : Lane) (xs : List Body) (d : Body) → Holds l xs → 0 < length xs → l.first ≡ get_or xs 0 d
holds_first l xs d h r = first_bodies l d (omega (arith, h.many)) ∙ ap (λ (ys : List Body). get_or ys 0 d) h.these
