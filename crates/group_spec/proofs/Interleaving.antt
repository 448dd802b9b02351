-- Posts of two desks at one station: where each post is of desk 0 or 1, the bodies at the station
-- are those of the one desk and those of the other, each in its order, and so many.
use Prim.Native.Nat.{ℕ, zero, suc, ◌+◌}
use mathlib.Core.Bool.{Bool, true, false, cond, ◌&&◌}
use mathlib.Core.List.{List, [], ◌∷◌, ◌++◌}
use mathlib.Core.Path.{◌≡◌, refl}
use native.Mathlib.Omega.{arith}
use lib.Dec.{eqb}
use lib.ListN.{length}
use Rattle.bodies.specs.declared.Body.{Body}
use Rattle.lists.specs.Below.{filter_map}
use Rattle.queues.specs.Waiting.{is_desk}
use Rattle.queues.proofs.WaitingLaws.{each_desk}
use Rattle.group_spec.specs.declared.Post.{Post}
use Rattle.group_spec.specs.History.{posts_at, posts_of}
use Rattle.group_spec.specs.Desks.{Interleaved, Interleaved.none, Interleaved.first, Interleaved.second}

-- each post is of a desk
unfoldable pub EachDesk : List Post → Type 0
EachDesk [] = Unit {0}
EachDesk (x ∷ xs) = (is_desk x.desk ≡ true) × EachDesk xs

pub desks_none : EachDesk []
unfolding EachDesk
desks_none = tt

pub desks_one : (t : Bool) (x : Post) → (t ≡ true → is_desk x.desk ≡ true) → EachDesk (cond t (x ∷ []) [])
unfolding EachDesk
desks_one true x h = (h refl, tt)
desks_one false x h = tt

pub desks_append : (xs ys : List Post) → EachDesk xs → EachDesk ys → EachDesk (xs ++ ys)
unfolding EachDesk
desks_append [] ys h k = k
desks_append (x ∷ xs) ys h k = (h.0, desks_append xs ys h.1 k)

pub desks_filter_map : (m : ℕ) (test : ℕ → Bool) (f : ℕ → Post) → ((k : ℕ) → is_desk (f k).desk ≡ true) → EachDesk (filter_map m test f)
unfolding filter_map
desks_filter_map zero test f h = desks_none
desks_filter_map (suc m) test f h =
    desks_append (filter_map m test f) (cond (test m) (f m ∷ []) []) (desks_filter_map m test f h) (desks_one (test m) (f m) (λ e. h m))

pub interleave : (p : ℕ) (xs : List Post) → EachDesk xs → Interleaved (posts_of p 0 xs) (posts_of p 1 xs) (posts_at p xs)
unfolding EachDesk posts_of posts_at
interleave p [] h = none
interleave p (x ∷ xs) h = here (interleave p xs h.1) (eqb x.station p)
  where
    here :
        Interleaved (posts_of p 0 xs) (posts_of p 1 xs) (posts_at p xs) → (t : Bool) →
        Interleaved (cond (t && eqb x.desk 0) (x.body ∷ []) [] ++ posts_of p 0 xs) (cond (t && eqb x.desk 1) (x.body ∷ []) [] ++ posts_of p 1 xs)
        (cond t (x.body ∷ []) [] ++ posts_at p xs)
    here rest true =
        each_desk
        (λ d.
        Interleaved (cond (eqb d 0) (x.body ∷ []) [] ++ posts_of p 0 xs) (cond (eqb d 1) (x.body ∷ []) [] ++ posts_of p 1 xs) (x.body ∷ posts_at p xs))
        (first x.body (posts_of p 0 xs) (posts_of p 1 xs) (posts_at p xs) rest)
        (second x.body (posts_of p 0 xs) (posts_of p 1 xs) (posts_at p xs) rest)
        x.desk
        h.0
    here rest false = rest

pub interleaved-length : (xs ys zs : List Body) → Interleaved xs ys zs → length zs ≡ length xs + length ys
interleaved-length xs ys zs none = refl
interleaved-length xs ys zs (first x us vs ws h) = omega (arith, interleaved-length us vs ws h)
interleaved-length xs ys zs (second y us vs ws h) = omega (arith, interleaved-length us vs ws h)
