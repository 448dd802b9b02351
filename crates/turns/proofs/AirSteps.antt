-- The airing step lane by lane.
use Prim.Native.Nat.{ℕ, ◌+◌}
use native.Mathlib.Omega.{arith}
use mathlib.Core.Path.{◌≡◌, ap, ◌∙◌}
use mathlib.Core.List.{List}
use lib.ListN.{get_or, set}
use Rattle.lists.specs.Below.{set_below}
use Rattle.lists.proofs.Laws.{set_below_more, set_below_above}
use Rattle.queues.specs.declared.Lane.{Lane}
use Rattle.queues.specs.declared.Slot.{Slot}
use Rattle.queues.specs.Lane.{no_lane, popped}
use Rattle.turns.specs.Lanes.{oldest_of_each}

-- the bodies of the first n lanes, and the lanes without them
abbrev pub row_from : ℕ → List Lane → List Slot
row_from n l = oldest_of_each n (λ k. get_or l k no_lane)

abbrev pub left_of : ℕ → List Lane → List Lane
left_of n l = set_below n (λ k. popped (get_or l k no_lane)) l

-- the next lane: its oldest body joins the row, and the lane without it takes its place
module _ (l left : List Lane) (k : ℕ) (e : left ≡ left_of k l) where
  next_lane : get_or left k no_lane ≡ get_or l k no_lane
  next_lane = rw e (set_below_above k (λ j. popped (get_or l j no_lane)) l k no_lane (omega arith))

  pub row_more : (row : List Slot) → row ≡ row_from k l → set row k (record { body = (get_or left k no_lane).first }) ≡ row_from (k + 1) l
  row_more row r = rw (next_lane, r) (set_below_more k _ _)

  pub left_more : (x : Lane) → x ≡ popped (get_or left k no_lane) → set left k x ≡ left_of (k + 1) l
  left_more x p = rw (p ∙ ap popped next_lane, e) (set_below_more k (λ j. popped (get_or l j no_lane)) l)
