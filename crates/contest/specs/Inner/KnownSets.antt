-- The contest over sets of stations, which the functions' contracts speak of. Four sets, for one
-- station s: that at place p has the stations of which p knows that they have the broadcast of s.
-- What the contest is stands in specs/Contest.
use Rattle.std.specs.Prelude.{Bool, true, false, not, ◌||◌, List, ℕ, zero, suc, ◌+◌, ◌*◌, slice_index, set, replicate}
use Rattle.lists.specs.Below.{set_below}
use Rattle.planning_spec.specs.LinkLog.{mask_hears}
use Rattle.planning.specs.Sets.{united, with_receiver, first_set, is_full}
use Rattle.contest.specs.declared.Player.{Player}
use Rattle.contest.specs.declared.Player.TheVariants.{Keeper, Breaker}
use Rattle.contest.specs.Contest.{most_stations}
use Rattle.contest.specs.Winner.{decided}

-- the mask of station p in the set that begins at `at`
abbrev pub mask_of : List ℕ → ℕ → ℕ → ℕ
mask_of masks at p = slice_index masks (at + p)

-- the set at p after a round
unfoldable pub learnt_one : ℕ → ℕ → ℕ → List ℕ → ℕ → ℕ
learnt_one n s mask know p =
    with_receiver p s (united n (mask_hears mask p) (λ j. slice_index know j) (slice_index know p))

-- the sets after a round
unfoldable pub after : ℕ → ℕ → (ℕ → ℕ) → List ℕ → List ℕ
after n s mask know = set_below n (λ p. learnt_one n s (mask p) know p) know

-- the sets before round 1
unfoldable pub begun : ℕ → List ℕ
begun s = set (replicate most_stations 0) s (first_set s s)

-- the side that the definitions name by a Bool
abbrev pub is_keeper : Player → Bool
is_keeper Keeper = true
is_keeper Breaker = false

-- the keeper can force the end, at least one round played, with so many left
unfoldable pub wins_from : ℕ → ℕ → ℕ → List ℕ → ℕ → Bool → List ℕ → Bool
wins_from n s count masks zero keeper know = is_full n (slice_index know s)
wins_from n s count masks (suc left) keeper know =
    is_full n (slice_index know s)
    || decided keeper count (λ i. wins_from n s count masks left (not keeper) (after n s (mask_of masks (i * n)) know))

-- the keeper can force it from this first pick
unfoldable pub opening : ℕ → ℕ → ℕ → List ℕ → ℕ → ℕ → Bool
opening n s count masks left i = wins_from n s count masks left false (after n s (mask_of masks (i * n)) (begun s))
