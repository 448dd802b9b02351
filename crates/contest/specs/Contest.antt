-- Document 02, A13: the link contest. The sets are a list, numbered from 0; a set is a list of
-- masks, one a station. A play is the list of its picks, that of round 1 first.
use Rattle.std.specs.Prelude.{Bool, if◌then◌else◌, List, [], ◌∷◌, ◌++◌, ◌≡◌, ℕ, zero, suc, ◌%◌, ◌<◌}
use Rattle.std.specs.Prelude.{◌≤◌, ◌==◌, length, slice_index_or}
use Rattle.links.specs.Relay.{of_log}
use Rattle.links.specs.EndRule.{EndsIn}

-- a contest has so many stations at most
abbrev pub most_stations : ℕ
most_stations = 4

-- the log of a play: in each round the masks of the set that was picked for it
unfoldable pub log_of : List (List ℕ) → List ℕ → List (List ℕ)
log_of sets [] = []
log_of sets (pick ∷ later) = slice_index_or sets pick [] ∷ log_of sets later

-- in a play station s ends its first broadcast, the one that it started in round 0
pub record EndsFirst (n : ℕ) (sets : List (List ℕ)) (s : ℕ) (play : List ℕ) : Type 0 where
  pub round : ℕ
  pub within : round ≤ length play
  pub ends_in : EndsIn (of_log n (log_of sets play)) s 0 round

-- a strategy has a pick, one of so many sets, for every list of picks so far
pub record Strategy (count : ℕ) : Type 0 where
  pub pick : List ℕ → ℕ
  pub below : (picks : List ℕ) → pick picks < count

-- after r rounds it is the keeper who picks: it picks for round 1, round 3 and so on
abbrev pub keeper's : ℕ → Bool
keeper's r = r % 2 == 0

-- the play of two strategies over so many rounds
unfoldable pub play : {count : ℕ} → Strategy count → Strategy count → ℕ → List ℕ
play keeper breaker zero = []
play keeper breaker (suc r) =
    play keeper breaker r
    ++ ((if keeper's r then keeper.pick (play keeper breaker r) else breaker.pick (play keeper breaker r)) ∷ [])

-- the keeper can force the end: one strategy of its own reaches it against every strategy of the
-- breaker
pub record KeeperForces (n : ℕ) (sets : List (List ℕ)) (s rounds : ℕ) : Type 0 where
  pub keeper : Strategy (length sets)
  pub forces : (breaker : Strategy (length sets)) → EndsFirst n sets s (play keeper breaker rounds)

-- the same with this first pick
pub record KeeperForcesBy (n : ℕ) (sets : List (List ℕ)) (s rounds pick : ℕ) : Type 0 where
  pub way : KeeperForces n sets s rounds
  pub first : way.keeper.pick [] ≡ pick

-- the breaker can prevent it: one strategy of its own prevents it against every strategy of the
-- keeper
pub record BreakerForces (n : ℕ) (sets : List (List ℕ)) (s rounds : ℕ) : Type 0 where
  pub breaker : Strategy (length sets)
  pub forces : (keeper : Strategy (length sets)) → EndsFirst n sets s (play keeper breaker rounds) → ⊥
