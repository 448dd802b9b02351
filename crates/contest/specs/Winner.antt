-- Document 02, A13: which side can force the result, by recursion on the rounds left.
-- `answer_means` (proofs/Meaning) says what the answer made of it means by strategies.
use Rattle.std.specs.Prelude.{Bool, if◌then◌else◌, List, [], ◌∷◌, ◌++◌, ℕ, zero, suc, ◌-◌, nat_lt, length}
use Rattle.lists.specs.Below.{all_below, any_below}
use Rattle.links.specs.Relay.{of_log}
use Rattle.links.specs.Inner.Number.{num}
use Rattle.contest.specs.Contest.{log_of, keeper's}

-- some pick will do where the keeper picks, every pick must where the breaker does
unfoldable pub decided : Bool → ℕ → (ℕ → Bool) → Bool
decided keeper count test = if keeper then any_below count test else all_below count test

-- after these picks, with so many rounds left, the keeper can still reach a play that is won
unfoldable pub still : (List ℕ → Bool) → ℕ → ℕ → List ℕ → Bool
still won count zero picks = won picks
still won count (suc left) picks =
    decided (keeper's (length picks)) count (λ i. still won count left (picks ++ (i ∷ [])))

-- the lowest of n numbers from `at` on that meets the test; at + n where none does
unfoldable pub lowest : ℕ → ℕ → (ℕ → Bool) → ℕ
lowest zero at test = at
lowest (suc n) at test = if test at then at else lowest n (suc at) test

-- after a play s is beyond its first broadcast
unfoldable pub won : ℕ → List (List ℕ) → ℕ → List ℕ → Bool
won n sets s picks = nat_lt 1 (num (of_log n (log_of sets picks)) (length picks) s)

-- the keeper can force the end in so many rounds
unfoldable pub keeper_wins : ℕ → List (List ℕ) → ℕ → ℕ → Bool
keeper_wins n sets s rounds = still (won n sets s) (length sets) rounds []

-- its lowest first pick; the number of sets where there is none
unfoldable pub first_pick : ℕ → List (List ℕ) → ℕ → ℕ → ℕ
first_pick n sets s rounds =
    lowest (length sets) 0 (λ i. still (won n sets s) (length sets) (rounds - 1) (i ∷ []))
