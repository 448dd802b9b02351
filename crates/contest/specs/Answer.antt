-- Document 02, A13: the call contest, and what each of its answers means.
use Rattle.std.specs.Prelude.{if◌then◌else◌, Result, Ok, Err, Option, Some, None, not, ◌&&◌, List}
use Rattle.std.specs.Prelude.{◌≡◌, ℕ, ◌/◌, ◌%◌, ◌≤◌, ◌==◌, nat_le, nat_lt, length}
use Rattle.bodies.specs.declared.refusals.Refusal.{Refusal}
use Rattle.bodies.specs.Refusals.{done, bad_number, bad_contest, number, refuse_number}
use Rattle.links.specs.Log.{cut}
use Rattle.contest.specs.Contest.{most_stations, KeeperForcesBy, BreakerForces}
use Rattle.contest.specs.Winner.{keeper_wins, first_pick}

-- 1: N is not 1 to 16, or s is not below N. 20: N is above 4; the masks are not one to four whole
-- sets; there are more than six rounds
unfoldable pub contest_refusal : ℕ → ℕ → ℕ → ℕ → ℕ
contest_refusal n s masks rounds =
    refuse_number (not (nat_le 1 n && nat_le n 16)) bad_number
    (refuse_number (nat_le n s) bad_number
    (refuse_number (nat_lt most_stations n) bad_contest
    (refuse_number (not (masks % n == 0)) bad_contest
    (refuse_number (not (nat_le 1 (masks / n) && nat_le (masks / n) 4)) bad_contest
    (refuse_number (nat_lt 6 rounds) bad_contest done)))))

-- the sets that a list of masks holds, n masks a set
abbrev pub sets_of : ℕ → List ℕ → List (List ℕ)
sets_of n masks = cut n (length masks / n) masks

-- who can force the result: the breaker, or the keeper with the lowest first pick from which it
-- still can; or why the contest is refused
pub data ContestAnswer : Type 0 where
  Refused : ℕ → ContestAnswer
  Breaker : ContestAnswer
  Keeper : ℕ → ContestAnswer

-- the answer that a result stands for: none is the breaker's
abbrev pub contest_answer : Result (Option ℕ) Refusal → ContestAnswer
contest_answer (Ok (Some pick)) = Keeper pick
contest_answer (Ok None) = Breaker
contest_answer (Err refusal) = Refused (number refusal)

-- contest: 1, 20
unfoldable pub contest_call : ℕ → ℕ → List ℕ → ℕ → ContestAnswer
contest_call n s masks rounds =
    if contest_refusal n s (length masks) rounds == done
    then (if keeper_wins n (sets_of n masks) s rounds
    then Keeper (first_pick n (sets_of n masks) s rounds) else Breaker)
    else Refused (contest_refusal n s (length masks) rounds)

-- the keeper can force the end by this first pick, and by no lower one
pub record KeepsBy (n : ℕ) (sets : List (List ℕ)) (s rounds pick : ℕ) : Type 0 where
  pub can : KeeperForcesBy n sets s rounds pick
  pub least : (i : ℕ) → KeeperForcesBy n sets s rounds i → pick ≤ i

-- what an answer means
unfoldable pub Means : ℕ → ℕ → List ℕ → ℕ → ContestAnswer → Type 0
Means n s masks rounds (Refused number) =
    (number ≡ contest_refusal n s (length masks) rounds) × (number ≡ done → ⊥)
Means n s masks rounds Breaker =
    (contest_refusal n s (length masks) rounds ≡ done) × BreakerForces n (sets_of n masks) s rounds
Means n s masks rounds (Keeper pick) =
    (contest_refusal n s (length masks) rounds ≡ done) × KeepsBy n (sets_of n masks) s rounds pick
