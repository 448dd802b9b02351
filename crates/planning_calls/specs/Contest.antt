-- What `contest_into` returns and writes: the answer of the contest as numbers.
use Rattle.std.specs.Prelude.{List, ℕ}
use Rattle.bodies.specs.Refusals.{done}
use Rattle.contest.specs.Answer.{ContestAnswer, Refused, Breaker, Keeper, contest_call}
use Rattle.planning_calls.specs.Pair.{pair_returned, pair_buffer}

-- an answer's refusal, or 0
unfoldable pub answer_refusal : ContestAnswer → ℕ
answer_refusal (Refused number) = number
answer_refusal Breaker = done
answer_refusal (Keeper pick) = done

-- who can force the result: 0 the breaker, 1 the keeper
unfoldable pub answer_winner : ContestAnswer → ℕ
answer_winner (Refused number) = 0
answer_winner Breaker = 0
answer_winner (Keeper pick) = 1

-- the keeper's first pick, 0 where there is none
unfoldable pub answer_pick : ContestAnswer → ℕ
answer_pick (Refused number) = 0
answer_pick Breaker = 0
answer_pick (Keeper pick) = pick

-- 1, 20, 9
abbrev pub contest_returned : ℕ → ℕ → List ℕ → ℕ → List ℕ → ℕ
contest_returned n s masks rounds buffer = pair_returned (answer_refusal (contest_call n s masks rounds)) buffer

-- the buffer afterwards: the winner, and its pick
abbrev pub contest_buffer : ℕ → ℕ → List ℕ → ℕ → List ℕ → List ℕ
contest_buffer n s masks rounds buffer =
    let answer = contest_call n s masks rounds in
    pair_buffer (answer_refusal answer) (answer_winner answer) (answer_pick answer) buffer
