-- What `compare_into` returns and writes: the answer of the comparison as numbers
-- (air_logs_spec/specs/Compare).
use Rattle.std.specs.Prelude.{List, ℕ}
use Rattle.air_logs_spec.specs.Compare.{compare_call, refusal_of, outcome_of, position_of}
use Rattle.planning_calls.specs.Pair.{pair_returned, pair_buffer}

-- 1, 16, 9
abbrev pub compare_returned : List ℕ → ℕ → List ℕ → ℕ → List ℕ → ℕ
compare_returned first p second q buffer = pair_returned (refusal_of (compare_call first p second q)) buffer

-- the buffer afterwards: which answer it is, and its position
abbrev pub compare_buffer : List ℕ → ℕ → List ℕ → ℕ → List ℕ → List ℕ
compare_buffer first p second q buffer =
    let answer = compare_call first p second q in
    pair_buffer (refusal_of answer) (outcome_of answer) (position_of answer) buffer
