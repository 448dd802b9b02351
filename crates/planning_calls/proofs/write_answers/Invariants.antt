use Rattle.std.proofs.Common.{◌≡◌, get_or}
use Rattle.lists.specs.Below.{set_below}
use Rattle.planning_spec.specs.Questions.{never, arrival_number}
use Rattle.planning_calls.proofs.write_answers.Given as goal

abbrev pub invariant-loop-i : goal.invariant-loop-i
invariant-loop-i l = l.buffer ≡ set_below l.i (λ k. arrival_number (get_or l.answers k never)) l.initial.buffer
