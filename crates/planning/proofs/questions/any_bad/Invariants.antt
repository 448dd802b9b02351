use Rattle.std.proofs.Common.{◌≡◌, false}
use Rattle.lists.specs.Below.{any_below}
use Rattle.planning_spec.specs.Questions.{question_at, is_bad}
use Rattle.planning.proofs.questions.any_bad.Given as goal

abbrev pub invariant-loop-i : goal.invariant-loop-i
invariant-loop-i l = any_below l.i (λ k. is_bad l.n (question_at l.page k)) ≡ false
