-- All of a page's replies after the last round are the answers of the definition.
use mathlib.Core.List.{List}
use mathlib.Core.Path.{◌≡◌}
use Prim.Native.Nat.{ℕ}
use Rattle.planning_spec.specs.Arrival.{Arrival}
use Rattle.planning_spec.specs.LinkLog.{rounds_of, links_of}
use Rattle.planning_spec.specs.Questions.{PageAnswer, question_count, questions_refusal, answer_to, questions_call}
use Rattle.planning_spec.proofs.Questions.{call_is}
use Rattle.planning.specs.Replies.{Replied}

pub page_answered : (n : ℕ) (log page : List ℕ) (replies : List Arrival) → questions_refusal n log page ≡ 0
    → Replied (links_of n log) (rounds_of n log) (question_count page) page replies
    → ◌≡◌ {A = PageAnswer} (record { refusal = 0; answers = replies }) (questions_call n log page)
unfolding answer_to
page_answered n log page replies e p = call_is n log page e replies p.size p.each (λ i h l. p.rest i h)
