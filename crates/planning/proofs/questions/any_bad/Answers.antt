-- The loop keeps that no question before its counter is bad.
use Rattle.std.proofs.Common.{Bool, ℕ, ◌≡◌, ◌||◌, sym, ap, ap₂, ◌∙◌, arith}
use Rattle.lists.specs.Below.{any_below}
use Rattle.lists.proofs.Laws.{any_below_hit}
use Rattle.planning_spec.specs.Questions.{question_at, is_bad}
use Rattle.planning.proofs.QuestionPage.{bad_start, bad_more}
use Rattle.planning.proofs.questions.any_bad.Goals as goal

pub loop-i-init : goal.loop-i-init
loop-i-init c = bad_start _ _

pub loop-i-preserved : goal.loop-i-preserved
loop-i-preserved c =
    bad_more _ _ _
    ∙ ap₂ (λ (x y : Bool). x || y) c.loop-i.invariant (sym c.is_bad.ensures ∙ c.if-is_bad.false)

pub returns-then-is_bad : goal.returns-then-is_bad
unfolding question_at
returns-then-is_bad c =
    let a = c.args in
    sym (any_below_hit a.count (λ k. is_bad a.n (question_at a.page.now k)) c.loop-i.i c.loop-i-test.true
    (sym c.is_bad.ensures ∙ c.if-is_bad.true))

pub returns : goal.returns
returns c =
    let e : c.loop-i.i ≡ c.args.count = omega arith in
    sym (ap (λ (k : ℕ). any_below k (λ i. is_bad c.args.n (question_at c.args.page.now i))) (sym e) ∙ c.loop-i.invariant)
