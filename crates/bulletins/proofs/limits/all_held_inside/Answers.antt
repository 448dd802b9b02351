use Rattle.std.proofs.Common.{sym, ◌∙◌, arith}
use Rattle.lists.specs.Below.{all_below}
use Rattle.lists.proofs.Laws.{all_below_fails, all_below_more}
use Rattle.bulletins_spec.specs.State.{held_inside}
use Rattle.bulletins.proofs.Subsets.{held_judged}
use Rattle.bulletins.proofs.limits.all_held_inside.Goals as goal

pub returns-then-not-within : goal.returns-then-not-within
returns-then-not-within c =
    let b = c.args.b.now in
    let p = c.loop-p.p in
    sym
    (all_below_fails b.n (λ q. all_below 64 (held_inside b q)) p (omega arith)
    (sym (held_judged b p _ c.standing-all.ensures) ∙ sym c.within.ensures ∙ c.if-not-within.true))

pub loop-p-preserved : goal.loop-p-preserved
loop-p-preserved c =
    let b = c.args.b.now in
    let p = c.loop-p.p in
    all_below_more p (λ q. all_below 64 (held_inside b q)) c.loop-p.invariant
    (sym (held_judged b p _ c.standing-all.ensures) ∙ sym c.within.ensures ∙ c.if-not-within.false)
