use Rattle.std.proofs.Common.{sym, ◌∙◌, ◌*◌, arith}
use Rattle.lists.proofs.Laws.{all_below_fails}
use Rattle.bulletins_spec.specs.State.{own_inside}
use Rattle.bulletins.proofs.limits.all_own_inside.Goals as goal

pub returns-then-not-own_inside : goal.returns-then-not-own_inside
returns-then-not-own_inside c =
    let b = c.args.b.now in
    sym (all_below_fails (4 * b.n) (own_inside b) c.loop-s.s (omega arith) (sym c.own_inside.ensures ∙ c.if-not-own_inside.true))
