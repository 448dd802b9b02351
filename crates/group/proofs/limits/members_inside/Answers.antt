use Rattle.std.proofs.Common.{sym, ◌∙◌, arith}
use Rattle.lists.proofs.Laws.{all_below_fails}
use Rattle.group.proofs.limits.members_inside.Goals as goal

pub returns-then-not-member_inside : goal.returns-then-not-member_inside
returns-then-not-member_inside c =
    sym (all_below_fails _ _ c.loop-k.k (omega arith) (sym c.member_inside.ensures ∙ c.if-not-member_inside.true))
