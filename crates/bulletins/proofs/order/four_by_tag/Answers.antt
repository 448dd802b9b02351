use Rattle.std.proofs.Common.{◌+◌, ◌*◌}
use Rattle.bulletins_spec.specs.State.{tag_at}
use Rattle.bulletins.proofs.Ordering.{four_sorted}
use Rattle.bulletins.proofs.order.four_by_tag.Goals as goal

pub returns : goal.returns
returns c =
    let first = 4 * c.args.issuer in
    four_sorted (tag_at c.args.b.now) first (first + 1) (first + 2) (first + 3) _ _ _ _ _ _
    c.order_two.ensures.ordered c.order_two-2.ensures.ordered c.order_two-3.ensures.ordered
    c.order_two-4.ensures.ordered c.order_two-5.ensures.ordered c.order_two-6.ensures.ordered
