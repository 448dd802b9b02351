use Rattle.std.proofs.Common.{◌∙◌, arith}
use Rattle.bulletins_spec.specs.State.{tag_at}
use Rattle.bulletins.proofs.Ordering.{four_put}
use Rattle.bulletins.proofs.order.order_of.Goals as goal

pub loop-i-preserved : goal.loop-i-preserved
loop-i-preserved c =
    four_put (tag_at c.args.b.now) c.loop-i.i _ c.loop-i.order _ (omega arith) (omega arith) c.loop-i.invariant
    (c.copy_from_slice.ensures.after ∙ c.four_by_tag-four.ensures)
