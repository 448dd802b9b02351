use Rattle.std.proofs.Common.{◌≡◌, ◌++◌, ◌-◌, ◌*◌, replicate}
use Rattle.bulletins_spec.specs.State.{tag_at}
use Rattle.bulletins_spec.specs.Order.{in_order}
use Rattle.bulletins.proofs.order.order_of.Given as goal

abbrev pub invariant-loop-i : goal.invariant-loop-i
invariant-loop-i l = l.order ≡ in_order (tag_at l.b) l.i ++ replicate (64 - 4 * l.i) 0
