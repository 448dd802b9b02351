use Rattle.std.proofs.Common.{◌≡◌, true}
use Rattle.lists.specs.Below.{all_below}
use Rattle.bulletins_spec.specs.State.{held_inside}
use Rattle.bulletins.proofs.limits.all_held_inside.Given as goal

abbrev pub invariant-loop-p : goal.invariant-loop-p
invariant-loop-p l = all_below l.p (λ q. all_below 64 (held_inside l.b q)) ≡ true
