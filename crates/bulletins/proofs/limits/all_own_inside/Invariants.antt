use Rattle.std.proofs.Common.{◌≡◌, true}
use Rattle.lists.specs.Below.{all_below}
use Rattle.bulletins_spec.specs.State.{own_inside}
use Rattle.bulletins.proofs.limits.all_own_inside.Given as goal

abbrev pub invariant-loop-s : goal.invariant-loop-s
invariant-loop-s l = all_below l.s (own_inside l.b) ≡ true
