use Rattle.std.proofs.Common.{◌≡◌, true}
use Rattle.lists.specs.Below.{all_below}
use Rattle.group_spec.specs.State.{member_inside}
use Rattle.group.proofs.limits.members_inside.Given as goal

abbrev pub invariant-loop-k : goal.invariant-loop-k
invariant-loop-k l = all_below l.k (member_inside l.g) ≡ true
