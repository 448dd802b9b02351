use Rattle.std.proofs.Common.{◌≡◌}
use Rattle.bulletins.specs.Sets.{standing_below}
use Rattle.bulletins.proofs.limits.standing.Given as goal

abbrev pub invariant-loop-s : goal.invariant-loop-s
invariant-loop-s l = l.set ≡ standing_below l.b l.s
