use Rattle.std.proofs.Common.{◌≡◌}
use Rattle.lists.specs.Below.{set_below}
use Rattle.bulletins_spec.specs.Calls.{set_after}
use Rattle.bulletins.proofs.sets.held_after.Given as goal

abbrev pub invariant-loop-p : goal.invariant-loop-p
invariant-loop-p l = l.after ≡ set_below l.p (set_after l.b l.masks) l.b.held
