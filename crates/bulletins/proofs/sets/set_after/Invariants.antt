use Rattle.std.proofs.Common.{◌≡◌}
use Rattle.links.specs.Log.{hears_in}
use Rattle.planning.specs.Sets.{united}
use Rattle.bulletins_spec.specs.State.{set_of}
use Rattle.bulletins.proofs.sets.set_after.Given as goal

abbrev pub invariant-loop-j : goal.invariant-loop-j
invariant-loop-j l = l.set ≡ united l.j (hears_in l.b.n l.masks l.p) (set_of l.b) (set_of l.b l.p)
