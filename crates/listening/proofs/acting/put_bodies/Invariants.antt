use Rattle.std.proofs.Common.{◌≡◌}
use Rattle.hearing_spec.specs.Gathered.{pushed_all}
use Rattle.listening.specs.Listened.{takings_at}
use Rattle.listening.proofs.acting.put_bodies.Given as goal

abbrev pub invariant-loop-i : goal.invariant-loop-i
invariant-loop-i l = l.lanes ≡ pushed_all l.initial.lanes (takings_at l.bytes l.taken l.i)
