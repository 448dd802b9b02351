use Rattle.std.proofs.Common.{◌≡◌, ◌++◌, drop}
use Rattle.listening.specs.Listened.{takings_at}
use Rattle.listening.proofs.acting.put_takings.Given as goal

abbrev pub invariant-loop-i : goal.invariant-loop-i
invariant-loop-i l = l.takings ≡ takings_at l.bytes l.taken l.i ++ drop l.i l.initial.takings
