use Rattle.station_calls.specs.Changes.{Changes, with_taken}
use Rattle.station_calls.proofs.heard.push_taken.Given as goal

abbrev pub invariant-loop-i : goal.invariant-loop-i
invariant-loop-i l = Changes l.initial.state l.state (λ s. with_taken s l.bytes l.taken l.i)
