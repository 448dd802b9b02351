use Rattle.bodies.specs.Refusals.{number_of}
use Rattle.rounds.proofs.WrittenFrames.{SentBelow}
use Rattle.rounds.proofs.RoundLoop.{Listening, Turning}
use Rattle.rounds.proofs.play.Given as goal

abbrev pub invariant-loop-k : goal.invariant-loop-k
invariant-loop-k l = SentBelow l.group l.k (number_of l.judged) l.bytes

abbrev pub invariant-loop-j : goal.invariant-loop-j
invariant-loop-j l = Listening l.group l.masks l.bytes l.ears l.places l.taken l.j

abbrev pub invariant-loop-i : goal.invariant-loop-i
invariant-loop-i l =
    Turning l.initial.group l.bytes l.ears l.places l.taken l.initial.reports l.group l.reports l.i
