use Rattle.hearing_spec.specs.StandsFor.{notes}
use Rattle.hearing_spec.proofs.FrameLoop.{FrameInv}
use Rattle.hearing.proofs.hear_frame.Given as goal

abbrev pub invariant-loop-r : goal.invariant-loop-r
invariant-loop-r l =
    FrameInv l.own l.bytes l.start l.initial.last (notes l.initial.places l.initial.lens l.initial.taken l.initial.ear) l.last (notes l.places l.lens l.taken l.ear) l.r
