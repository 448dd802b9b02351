use Rattle.hearing_spec.specs.StandsFor.{notes}
use Rattle.hearing_spec.proofs.MaskLoop.{MaskInv}
use Rattle.hearing.proofs.hear_mask.Given as goal

abbrev pub invariant-loop-j : goal.invariant-loop-j
invariant-loop-j l =
    MaskInv l.own l.bytes l.mask l.initial.last (notes l.initial.places l.initial.lens l.initial.taken l.initial.ear) l.last (notes l.places l.lens l.taken l.ear) l.j
