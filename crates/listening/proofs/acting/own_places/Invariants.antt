use Rattle.std.proofs.Common.{◌≡◌}
use Rattle.listening.specs.OwnPlaces.{places_of}
use Rattle.listening.proofs.acting.own_places.Given as goal

abbrev pub invariant-loop-r : goal.invariant-loop-r
invariant-loop-r l = l.places ≡ places_of l.bytes l.start l.initial.places l.r
