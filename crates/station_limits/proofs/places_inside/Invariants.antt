use Rattle.std.proofs.Common.{◌≡◌, true}
use Rattle.lists.specs.Below.{all_below}
use Rattle.station_spec.specs.Limits.{place_inside}
use Rattle.station_limits.proofs.places_inside.Given as goal

abbrev pub invariant-loop-k : goal.invariant-loop-k
invariant-loop-k l = all_below l.k (place_inside l.s) ≡ true
