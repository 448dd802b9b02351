use Rattle.std.proofs.Common.{◌≡◌, replicate}
use Rattle.lists.specs.Below.{set_below}
use Rattle.station_spec.specs.State.{alone_setup, fresh_station}
use Rattle.group.proofs.fresh_group.Given as goal

abbrev pub invariant-loop-k : goal.invariant-loop-k
invariant-loop-k l = l.group ≡ set_below l.k (fresh_station l.setup) (replicate 16 (fresh_station alone_setup 0))
