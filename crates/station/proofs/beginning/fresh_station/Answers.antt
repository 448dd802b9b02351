-- `station::beginning::fresh_station` meets its contract: it makes the record of the definition,
-- and its labels packed are labels over 0.
use Rattle.std.proofs.Common.{arith}
use Rattle.station_spec.specs.State.{fresh_station}
use Rattle.station_spec.proofs.Setters.{fresh_at, fresh_word}
use Rattle.station.proofs.beginning.fresh_station.Goals as goal

pub pack_over-requires : goal.pack_over-requires
pack_over-requires c = record { few = omega arith; labels = λ k l. omega (arith, fresh_at c.args.own k l) }

pub returns : goal.returns
unfolding fresh_station
returns c = rw (c.none.ensures, c.pack_over.ensures, ← fresh_word c.args.own)
