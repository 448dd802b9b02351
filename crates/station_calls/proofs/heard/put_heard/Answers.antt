-- `station_calls::heard::put_heard` meets its contract: the records, the numbers and the takings
-- one after the other make what is acted on.
use Rattle.std.proofs.Common.{arith}
use Rattle.station_calls.proofs.HeardLengths.{acked_long, labels_long}
use Rattle.station_calls.proofs.HeardSteps.{heard_put}
use Rattle.station_calls.proofs.heard.put_heard.Goals as goal

pub put_entries-requires : goal.put_entries-requires
put_entries-requires c =
    let p = c.requires in
    record {
      room = p.room;
      few = omega (arith, p.size, p.readable.high);
      long = p.readable.places_long;
      whole = λ k l. p.readable.places_in k (omega (arith, p.size));
    }

pub returns : goal.returns
returns c =
    heard_put c.args.n _ _ _ _ c.args.bytes.now c.args.places.now c.args.taken.now c.args.heard (acked_long c.args.heard c.well_formed.1.0)
    (labels_long c.args.heard c.well_formed.1.0) c.put_entries.ensures c.put_numbers.ensures c.push_taken.ensures
