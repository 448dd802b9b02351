-- `station_calls::heard::put_numbers` meets its contract: the numbers of the stations before k are
-- written.
use Rattle.std.proofs.Common.{arith, ◌∙◌}
use Rattle.station_encoder.proofs.Writing.{flag_cast}
use Rattle.station_calls.proofs.HeardLengths.{acked_long, labels_long}
use Rattle.station_calls.proofs.HeardSteps.{numbers_none, numbers_more, numbers_done}
use Rattle.station_calls.proofs.heard.put_numbers.Goals as goal

pub loop-k-init : goal.loop-k-init
loop-k-init c = numbers_none _ c.args.heard

pub loop-k-preserved : goal.loop-k-preserved
loop-k-preserved c = numbers_more _ _ c.args.heard c.loop-k.k _ (omega arith) (c.from.ensures ∙ flag_cast _) c.loop-k.invariant

pub returns : goal.returns
returns c =
    numbers_done _ _ c.args.heard c.loop-k.k (omega arith) (acked_long c.args.heard c.well_formed.1.0) (labels_long c.args.heard c.well_formed.1.0)
    c.loop-k.invariant
