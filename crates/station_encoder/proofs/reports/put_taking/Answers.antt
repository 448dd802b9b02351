-- `station_encoder::reports::put_taking` meets its contract: two writes, one behind the other.
use Rattle.station_encoder.proofs.ReportWriting.{taking_written}
use Rattle.station_encoder.proofs.reports.put_taking.Goals as goal

pub returns : goal.returns
returns c = taking_written _ _ c.args.taking _ _ _ c.from.ensures c.put_word.ensures c.put_body.ensures
