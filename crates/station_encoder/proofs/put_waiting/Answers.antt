-- `station_encoder::put_waiting` meets its contract: four bytes, and then the edits of each desk,
-- one behind the other.
use Rattle.std.proofs.Common.{◌∙◌}
use Rattle.station_encoder.proofs.Writing.{flag_cast, waiting_written}
use Rattle.station_encoder.proofs.put_waiting.Goals as goal

pub returns : goal.returns
returns c =
    waiting_written _ _ c.args.waiting.now _ _ _ _ _ _ _ c.as_byte.ensures c.as_byte-2.ensures c.as_byte-3.ensures (c.from.ensures ∙ flag_cast _)
    c.put_four.ensures c.put_edits.ensures c.put_edits-2.ensures
