-- `station_calls::heard::put_entry` meets its contract: the record read, with its labels over the
-- old ones, is written.
use Rattle.std.proofs.Common.{◌∙◌}
use Rattle.listening.proofs.TakingSteps.{read_at}
use Rattle.station_calls.proofs.HeardSteps.{entry_written}
use Rattle.station_calls.proofs.heard.put_entry.Goals as goal

pub returns : goal.returns
returns c =
    entry_written _ _ c.args.k c.args.n c.args.at _ _ c.args.bytes.now _ c.requires.among c.word_at-old.ensures
    (c.read_record-seen.ensures ∙ read_at c.args.bytes.now c.args.at) c.over-labels.ensures c.put_record.ensures
