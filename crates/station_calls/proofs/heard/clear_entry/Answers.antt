-- `station_calls::heard::clear_entry` meets its contract.
use Rattle.station_calls.proofs.HeardSteps.{entry_cleared}
use Rattle.station_calls.proofs.heard.clear_entry.Goals as goal

pub returns : goal.returns
returns c = entry_cleared _ c.args.k c.requires.among
