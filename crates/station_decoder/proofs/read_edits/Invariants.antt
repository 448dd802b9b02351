use Rattle.std.proofs.Common.{◌≡◌, replicate}
use Rattle.lists.specs.Below.{set_below}
use Rattle.queues.specs.Queue.{no_slot}
use Rattle.station_decoder.proofs.Reading.{edit_in}
use Rattle.station_decoder.proofs.read_edits.Given as goal

abbrev pub invariant-loop-i : goal.invariant-loop-i
invariant-loop-i l = l.slots ≡ set_below l.i (edit_in l.bytes l.at) (replicate 32 no_slot)
