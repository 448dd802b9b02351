use Rattle.std.proofs.Common.{rules}
use Rattle.relay_listing.proofs.Parts.{reads_none}
use Rattle.relay_listing.proofs.read_input.Goals as goal

pub loop-init : goal.loop-init
loop-init g c = (search rules, search rules, rw c.begin-reader.ensures (reads_none _ _))
