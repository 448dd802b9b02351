-- `station_encoder::reports::put_flags` meets its contract: the flags before k are written.
use Rattle.std.proofs.Common.{arith, ◌∙◌}
use Rattle.station_encoder.proofs.Writing.{entry_none, flag_cast}
use Rattle.station_encoder.proofs.ReportWriting.{flag_of, flag_next, flags_written}
use Rattle.station_encoder.proofs.reports.put_flags.Goals as goal

pub loop-k-init : goal.loop-k-init
loop-k-init c = entry_none _ 0 (flag_of c.args.flags)

pub loop-k-preserved : goal.loop-k-preserved
loop-k-preserved c = flag_next c.args.bytes.now _ c.args.flags _ c.loop-k.k (c.from.ensures ∙ flag_cast _) c.loop-k.invariant

pub returns : goal.returns
returns c = flags_written _ _ c.args.flags _ (omega arith) c.loop-k.invariant
