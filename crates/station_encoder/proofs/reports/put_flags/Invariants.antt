use Rattle.std.proofs.Common.{◌≡◌}
use lib.Seq.{sets}
use Rattle.lists.specs.Below.{tabulate}
use Rattle.station_encoder.proofs.ReportWriting.{flag_of}
use Rattle.station_encoder.proofs.reports.put_flags.Given as goal

abbrev pub invariant-loop-k : goal.invariant-loop-k
invariant-loop-k l = l.bytes ≡ sets l.initial.bytes 0 (tabulate l.k (flag_of l.flags))
