use Prim.Native.Nat.{◌+◌}
use lib.ListN.{get_or}
use Rattle.station_spec.specs.Hearing.{no_taking}
use Rattle.station_bytes_spec.specs.Reports.{encode_taking}
use Rattle.station_encoder.proofs.Writing.{PartsPut}
use Rattle.station_encoder.proofs.reports.put_report.Given as goal

abbrev pub invariant-loop-i : goal.invariant-loop-i
invariant-loop-i l = PartsPut 30 (λ j. encode_taking (get_or l.report.takings j no_taking)) l.initial.bytes (l.at + 4) l.i l.bytes
