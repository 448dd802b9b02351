use lib.ListN.{get_or}
use Rattle.station_bytes_spec.specs.Reports.{encode_report, absent_report}
use Rattle.station_encoder.proofs.Writing.{PartsPut}
use Rattle.station_encoder.proofs.reports.put_reports.Given as goal

abbrev pub invariant-loop-k : goal.invariant-loop-k
invariant-loop-k l = PartsPut 16 (λ j. encode_report (get_or l.reports j absent_report)) l.initial.bytes 0 l.k l.bytes
