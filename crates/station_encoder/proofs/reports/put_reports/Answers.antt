-- `station_encoder::reports::put_reports` meets its contract: the reports before k are written.
use Rattle.std.proofs.Common.{arith}
use Rattle.station_bytes_spec.specs.Reports.{report_width, encode_reports}
use Rattle.station_bytes_spec.proofs.Reports.{length-report}
use Rattle.station_encoder.proofs.Writing.{parts_none, parts_more_front, parts_all}
use Rattle.station_encoder.proofs.reports.put_reports.Goals as goal

pub loop-k-init : goal.loop-k-init
loop-k-init c = parts_none

pub loop-k-preserved : goal.loop-k-preserved
loop-k-preserved c =
    parts_more_front report_width (λ j. length-report _) c.loop-k.invariant (omega arith) c.put_report.auto.bytes c.put_report.ensures

pub returns : goal.returns
unfolding encode_reports
returns c = parts_all c.loop-k.invariant (omega arith)
