-- `station_encoder::reports::put_report` meets its contract: the number of takings, then the
-- takings before i, then the turn.
use Rattle.std.proofs.Common.{arith, ◌∙◌}
use Rattle.station_bytes_spec.specs.Reports.{taking_width}
use Rattle.station_bytes_spec.proofs.Reports.{length-taking}
use Rattle.station_encoder.proofs.Writing.{parts_none, parts_more}
use Rattle.station_encoder.proofs.ReportWriting.{report_written}
use Rattle.station_encoder.proofs.reports.put_report.Goals as goal

pub loop-i-init : goal.loop-i-init
loop-i-init c = parts_none

pub loop-i-preserved : goal.loop-i-preserved
loop-i-preserved c =
    parts_more taking_width (λ j. length-taking _) c.loop-i.invariant (omega arith) c.put_taking.auto.bytes c.put_taking.ensures

pub returns : goal.returns
returns c =
    report_written _ _ c.args.report.now _ _ _ _ _ (c.from.ensures ∙ c.as_byte.ensures) (omega arith) c.put_word.ensures c.loop-i.invariant.put
    c.put_turn.ensures
