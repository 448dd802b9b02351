-- `station_encoder::reports::put_turn` meets its contract: three writes, and then the bodies of the
-- row before k.
use Rattle.std.proofs.Common.{arith, ◌∙◌}
use Rattle.station_bytes_spec.specs.Body.{body_width}
use Rattle.station_bytes_spec.proofs.Body.{length-body}
use Rattle.station_encoder.proofs.Writing.{flag_cast, parts_none, parts_more}
use Rattle.station_encoder.proofs.ReportWriting.{turn_written}
use Rattle.station_encoder.proofs.reports.put_turn.Goals as goal

pub loop-k-init : goal.loop-k-init
loop-k-init c = parts_none

pub loop-k-preserved : goal.loop-k-preserved
loop-k-preserved c =
    parts_more body_width (λ j. length-body _) c.loop-k.invariant (omega arith) c.put_body-in-loop-k.auto.bytes c.put_body-in-loop-k.ensures

pub returns : goal.returns
returns c =
    turn_written _ _ c.args.turn.now _ _ _ _ _ _ _ (c.from.ensures ∙ flag_cast _) (c.from-2.ensures ∙ flag_cast _) (omega arith) c.put_four.ensures c.put_body.ensures
    c.put_body-2.ensures c.loop-k.invariant.put
