-- `station_encoder::put_edits` meets its contract: the edits before i are written.
use Rattle.std.proofs.Common.{arith}
use Rattle.station_bytes_spec.specs.Body.{body_width}
use Rattle.station_bytes_spec.proofs.Body.{length-body}
use Rattle.station_encoder.proofs.Writing.{parts_none, parts_more, edits_written}
use Rattle.station_encoder.proofs.put_edits.Goals as goal

pub loop-i-init : goal.loop-i-init
loop-i-init c = parts_none

pub loop-i-preserved : goal.loop-i-preserved
loop-i-preserved c =
    parts_more body_width (λ j. length-body _) c.loop-i.invariant (omega arith) c.put_body.auto.bytes c.put_body.ensures

pub returns : goal.returns
returns c = edits_written _ _ _ _ _ (omega arith) c.loop-i.invariant.put
