-- `station_decoder::read_edits` meets its contract: all bytes are 0, or the edits before i are
-- read.
use Rattle.std.proofs.Common.{arith, replicate}
use Rattle.queues.specs.Queue.{no_slot}
use Rattle.station_decoder.proofs.Reading.{set_below_none, set_below_next, edit_in, edits_read}
use Rattle.station_decoder.proofs.Zeros.{zeros_read}
use Rattle.station_decoder.proofs.read_edits.Goals as goal

pub returns-then-all_zero : goal.returns-then-all_zero
returns-then-all_zero c = zeros_read _ _ (c.all_zero.ensures c.if-all_zero.true)

pub loop-i-init : goal.loop-i-init
loop-i-init c = set_below_none _ _

pub loop-i-preserved : goal.loop-i-preserved
loop-i-preserved c =
    set_below_next c.loop-i.i (edit_in c.args.bytes.now c.args.at) (replicate 32 no_slot) _ _ c.loop-i.invariant
    (λ j. record { body = c.read_body.ensures j })

pub returns : goal.returns
returns c = edits_read _ _ _ _ (omega arith) c.loop-i.invariant
