-- `station_calls::heard::push_taken` meets its contract: the first i takings are in their lanes.
use Rattle.std.proofs.Common.{ap, arith, slice_index, ◌∙◌}
use Rattle.frame_spec.specs.declared.Record.{Record}
use Rattle.hearing_spec.proofs.FrameLoop.{station_at}
use Rattle.listening.proofs.TakingSteps.{read_at}
use Rattle.station_calls.proofs.HeardSteps.{taken_none, taken_more, taken_done}
use Rattle.station_calls.proofs.heard.push_taken.Goals as goal

pub loop-i-init : goal.loop-i-init
loop-i-init c = taken_none _ c.args.bytes.now c.args.taken.now

pub push-requires-clause-among : goal.push-requires-clause-among
push-requires-clause-among c =
    let at = slice_index c.args.taken.now c.loop-i.i in
    let r = c.requires.takings.records c.loop-i.i c.loop-i-test.true in
    let seen = c.read_record-seen.ensures ∙ read_at c.args.bytes.now at in
    omega (arith, ap (λ (x : Record). x.station) seen ∙ station_at c.args.bytes.now at, r.station, c.requires.few)

pub loop-i-preserved : goal.loop-i-preserved
loop-i-preserved c =
    let at = slice_index c.args.taken.now c.loop-i.i in
    taken_more _ _ _ c.args.bytes.now c.args.taken.now c.loop-i.i (omega (arith, c.loop-i-test.true, c.requires.takings.few)) c.requires.takings.long _
    (c.read_record-seen.ensures ∙ read_at c.args.bytes.now at) c.loop-i.invariant c.push.ensures

pub returns : goal.returns
returns c = taken_done _ _ c.args.bytes.now c.args.taken.now c.loop-i.i c.args.len (omega arith) c.loop-i.invariant
