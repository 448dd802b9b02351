use Rattle.std.proofs.Common.{◌∙◌, ap, get_or, set, arith, refl}
use Rattle.frame_spec.specs.declared.Record.{Record}
use Rattle.queues.specs.Lane.{no_lane, pushed}
use Rattle.hearing_spec.specs.Gathered.{pushed_all}
use Rattle.hearing_spec.proofs.FrameLoop.{station_at}
use Rattle.listening.specs.Listened.{takings_at}
use Rattle.listening.proofs.TakingSteps.{filled_more}
use Rattle.listening.proofs.acting.put_bodies.Goals as goal

pub loop-i-init : goal.loop-i-init
unfolding pushed_all
loop-i-init c = refl

pub bounds-lanes-seen : goal.bounds-lanes-seen
bounds-lanes-seen c =
    let at = get_or c.args.taken.now c.loop-i.i 0 in
    let seen = c.record_at-seen.ensures in
    let h = c.requires.taken.records c.loop-i.i (omega arith) in
    omega (arith, ap (λ (r : Record). r.station) seen ∙ station_at c.args.bytes.now at, h.station, c.requires.high)

pub loop-i-preserved : goal.loop-i-preserved
loop-i-preserved c =
    let bytes = c.args.bytes.now in
    let taken = c.args.taken.now in
    let i = c.loop-i.i in
    let v = c.loop-i.invariant in
    let seen = c.record_at-seen.ensures in
    let full = pushed_all c.args.lanes.now (takings_at bytes taken i) in
    (λ j. set (v j) c.record_at-seen.result.station (c.push.ensures j))
    ∙ (λ j. set full (seen j).station (pushed (get_or (v j) (seen j).station no_lane) (seen j).body))
    ∙ filled_more bytes taken i (omega (arith, c.requires.taken.few)) c.requires.taken.long c.args.lanes.now
