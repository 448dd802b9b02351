use Rattle.std.proofs.Common.{◌≡◌, get_or, length, arith, rules}
use Rattle.hearing_spec.specs.Buffer.{taking_at}
use Rattle.listening.proofs.TakingSteps.{takings_more}
use Rattle.listening.proofs.acting.put_takings.Goals as goal

pub loop-i-preserved : goal.loop-i-preserved
loop-i-preserved c =
    let bytes = c.args.bytes.now in
    let taken = c.args.taken.now in
    let i = c.loop-i.i in
    let seen = c.record_at-seen.result in
    let e : seen ≡ _ = c.record_at-seen.ensures in
    let is : record { source = seen.station; body = seen.body } ≡ taking_at bytes (get_or taken i 0) =
    λ j. record { source = (e j).station; body = (e j).body } in
    let long : length c.args.takings.now ≡ 30 = search rules in
    rw c.loop-i.invariant
    (takings_more bytes taken i (omega (arith, c.requires.few)) c.requires.long c.args.takings.now (omega (arith, long, c.requires.few)) _ is)
