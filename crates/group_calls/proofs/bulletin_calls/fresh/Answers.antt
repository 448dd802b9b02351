-- Each return is a case of the definition: the call's refusal, no room, or the bulletins written to
-- the front.
use Rattle.std.proofs.Common.{ℕ, List}
use Rattle.bulletins_spec.specs.declared.BulletinsAnswer.{BulletinsAnswer}
use Rattle.bulletin_bytes.specs.Bulletins.{bulletins_width, encode_bulletins}
use Rattle.bulletin_bytes.proofs.Bulletins.{length_bulletins}
use Rattle.station_calls.proofs.Returns.{fresh_refused, fresh_short, fresh_done}
use Rattle.group_calls.specs.Bulletins.{bulletins_fresh_returned}
use Rattle.group_calls.proofs.bulletin_calls.fresh.Goals as goal

abbrev refusal : BulletinsAnswer → ℕ
refusal x = x.refusal

abbrev encoded : BulletinsAnswer → List ℕ
encoded x = encode_bulletins x.bulletins

pub returns-then-made-ne-DONE : goal.returns-then-made-ne-DONE
unfolding bulletins_fresh_returned
returns-then-made-ne-DONE c =
    let h = fresh_refused refusal encoded _ _ c.fresh-made.ensures bulletins_width _ c.if-made-ne-DONE.true in
    record { returned = h.0; written = h.1 }

pub returns-then-state-lt-BULLETINS_WIDTH : goal.returns-then-state-lt-BULLETINS_WIDTH
unfolding bulletins_fresh_returned
returns-then-state-lt-BULLETINS_WIDTH c =
    let h =
    fresh_short refusal encoded _ _ c.fresh-made.ensures bulletins_width _ c.if-made-ne-DONE.false c.if-state-lt-BULLETINS_WIDTH.true _ c.number.ensures in
    record { returned = h.0; written = h.1 }

pub returns : goal.returns
unfolding bulletins_fresh_returned
returns c =
    let h =
    fresh_done refusal encoded _ _ c.fresh-made.ensures bulletins_width _ c.if-made-ne-DONE.false c.if-state-lt-BULLETINS_WIDTH.false
    (length_bulletins _) _ c.put_bulletins.ensures in
    record { returned = h.0; written = h.1 }
