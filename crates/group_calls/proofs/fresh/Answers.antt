-- Each return is a case of the definition: the group's refusal, no room, or the group at the front.
use Rattle.station_bytes_spec.specs.Group.{group_width}
use Rattle.station_bytes_spec.proofs.Group.{length_group}
use Rattle.station_calls.proofs.Returns.{fresh_refused, fresh_short, fresh_done}
use Rattle.group_calls.specs.Group.{group_fresh_returned}
use Rattle.group_calls.proofs.Group.{refusal, encoded}
use Rattle.group_calls.proofs.fresh.Goals as goal

pub returns-then-made-ne-DONE : goal.returns-then-made-ne-DONE
unfolding group_fresh_returned
returns-then-made-ne-DONE c =
    let h = fresh_refused refusal encoded _ _ c.fresh_limited-made.ensures group_width _ c.if-made-ne-DONE.true in
    record { returned = h.0; written = h.1 }

pub returns-then-state-lt-GROUP_WIDTH : goal.returns-then-state-lt-GROUP_WIDTH
unfolding group_fresh_returned
returns-then-state-lt-GROUP_WIDTH c =
    let h = fresh_short refusal encoded _ _ c.fresh_limited-made.ensures group_width _ c.if-made-ne-DONE.false c.if-state-lt-GROUP_WIDTH.true _ c.number.ensures in
    record { returned = h.0; written = h.1 }

pub returns : goal.returns
unfolding group_fresh_returned
returns c =
    let h = fresh_done refusal encoded _ _ c.fresh_limited-made.ensures group_width _ c.if-made-ne-DONE.false c.if-state-lt-GROUP_WIDTH.false (length_group _) _ c.put_group.ensures in
    record { returned = h.0; written = h.1 }
