-- Each return is a case of the definition: no group, the group's refusal, or the group written over
-- its bytes.
use Rattle.std.proofs.Common.{sym, ap, arith, ◌∙◌, ℤ}
use mir.Syntax.{w32}
use mir.ValLaws.{to_z-of_z}
use Rattle.group_spec.specs.Calls.{group_post_call}
use Rattle.station_bytes_spec.proofs.Group.{length_group}
use Rattle.station_calls.specs.Station.{named_body}
use Rattle.station_calls.proofs.Returns.{not_judged, over_refused, over_done}
use Rattle.group_calls.specs.Group.{group_post_returned}
use Rattle.group_calls.proofs.Group.{refusal, encoded, group_long}
use Rattle.group_calls.proofs.post.Goals as goal

pub returns-then-not-is_group : goal.returns-then-not-is_group
unfolding group_post_returned
returns-then-not-is_group c =
    let h = not_judged _ (sym c.is_group.ensures ∙ c.if-not-is_group.true) _ c.number.ensures _ _ _ in
    record { returned = h.0; written = h.1 }

pub read_group-stations-requires : goal.read_group-stations-requires
read_group-stations-requires c = omega (arith, group_long _ (sym c.is_group.ensures ∙ c.if-not-is_group.false))

pub returns-then-kept-ne-DONE : goal.returns-then-kept-ne-DONE
unfolding group_post_returned
returns-then-kept-ne-DONE c =
    let s = c.args in
    let named = c.named_body.ensures ∙ ap (λ (y : ℤ). named_body s.kind s.event y s.channel) (to_z-of_z w32 s.argument c.ranges.argument) in
    let answered =
    c.post-kept.ensures ∙ (λ i. group_post_call (c.read_group-stations.ensures i) (record { station = s.station; desk = s.desk; body = named i })) in
    let h = over_refused refusal encoded _ _ answered _ (sym c.is_group.ensures ∙ c.if-not-is_group.false) _ c.if-kept-ne-DONE.true in
    record { returned = h.0; written = h.1 }

pub put_group-requires : goal.put_group-requires
put_group-requires c = omega (arith, group_long _ (sym c.is_group.ensures ∙ c.if-not-is_group.false))

pub returns : goal.returns
unfolding group_post_returned
returns c =
    let s = c.args in
    let named = c.named_body.ensures ∙ ap (λ (y : ℤ). named_body s.kind s.event y s.channel) (to_z-of_z w32 s.argument c.ranges.argument) in
    let answered =
    c.post-kept.ensures ∙ (λ i. group_post_call (c.read_group-stations.ensures i) (record { station = s.station; desk = s.desk; body = named i })) in
    let judged = sym c.is_group.ensures ∙ c.if-not-is_group.false in
    let h = over_done refusal encoded _ _ answered _ judged _ c.if-kept-ne-DONE.false (length_group _ ∙ sym (group_long _ judged)) _ c.put_group.ensures in
    record { returned = h.0; written = h.1 }
