-- Each return is a case of the definition: no group, the group's refusal, too few masks, no room,
-- or both buffers written.
use Rattle.std.proofs.Common.{ℕ, List, sym, ap, arith, ◌∙◌}
use Rattle.group_spec.specs.declared.RoundDone.{RoundDone}
use Rattle.group_spec.specs.Calls.{round_call}
use Rattle.station_bytes_spec.specs.Group.{encode_group}
use Rattle.station_bytes_spec.specs.Reports.{reports_width, encode_reports}
use Rattle.station_bytes_spec.proofs.Group.{length_group}
use Rattle.station_bytes_spec.proofs.Reports.{length_reports}
use Rattle.station_calls.proofs.Refusals.{first_refused, first_done, no_room, room, short_is_9}
use Rattle.station_calls.proofs.Returns.{not_judged_both, both_refused, both_short, both_done}
use Rattle.group_calls.specs.Group.{round_answer, round_returned}
use Rattle.group_calls.proofs.Group.{group_long}
use Rattle.group_calls.proofs.RoundRefusals.{round_small}
use Rattle.group_calls.proofs.round.Goals as goal

abbrev refusal : RoundDone → ℕ
refusal x = x.refusal

abbrev encoded : RoundDone → List ℕ
encoded x = encode_group x.group

abbrev report : RoundDone → List ℕ
report x = encode_reports x.reports

pub returns-then-not-is_group : goal.returns-then-not-is_group
unfolding round_returned
returns-then-not-is_group c =
    let h = not_judged_both _ (sym c.is_group.ensures ∙ c.if-not-is_group.true) _ c.number.ensures _ _ _ _ _ in
    record { returned = h.0; written = h.1; reports = h.2 }

pub read_group-stations-requires : goal.read_group-stations-requires
read_group-stations-requires c = omega (arith, group_long _ (sym c.is_group.ensures ∙ c.if-not-is_group.false))

pub overflow_cast-refusal : goal.overflow_cast-refusal
overflow_cast-refusal c =
    let small = round_small c.read_group-stations.result c.sixteen_masks-sixteen.result in
    record { fits = omega (arith, small, ap (λ (x : RoundDone). x.refusal) c.round-done.ensures) }

pub returns-then-refusal-ne-DONE : goal.returns-then-refusal-ne-DONE
unfolding round_returned
returns-then-refusal-ne-DONE c =
    let answered = c.round-done.ensures ∙ (λ i. round_call (c.read_group-stations.ensures i) (c.sixteen_masks-sixteen.ensures i)) in
    let h = both_refused refusal encoded _ _ answered _ (sym c.is_group.ensures ∙ c.if-not-is_group.false) _ report _ _ c.if-refusal-ne-DONE.true in
    record { returned = h.0; written = h.1; reports = h.2 }

pub returns-then-masks-lt16 : goal.returns-then-masks-lt16
unfolding round_returned
returns-then-masks-lt16 c =
    let answered = c.round-done.ensures ∙ (λ i. round_call (c.read_group-stations.ensures i) (c.sixteen_masks-sixteen.ensures i)) in
    let short = no_room 16 c.args.masks.now c.if-masks-lt16.true in
    let rest = short ∙ first_refused _ _ (λ e. short_is_9 (short ∙ e)) in
    let h = both_short refusal encoded _ _ answered _ (sym c.is_group.ensures ∙ c.if-not-is_group.false) _ report _ _ c.if-refusal-ne-DONE.false rest _ c.number-then-masks-lt16.ensures in
    record { returned = h.0; written = h.1; reports = h.2 }

pub returns-then-reports-lt-REPORTS_WIDTH : goal.returns-then-reports-lt-REPORTS_WIDTH
unfolding round_returned
returns-then-reports-lt-REPORTS_WIDTH c =
    let answered = c.round-done.ensures ∙ (λ i. round_call (c.read_group-stations.ensures i) (c.sixteen_masks-sixteen.ensures i)) in
    let rest = no_room reports_width c.args.reports.now c.if-reports-lt-REPORTS_WIDTH.true ∙ first_done _ _ (sym (room 16 c.args.masks.now c.if-masks-lt16.false)) in
    let h =
    both_short refusal encoded _ _ answered _ (sym c.is_group.ensures ∙ c.if-not-is_group.false) _ report _ _ c.if-refusal-ne-DONE.false rest _
    c.number-then-reports-lt-REPORTS_WIDTH.ensures in
    record { returned = h.0; written = h.1; reports = h.2 }

pub put_group-requires : goal.put_group-requires
put_group-requires c = omega (arith, group_long _ (sym c.is_group.ensures ∙ c.if-not-is_group.false))

pub returns : goal.returns
unfolding round_returned
returns c =
    let answered = c.round-done.ensures ∙ (λ i. round_call (c.read_group-stations.ensures i) (c.sixteen_masks-sixteen.ensures i)) in
    let judged = sym c.is_group.ensures ∙ c.if-not-is_group.false in
    let enough = c.if-reports-lt-REPORTS_WIDTH.false in
    let rest = room reports_width c.args.reports.now enough ∙ first_done _ _ (sym (room 16 c.args.masks.now c.if-masks-lt16.false)) in
    let h =
    both_done refusal encoded _ _ answered _ judged _ report _ _ c.if-refusal-ne-DONE.false rest (length_group _ ∙ sym (group_long _ judged))
    (omega (arith, length_reports (round_answer c.args.state.now c.args.masks.now).reports, enough)) _ _ c.put_group.ensures c.put_reports.ensures in
    record { returned = h.0; written = h.1; reports = h.2 }
