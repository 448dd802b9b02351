-- `take_turn` meets its contract: the airing step is the definition's, and then each part of the
-- answer is.
use Rattle.std.proofs.Common.{rules, ◌≡◌, ◌∙◌, length}
use Rattle.station_spec.specs.State.{cell_of}
use Rattle.station_spec.specs.Turn.{broadcast_ends}
use Rattle.station_spec.proofs.StationLimits.{inside_open, inside_high}
use Rattle.turns.proofs.TurnSteps.{step_aired, step_row, step_left, labels_fit, turn_made}
use Rattle.turns.proofs.take_turn.Goals as goal

pub pack_over-requires : goal.pack_over-requires
unfolding cell_of
pack_over-requires c =
    let s = c.args.s.now in
    let long : length s.labels ≡ 16 = search rules in
    record {
      few = inside_high s c.requires;
      labels = labels_fit s (inside_open s c.requires) long c.all_acked-ended.result c.label_after.result c.label_after.ensures;
    }

pub returns : goal.returns
unfolding cell_of broadcast_ends
returns c =
    let s = c.args.s.now in
    let row = c.air-row.ensures.row in
    let made =
    turn_made s c.is_some.result c.all_acked-ended.result c.starts_edit-starts.result c.unwrap_or.result c.air-row.new.lanes
    c.next_edit-next_edit.result c.any_waits-waits.result c.started_body-started.result c.body_of-s.result c.body_of.result c.start_next.new.waiting c.keep_own.new.acked
    c.count_after-s.result c.label_after.result c.pack_over.result c.put.new.lane
    (c.is_some.ensures ∙ step_aired s row) c.all_acked-ended.ensures (c.unwrap_or.ensures ∙ step_row s row) (step_left s c.air-row.ensures.left)
    c.next_edit-next_edit.ensures c.any_waits-waits.ensures c.started_body-started.ensures c.starts_edit-starts.ensures c.start_next.ensures
    c.keep_own.ensures c.body_of-s.ensures c.body_of.ensures c.count_after-s.ensures c.label_after.ensures c.pack_over.ensures c.put.ensures in
    record { station = made.0; report = made.1 }
