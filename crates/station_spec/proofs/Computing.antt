-- All definitions that a computed run of a station goes through, and of a frame, named in one
-- place: whoever says `unfolding station_runs`, or `frame_runs`, has them open.
use Rattle.bodies.specs.Body.{body_of}
use Rattle.bodies.specs.Limits.{postable, body_inside, inside_kind, numbers_inside, channel_inside, may_wait}
use Rattle.labels.specs.Newer.{is_newer, age_of}
use Rattle.labels.specs.Packing.{label_in, packed, labels_over, labels_inside, zero_from}
use Rattle.lists.specs.Below.{all_below, any_below, set_below, filter_map, tabulate}
use Rattle.frame_spec.specs.Words.{word_at, word_bytes, signed, unsigned}
use Rattle.frame_spec.specs.Record.{record_label, record_from, record_bytes, bytes_inside, framed}
use Rattle.frame_spec.specs.Frame.{shape_wrong, address_wrong, records_inside, frame_refusal, records_of, records_bytes, frame_bytes}
use Rattle.queues.specs.Lane.{bodies, lane_of}
use Rattle.queues.specs.Queue.{empty_queue, queued, oldest, unqueued, queue_bodies, queue_inside}
use Rattle.queues.specs.Waiting.{none_waiting, queue_of, waiting_edits, desk_count, waiting_count, has_room, with_posted, first_desk, next_desk, next_edit, without_next, waiting_inside}
use Rattle.station_spec.specs.State.{cell_of, with_cell, with_acked, with_lanes, sent_records, fresh_station}
use Rattle.station_spec.specs.Limits.{station_inside, place_inside, allowed, record_inside, lane_inside}
use Rattle.station_spec.specs.Hearing.{agree, replaced, heard_newer, heard_as, hear_record, hear_records, hear_frame}
use Rattle.station_spec.specs.Turn.{airs, row_of, after_airing, broadcast_ends, started_body, begins, takes_own, after_end, own_record, with_own_record, after_turn, turn_report}
use Rattle.station_spec.specs.Calls.{posted, post_call, frame_of, hear_call, no_turn}

unfoldable pub station_runs : Unit {0}
unfolding postable body_inside inside_kind numbers_inside channel_inside may_wait is_newer age_of label_in packed labels_over labels_inside record_label all_below any_below set_below filter_map tabulate framed bodies lane_of empty_queue queued oldest unqueued queue_bodies queue_inside none_waiting queue_of waiting_edits desk_count waiting_count has_room with_posted first_desk next_desk next_edit without_next waiting_inside cell_of with_cell with_acked with_lanes sent_records fresh_station station_inside place_inside allowed record_inside lane_inside agree replaced heard_newer heard_as hear_record hear_records hear_frame airs row_of after_airing broadcast_ends started_body begins takes_own after_end own_record with_own_record after_turn turn_report posted post_call no_turn
station_runs = tt

unfoldable pub frame_runs : Unit {0}
unfolding station_runs body_of zero_from word_at word_bytes signed unsigned record_from record_bytes bytes_inside shape_wrong address_wrong records_inside frame_refusal records_of records_bytes frame_bytes frame_of hear_call
frame_runs = tt
