-- Document 01, "A station and its calls" and "Turned down": the open calls, each with its refusals
-- in their order.
use Rattle.std.specs.Prelude.{ℕ, Bool, true, false, cond, not, List, [], ◌∷◌, ◌++◌, set, replicate, length, drop}
use Rattle.std.specs.Prelude.{ltb, eqb}
use Rattle.bodies.specs.declared.Body.{Body}
use Rattle.bodies.specs.declared.Body.TheVariants.{Empty}
use Rattle.bodies.specs.Limits.{is_edition, postable, on_channel}
use Rattle.bodies.specs.Refusals.{done, bad_number, bad_limit, outside_limits, queue_full, not_an_edit}
use Rattle.bodies.specs.Refusals.{bad_desk, bad_edition, short_buffer, count_too_high, refuse_number, number_of}
use Rattle.frame_spec.specs.Record.{count_inside}
use Rattle.frame_spec.specs.Frame.{valid_number, frame_refusal, records_of, frame_bytes}
use Rattle.station_spec.specs.declared.Setup.{Setup}
use Rattle.station_spec.specs.declared.Station.{Station}
use Rattle.station_spec.specs.declared.Taking.{Taking}
use Rattle.station_spec.specs.declared.TurnReport.{TurnReport}
use Rattle.station_spec.specs.declared.StationAnswer.{StationAnswer}
use Rattle.frame_spec.specs.declared.Written.{Written}
use Rattle.station_spec.specs.declared.Heard.{Heard}
use Rattle.station_spec.specs.declared.Turned.{Turned}
use Rattle.queues.specs.Queue.{no_slot}
use Rattle.queues.specs.Waiting.{is_desk, limit_inside, has_room, with_posted}
use Rattle.station_spec.specs.State.{record_of, with_waiting, sent_records, alone_setup, fresh_station}
use Rattle.station_spec.specs.Limits.{station_inside}
use Rattle.station_spec.specs.Hearing.{initial_hearing, hear_frame}
use Rattle.station_spec.specs.Turn.{after_turn, turn_report}

-- "Fresh": 1, 13, 17
abbrev pub fresh_refusal : Setup → ℕ → ℕ
fresh_refusal setup own =
    refuse_number (not (valid_number setup.n own)) bad_number
    (refuse_number (not (limit_inside setup.limit)) bad_limit
    (refuse_number (not (is_edition setup.edition)) bad_edition done))

-- a refused call returns the fresh station of N = 1
unfoldable pub fresh_call : Setup → ℕ → StationAnswer
fresh_call setup own =
    cond (eqb (fresh_refusal setup own) done)
    (record { refusal = done; station = fresh_station setup own })
    (record { refusal = fresh_refusal setup own; station = fresh_station alone_setup 0 })

-- the station with one more waiting edit of a desk (source document 001, Algorithm 2, lines 1 and
-- 2)
unfoldable pub posted : Station → ℕ → Body → Station
posted s desk b = with_waiting s (with_posted s.waiting desk b)

-- 15, 4, 17, 3: what a post judges of the desk, of the body, of its channel and of the desk's
-- waiting edits
abbrev pub post_refusal : Station → ℕ → Body → ℕ
post_refusal s desk b =
    refuse_number (not (is_desk desk)) bad_desk
    (refuse_number (not (postable b)) not_an_edit
    (refuse_number (not (on_channel s.edition b)) bad_edition
    (refuse_number (not (has_room s.waiting desk)) queue_full done)))

-- "Post": 2, 15, 4, 17, 3
unfoldable pub post_call : Station → ℕ → Body → StationAnswer
post_call s desk b =
    let refusal = refuse_number (not (station_inside s)) outside_limits (post_refusal s desk b) in
    record { refusal = refusal; station = cond (eqb refusal done) (posted s desk b) s }

-- the own record's count fits a frame
abbrev pub own_count_inside : Station → Bool
own_count_inside s = count_inside s.n (record_of s s.own).count

-- the station's frame
unfoldable pub frame_of : Station → List ℕ
frame_of s = frame_bytes s.edition s.n s.own (sent_records s)

-- "Write frame": 2, 10, 9
unfoldable pub write_refusal : Station → ℕ → ℕ
write_refusal s room =
    refuse_number (not (station_inside s)) outside_limits
    (refuse_number (not (own_count_inside s)) count_too_high
    (refuse_number (ltb room (length (frame_of s))) short_buffer done))

unfoldable pub write_call : Station → ℕ → Written
write_call s room =
    cond (eqb (write_refusal s room) done)
    (record { refusal = done; len = length (frame_of s) })
    (record { refusal = write_refusal s room; len = 0 })

-- the buffer afterwards: the frame and then what stood past it, or as it was
unfoldable pub buffer_after : Station → List ℕ → List ℕ
buffer_after s buffer =
    cond (eqb (write_refusal s (length buffer)) done) (frame_of s ++ drop (length (frame_of s)) buffer) buffer

-- the stations in a list of takings
unfoldable pub sources_of : List Taking → List Bool
sources_of [] = replicate 16 false
sources_of (t ∷ ts) = set (sources_of ts) t.source true

-- "Hear": 2, 5, 6, 7, then 14 or 8
unfoldable pub hear_call : Station → List ℕ → Heard
hear_call s bytes =
    let h = hear_frame (initial_hearing s) (records_of bytes) in
    let judged = number_of (frame_refusal s.edition bytes s.n s.own) in
    let refusal =
    refuse_number (not (station_inside s)) outside_limits
    (refuse_number (not (eqb judged done)) judged h.refusal) in
    cond (eqb refusal done)
    (record { refusal = done; station = h.station; taken = sources_of h.takings })
    (record { refusal = refusal; station = s; taken = replicate 16 false })

-- a turn's report where there was no turn
unfoldable pub no_turn : TurnReport
no_turn =
    record { aired = false; row = replicate 16 no_slot; ended = false; ended_body = Empty; started_body = Empty }

-- the answer of a turn that is not refused
abbrev pub turn_done : Station → Turned
turn_done s = record { refusal = done; station = after_turn s; report = turn_report s }

-- "Turn": 2
unfoldable pub turn_call : Station → Turned
turn_call s =
    cond (station_inside s)
    (turn_done s)
    (record { refusal = outside_limits; station = s; report = no_turn })
