-- What the calls on a station that lies as bytes return and write. Each is the station's call of
-- document 01 on the decoded station: bytes that are no station are refused with 2 as a station
-- outside its limits is, and a lent buffer that is too short is refused last.
use Rattle.std.specs.Prelude.{ℕ, cond, not, List, eqb, ltb, ℤ, length}
use Rattle.bodies.specs.declared.Body.{Body}
use Rattle.bodies.specs.declared.Body.TheVariants.{Empty}
use Rattle.bodies.specs.Body.{body_of}
use Rattle.bodies.specs.Refusals.{done, outside_limits, short_buffer, refuse_number}
use Rattle.bodies.specs.Limits.{numbers_inside}
use Rattle.station_spec.specs.declared.StationAnswer.{StationAnswer}
use Rattle.station_spec.specs.declared.Heard.{Heard}
use Rattle.station_spec.specs.declared.Turned.{Turned}
use Rattle.station_spec.specs.declared.Station.{Station}
use Rattle.station_spec.specs.Calls.{post_call, write_call, hear_call, turn_call}
use Rattle.station_bytes_spec.specs.Bytes.{as_byte}
use Rattle.station_bytes_spec.specs.Station.{station_width, decode_station, is_station}
use Rattle.station_bytes_spec.specs.Reports.{turn_width}

-- the first refusal, or else the next
abbrev pub or_else : ℕ → ℕ → ℕ
or_else first next = cond (eqb first done) next first

-- 9: a lent buffer has not so many places
abbrev pub room_refusal : ℕ → List ℕ → ℕ
room_refusal room buffer = refuse_number (ltb (length buffer) room) short_buffer done

-- 2: the bytes are no station
abbrev pub station_refusal : List ℕ → ℕ
station_refusal b = refuse_number (not (is_station b)) outside_limits done

-- the station that bytes are
abbrev pub station_of : List ℕ → Station
station_of b = decode_station b 0

-- the body that four numbers name: Empty, which is no edit, where kind, event and argument are
-- those of none inside its limits; a channel above 255 counts as 255, which is none of an edition
unfoldable pub named_body : ℕ → ℕ → ℤ → ℕ → Body
named_body kind event argument channel =
    cond (numbers_inside kind event argument) (body_of kind event argument (as_byte channel)) Empty

-- fresh, by what the station's call answers: 1, 13, 17, 9
unfoldable pub fresh_returned : StationAnswer → List ℕ → ℕ
fresh_returned made state = or_else made.refusal (room_refusal station_width state)

-- post: 2, 15, 4, 17, 3
abbrev pub post_answer : List ℕ → ℕ → Body → StationAnswer
post_answer state desk body = post_call (station_of state) desk body

unfoldable pub post_returned : List ℕ → ℕ → Body → ℕ
post_returned state desk body = or_else (station_refusal state) (post_answer state desk body).refusal

-- write: 2, 10, 9
unfoldable pub write_returned : List ℕ → List ℕ → List ℕ → ℕ
write_returned state frame lengths =
    or_else (station_refusal state)
    (or_else (write_call (station_of state) (length frame)).refusal (room_refusal 1 lengths))

-- hear: 2, 5, 6, 7, 14, 8, 9
abbrev pub hear_answer : List ℕ → List ℕ → Heard
hear_answer state frame = hear_call (station_of state) frame

unfoldable pub hear_returned : List ℕ → List ℕ → List ℕ → ℕ
hear_returned state frame taken =
    or_else (station_refusal state) (or_else (hear_answer state frame).refusal (room_refusal 16 taken))

-- turn: 2, 9
abbrev pub turn_answer : List ℕ → Turned
turn_answer state = turn_call (station_of state)

unfoldable pub turn_returned : List ℕ → List ℕ → ℕ
turn_returned state report =
    or_else (station_refusal state) (or_else (turn_answer state).refusal (room_refusal turn_width report))
