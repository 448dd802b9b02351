-- What a turn and a round report, as bytes, and the set of stations that a body was taken from.
-- include/relay.h gives the place of each field.
use Rattle.std.specs.Prelude.{ℕ, ◌+◌, ◌*◌, Bool, false, List, [], ◌∷◌, ◌++◌, slice_index_or}
use Rattle.bodies.specs.declared.Body.TheVariants.{Empty}
use Rattle.lists.specs.Below.{tabulate}
use Rattle.frame_spec.specs.Words.{word_bytes}
use Rattle.queues.specs.Queue.{no_slot}
use Rattle.station_spec.specs.declared.Taking.{Taking}
use Rattle.station_spec.specs.declared.TurnReport.{TurnReport}
use Rattle.station_spec.specs.Hearing.{no_taking}
use Rattle.group_spec.specs.declared.Report.{Report}
use Rattle.station_bytes_spec.specs.Bytes.{flag_byte, as_byte, joined_below}
use Rattle.station_bytes_spec.specs.Body.{body_width, encode_body}

-- sixteen flags, a byte each
unfoldable pub encode_flags : List Bool → List ℕ
encode_flags flags = tabulate 16 (λ k. flag_byte (slice_index_or flags k false))

-- the report of a turn: whether a row was aired, whether the broadcast ended, the ended and the
-- started body, the row
abbrev pub turn_width : ℕ
turn_width = 28 + body_width * 16

unfoldable pub encode_turn : TurnReport → List ℕ
encode_turn t =
    (flag_byte t.aired ∷ flag_byte t.ended ∷ 0 ∷ 0 ∷ [])
    ++ encode_body t.ended_body
    ++ encode_body t.started_body
    ++ joined_below 16 (λ k. encode_body (slice_index_or t.row k no_slot).body)

-- a body taken, behind the station that it is of
abbrev pub taking_width : ℕ
taking_width = 4 + body_width

unfoldable pub encode_taking : Taking → List ℕ
encode_taking t = word_bytes t.source ++ encode_body t.body

-- what a round reports of one station: how many bodies it took, thirty takings, the report of its
-- turn
abbrev pub report_width : ℕ
report_width = 4 + taking_width * 30 + turn_width

unfoldable pub encode_report : Report → List ℕ
encode_report r =
    word_bytes (as_byte r.takings_len)
    ++ joined_below 30 (λ i. encode_taking (slice_index_or r.takings i no_taking))
    ++ encode_turn r.turn

-- what is read past the end of a list of reports
abbrev pub absent_report : Report
absent_report =
    record {
      takings_len = 0;
      takings = [];
      turn = record { aired = false; row = []; ended = false; ended_body = Empty; started_body = Empty };
    }

-- and of all sixteen
abbrev pub reports_width : ℕ
reports_width = report_width * 16

unfoldable pub encode_reports : List Report → List ℕ
encode_reports reports = joined_below 16 (λ k. encode_report (slice_index_or reports k absent_report))
