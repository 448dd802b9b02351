-- The lengths of reports as bytes.
use mathlib.Core.Path.{◌≡◌, ap₂, ◌∙◌}
use mathlib.Core.Bool.{Bool}
use mathlib.Core.List.{List, [], ◌∷◌, ◌++◌}
use Prim.Native.Nat.{◌+◌, ◌*◌}
use native.Mathlib.Omega.{arith}
use lib.ListN.{get_or, length, length-append}
use Rattle.lists.proofs.Laws.{length-tabulate}
use Rattle.frame_spec.specs.Words.{word_bytes}
use Rattle.queues.specs.Queue.{no_slot}
use Rattle.station_spec.specs.declared.Taking.{Taking}
use Rattle.station_spec.specs.declared.TurnReport.{TurnReport}
use Rattle.station_spec.specs.Hearing.{no_taking}
use Rattle.group_spec.specs.declared.Report.{Report}
use Rattle.station_bytes_spec.specs.Bytes.{flag_byte, as_byte, joined_below}
use Rattle.station_bytes_spec.specs.Body.{encode_body}
use Rattle.station_bytes_spec.specs.Reports.{encode_flags, turn_width, encode_turn, taking_width, encode_taking, report_width, encode_report, absent_report, reports_width, encode_reports}
use Rattle.station_bytes_spec.proofs.Bytes.{length_word, joined_long}
use Rattle.station_bytes_spec.proofs.Body.{length-body}

pub length_flags : (flags : List Bool) → length (encode_flags flags) ≡ 16
unfolding encode_flags
length_flags flags = length-tabulate 16 _

pub length_row : (t : TurnReport) → length (joined_below 16 (λ k. encode_body (get_or t.row k no_slot).body)) ≡ 192
length_row t = joined_long 16 12 (λ k. encode_body (get_or t.row k no_slot).body) (λ k m. length-body (get_or t.row k no_slot).body)

pub length_turn : (t : TurnReport) → length (encode_turn t) ≡ turn_width
unfolding encode_turn
length_turn t =
    let four = flag_byte t.aired ∷ flag_byte t.ended ∷ 0 ∷ 0 ∷ [] in
    let ended = encode_body t.ended_body in
    let started = encode_body t.started_body in
    let row = joined_below 16 (λ k. encode_body (get_or t.row k no_slot).body) in
    omega (
      arith,
      length-append four ended,
      length-append (four ++ ended) started,
      length-append (four ++ ended ++ started) row,
      length-body t.ended_body,
      length-body t.started_body,
      length_row t,
    )

pub length-taking : (t : Taking) → length (encode_taking t) ≡ taking_width
unfolding encode_taking
length-taking t = length-append (word_bytes t.source) (encode_body t.body) ∙ ap₂ ◌+◌ (length_word t.source) (length-body t.body)

pub length_takings : (r : Report) → length (joined_below 30 (λ i. encode_taking (get_or r.takings i no_taking))) ≡ taking_width * 30
length_takings r = joined_long 30 taking_width (λ i. encode_taking (get_or r.takings i no_taking)) (λ i m. length-taking (get_or r.takings i no_taking))

pub length-report : (r : Report) → length (encode_report r) ≡ report_width
unfolding encode_report
length-report r =
    let count = word_bytes (as_byte r.takings_len) in
    let takings = joined_below 30 (λ i. encode_taking (get_or r.takings i no_taking)) in
    length-append (count ++ takings) (encode_turn r.turn)
    ∙ ap₂ ◌+◌ (length-append count takings ∙ ap₂ ◌+◌ (length_word (as_byte r.takings_len)) (length_takings r)) (length_turn r.turn)

pub length_reports : (rs : List Report) → length (encode_reports rs) ≡ reports_width
unfolding encode_reports
length_reports rs = joined_long 16 report_width (λ k. encode_report (get_or rs k absent_report)) (λ k m. length-report (get_or rs k absent_report))
