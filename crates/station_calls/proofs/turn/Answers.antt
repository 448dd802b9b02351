-- Each return is a case of the definition: no station, the station's refusal, no room, or both
-- buffers written.
use Rattle.std.proofs.Common.{ℕ, List, sym, ap, arith, ◌∙◌}
use Rattle.station_spec.specs.declared.Turned.{Turned}
use Rattle.station_spec.specs.Calls.{turn_call}
use Rattle.station_bytes_spec.specs.Station.{encode_station}
use Rattle.station_bytes_spec.specs.Reports.{turn_width, encode_turn}
use Rattle.station_bytes_spec.proofs.Station.{length_station}
use Rattle.station_bytes_spec.proofs.Reports.{length_turn}
use Rattle.station_calls.specs.Station.{turn_answer, turn_returned}
use Rattle.station_calls.proofs.Refusals.{no_room, room}
use Rattle.station_calls.proofs.Station.{station_long}
use Rattle.station_calls.proofs.Returns.{not_judged_both, both_refused, both_short, both_done}
use Rattle.station_calls.proofs.turn.Goals as goal

abbrev refusal : Turned → ℕ
refusal x = x.refusal

abbrev encoded : Turned → List ℕ
encoded x = encode_station x.station

abbrev report : Turned → List ℕ
report x = encode_turn x.report

pub returns-then-not-is_station : goal.returns-then-not-is_station
unfolding turn_returned
returns-then-not-is_station c =
    let h = not_judged_both _ (sym c.is_station.ensures ∙ c.if-not-is_station.true) _ c.number.ensures _ _ _ _ _ in
    record { returned = h.0; written = h.1; report = h.2 }

pub read_station-station-requires : goal.read_station-station-requires
read_station-station-requires c = omega (arith, station_long _ (sym c.is_station.ensures ∙ c.if-not-is_station.false))

pub returns-then-turned-ne-DONE : goal.returns-then-turned-ne-DONE
unfolding turn_returned
returns-then-turned-ne-DONE c =
    let answered = c.turn-turned.ensures ∙ ap turn_call c.read_station-station.ensures in
    let h = both_refused refusal encoded _ _ answered _ (sym c.is_station.ensures ∙ c.if-not-is_station.false) _ report _ _ c.if-turned-ne-DONE.true in
    record { returned = h.0; written = h.1; report = h.2 }

pub returns-then-report-lt-TURN_WIDTH : goal.returns-then-report-lt-TURN_WIDTH
unfolding turn_returned
returns-then-report-lt-TURN_WIDTH c =
    let answered = c.turn-turned.ensures ∙ ap turn_call c.read_station-station.ensures in
    let short = no_room turn_width c.args.report.now c.if-report-lt-TURN_WIDTH.true in
    let h = both_short refusal encoded _ _ answered _ (sym c.is_station.ensures ∙ c.if-not-is_station.false) _ report _ _ c.if-turned-ne-DONE.false short _ c.number-then-report-lt-TURN_WIDTH.ensures in
    record { returned = h.0; written = h.1; report = h.2 }

pub put_station-requires : goal.put_station-requires
put_station-requires c = omega (arith, station_long _ (sym c.is_station.ensures ∙ c.if-not-is_station.false))

pub returns : goal.returns
unfolding turn_returned
returns c =
    let answered = c.turn-turned.ensures ∙ ap turn_call c.read_station-station.ensures in
    let judged = sym c.is_station.ensures ∙ c.if-not-is_station.false in
    let enough = c.if-report-lt-TURN_WIDTH.false in
    let h =
    both_done refusal encoded _ _ answered _ judged _ report _ _ c.if-turned-ne-DONE.false (room turn_width c.args.report.now enough)
    (length_station _ ∙ sym (station_long _ judged)) (omega (arith, length_turn (turn_answer c.args.state.now).report, enough)) _ _
    c.put_station.ensures c.put_turn.ensures in
    record { returned = h.0; written = h.1; report = h.2 }
