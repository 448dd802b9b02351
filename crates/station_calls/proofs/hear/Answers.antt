-- Each return is a case of the definition: no station, the station's refusal, no room, or both
-- buffers written.
use Rattle.std.proofs.Common.{sym, arith, ◌∙◌}
use Rattle.station_calls.specs.Station.{hear_returned}
use Rattle.station_calls.proofs.Station.{station_long}
use Rattle.station_calls.proofs.Returns.{not_judged_both, both_refused}
use Rattle.station_calls.proofs.HeardCalls.{refusal, encoded, flags, hear_is, heard_short, heard_done}
use Rattle.station_calls.proofs.hear.Goals as goal

pub returns-then-not-is_station : goal.returns-then-not-is_station
unfolding hear_returned
returns-then-not-is_station c =
    let h = not_judged_both _ (sym c.is_station.ensures ∙ c.if-not-is_station.true) _ c.number.ensures _ _ _ _ _ in
    record { returned = h.0; written = h.1; flags = h.2 }

pub read_station-station-requires : goal.read_station-station-requires
read_station-station-requires c = omega (arith, station_long _ (sym c.is_station.ensures ∙ c.if-not-is_station.false))

pub returns-then-heard-ne-DONE : goal.returns-then-heard-ne-DONE
unfolding hear_returned
returns-then-heard-ne-DONE c =
    let answered = hear_is _ _ c.read_station-station.ensures _ _ (c.listen-heard.ensures.refused c.if-heard-ne-DONE.true) in
    let h = both_refused refusal encoded _ _ answered _ (sym c.is_station.ensures ∙ c.if-not-is_station.false) _ flags _ _ c.if-heard-ne-DONE.true in
    record { returned = h.0; written = h.1; flags = h.2 }

pub returns-then-taken-lt16 : goal.returns-then-taken-lt16
returns-then-taken-lt16 c =
    let h =
    heard_short _ (record { small = λ i. (c.slice_known-1.given i).fits }) (sym c.is_station.ensures ∙ c.if-not-is_station.false) _ c.read_station-station.ensures _ _ _ _ _
    c.listen-heard.result (c.listen-heard.ensures.heard c.if-heard-ne-DONE.false) c.if-taken-lt16.true _ c.number-then-taken-lt16.ensures in
    record { returned = h.0; written = h.1; flags = h.2 }

pub put_heard-requires : goal.put_heard-requires
put_heard-requires c =
    let acts = c.listen-heard.ensures.heard c.if-heard-ne-DONE.false in
    record { room = omega (arith, station_long _ (sym c.is_station.ensures ∙ c.if-not-is_station.false)); size = acts.size; readable = acts.readable }

pub returns : goal.returns
returns c =
    let h =
    heard_done _ (record { small = λ i. (c.slice_known-1.given i).fits }) (sym c.is_station.ensures ∙ c.if-not-is_station.false) _ c.read_station-station.ensures _ _ _ _ _
    c.listen-heard.result (c.listen-heard.ensures.heard c.if-heard-ne-DONE.false) c.if-taken-lt16.false _ _ _ c.put_heard.ensures
    c.sources_of-sources.ensures c.put_flags.ensures in
    record { returned = h.0; written = h.1; flags = h.2 }
