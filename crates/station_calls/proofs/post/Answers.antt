-- Each return is a case of the definition: no station, the station's refusal, or the station
-- written over its bytes.
use Rattle.std.proofs.Common.{sym, ap, arith, ◌∙◌, ℤ}
use mir.Syntax.{w32}
use mir.ValLaws.{to_z-of_z}
use Rattle.station_spec.specs.Calls.{post_call}
use Rattle.station_bytes_spec.proofs.Station.{length_station}
use Rattle.station_calls.specs.Station.{named_body, post_returned}
use Rattle.station_calls.proofs.Station.{refusal, encoded, station_long}
use Rattle.station_calls.proofs.Returns.{not_judged, over_refused, over_done}
use Rattle.station_calls.proofs.post.Goals as goal

pub returns-then-not-is_station : goal.returns-then-not-is_station
unfolding post_returned
returns-then-not-is_station c =
    let h = not_judged _ (sym c.is_station.ensures ∙ c.if-not-is_station.true) _ c.number.ensures _ _ _ in
    record { returned = h.0; written = h.1 }

pub read_station-station-requires : goal.read_station-station-requires
read_station-station-requires c = omega (arith, station_long _ (sym c.is_station.ensures ∙ c.if-not-is_station.false))

pub returns-then-kept-ne-DONE : goal.returns-then-kept-ne-DONE
unfolding post_returned
returns-then-kept-ne-DONE c =
    let s = c.args in
    let named = c.named_body-body.ensures ∙ ap (λ (y : ℤ). named_body s.kind s.event y s.channel) (to_z-of_z w32 s.argument c.ranges.argument) in
    let answered = c.post-kept.ensures ∙ (λ i. post_call (c.read_station-station.ensures i) s.desk (named i)) in
    let h = over_refused refusal encoded _ _ answered _ (sym c.is_station.ensures ∙ c.if-not-is_station.false) _ c.if-kept-ne-DONE.true in
    record { returned = h.0; written = h.1 }

pub put_station-requires : goal.put_station-requires
put_station-requires c = omega (arith, station_long _ (sym c.is_station.ensures ∙ c.if-not-is_station.false))

pub returns : goal.returns
unfolding post_returned
returns c =
    let s = c.args in
    let named = c.named_body-body.ensures ∙ ap (λ (y : ℤ). named_body s.kind s.event y s.channel) (to_z-of_z w32 s.argument c.ranges.argument) in
    let answered = c.post-kept.ensures ∙ (λ i. post_call (c.read_station-station.ensures i) s.desk (named i)) in
    let judged = sym c.is_station.ensures ∙ c.if-not-is_station.false in
    let h = over_done refusal encoded _ _ answered _ judged _ c.if-kept-ne-DONE.false (length_station _ ∙ sym (station_long _ judged)) _ c.put_station.ensures in
    record { returned = h.0; written = h.1 }
