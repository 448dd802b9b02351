-- Each return is a case of the definition: the station's refusal, no room, or the station at the
-- front.
use Rattle.station_bytes_spec.specs.Station.{station_width}
use Rattle.station_bytes_spec.proofs.Station.{length_station}
use Rattle.station_calls.specs.Station.{fresh_returned}
use Rattle.station_calls.proofs.Returns.{fresh_refused, fresh_short, fresh_done}
use Rattle.station_calls.proofs.Station.{refusal, encoded}
use Rattle.station_calls.proofs.fresh.Goals as goal

pub returns-then-made-ne-DONE : goal.returns-then-made-ne-DONE
unfolding fresh_returned
returns-then-made-ne-DONE c =
    let h = fresh_refused refusal encoded _ _ c.fresh_limited-made.ensures station_width _ c.if-made-ne-DONE.true in
    record { returned = h.0; written = h.1 }

pub returns-then-state-lt-STATION_WIDTH : goal.returns-then-state-lt-STATION_WIDTH
unfolding fresh_returned
returns-then-state-lt-STATION_WIDTH c =
    let h = fresh_short refusal encoded _ _ c.fresh_limited-made.ensures station_width _ c.if-made-ne-DONE.false c.if-state-lt-STATION_WIDTH.true _ c.number.ensures in
    record { returned = h.0; written = h.1 }

pub returns : goal.returns
unfolding fresh_returned
returns c =
    let h = fresh_done refusal encoded _ _ c.fresh_limited-made.ensures station_width _ c.if-made-ne-DONE.false c.if-state-lt-STATION_WIDTH.false (length_station _) _ c.put_station.ensures in
    record { returned = h.0; written = h.1 }
