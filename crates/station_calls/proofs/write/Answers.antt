-- Each return is a case of the definition: no station, no room for the number of bytes, the
-- station's refusal, or both buffers written.
use Rattle.std.proofs.Common.{sym, arith, ◌∙◌}
use Rattle.station_calls.proofs.Station.{station_long}
use Rattle.station_calls.proofs.Written.{write_no_station, write_none_refused, write_none, write_refused, length_fits, write_done}
use Rattle.station_calls.proofs.write.Goals as goal

pub returns-then-not-is_station : goal.returns-then-not-is_station
returns-then-not-is_station c =
    let h = write_no_station _ _ _ (sym c.is_station.ensures ∙ c.if-not-is_station.true) _ c.number.ensures in
    record { returned = h.0; frame = h.1; length = h.2 }

pub read_station-station-requires : goal.read_station-station-requires
read_station-station-requires c = omega (arith, station_long _ (sym c.is_station.ensures ∙ c.if-not-is_station.false))

pub returns-then-tried-ne-DONE : goal.returns-then-tried-ne-DONE
returns-then-tried-ne-DONE c =
    let h =
    write_none_refused _ _ _ (sym c.is_station.ensures ∙ c.if-not-is_station.false) _ c.read_station-station.ensures c.if-lengths-lt1.true _ _
    c.write-tried.ensures.answer c.if-tried-ne-DONE.true in
    record { returned = h.0; frame = h.1; length = h.2 }

pub returns-then-lengths-lt1 : goal.returns-then-lengths-lt1
returns-then-lengths-lt1 c =
    let h =
    write_none _ _ _ (sym c.is_station.ensures ∙ c.if-not-is_station.false) _ c.read_station-station.ensures c.if-lengths-lt1.true _ _
    c.write-tried.ensures.answer c.if-tried-ne-DONE.false _ c.number-then-lengths-lt1.ensures in
    record { returned = h.0; frame = h.1; length = h.2 }

pub returns-then-written-ne-DONE : goal.returns-then-written-ne-DONE
returns-then-written-ne-DONE c =
    let h =
    write_refused _ _ _ (sym c.is_station.ensures ∙ c.if-not-is_station.false) _ c.read_station-station.ensures _ c.write-written.ensures.answer _
    c.write-written.ensures.buffer c.if-written-ne-DONE.true in
    record { returned = h.0; frame = h.1; length = h.2 }

pub overflow_cast-lengths : goal.overflow_cast-lengths
overflow_cast-lengths c =
    let few =
    length_fits _ _ c.args.lengths.now (sym c.is_station.ensures ∙ c.if-not-is_station.false) _ c.read_station-station.ensures _ c.write-written.ensures.answer _
    c.write-written.ensures.buffer c.if-written-ne-DONE.false in
    record { fits = omega (arith, few) }

pub returns : goal.returns
returns c =
    let h =
    write_done _ _ _ (sym c.is_station.ensures ∙ c.if-not-is_station.false) _ c.read_station-station.ensures _ c.write-written.ensures.answer _
    c.write-written.ensures.buffer c.if-written-ne-DONE.false c.if-lengths-lt1.false in
    record { returned = h.0; frame = h.1; length = h.2 }
