-- `station::frames::try_write` meets its contract, refusal by refusal; then the table is written.
use Rattle.std.proofs.Common.{◌≡◌, true, ◌∙◌, List, ℕ, length, ap, sym}
use Rattle.frame_spec.specs.Calls.{written, buffer_with}
use Rattle.station_spec.specs.State.{cell_of}
use Rattle.station_spec.specs.Limits.{station_inside}
use Rattle.station_spec.specs.Inner.Writing.{as_written}
use Rattle.station_spec.proofs.StationLimits.{inside_open}
use Rattle.station_spec.proofs.WriteSteps.{writable, frame_is, write_outside, kept_outside, write_count, kept_count, write_frame, buffer_frame}
use Rattle.station.proofs.frames.try_write.Goals as goal

pub returns-then-not-station_inside : goal.returns-then-not-station_inside
returns-then-not-station_inside c =
    let s = c.args.s.now in
    let b = c.args.buffer.now in
    let out = sym c.station_inside.ensures ∙ c.if-not-station_inside.true in
    record { answer = write_outside s b out; buffer = kept_outside s b out }

pub count_fits-requires : goal.count_fits-requires
count_fits-requires c =
    let inside = inside_open c.args.s.now (sym c.station_inside.ensures ∙ c.if-not-station_inside.false) in
    record { some = inside.low; few = inside.high }

pub returns-then-not-count_fits : goal.returns-then-not-count_fits
unfolding cell_of
returns-then-not-count_fits c =
    let s = c.args.s.now in
    let b = c.args.buffer.now in
    let inside : station_inside s ≡ true = sym c.station_inside.ensures ∙ c.if-not-station_inside.false in
    let high = sym c.count_fits.ensures ∙ c.if-not-count_fits.true in
    record { answer = write_count s b inside high; buffer = kept_count s b inside high }

pub write_table-requires : goal.write_table-requires
write_table-requires c =
    let w = writable c.args.s.now (inside_open c.args.s.now (sym c.station_inside.ensures ∙ c.if-not-station_inside.false)) in
    record { few = w.0; sender = w.1; edition = w.2 }

pub returns : goal.returns
unfolding cell_of
returns c =
    let s = c.args.s.now in
    let b = c.args.buffer.now in
    let inside : station_inside s ≡ true = sym c.station_inside.ensures ∙ c.if-not-station_inside.false in
    let fits = sym c.count_fits.ensures ∙ c.if-not-count_fits.false in
    record {
      answer = ap as_written (c.write_table.ensures.answer ∙ ap (λ (l : List ℕ). written l (length b)) (frame_is s)) ∙ write_frame s b inside fits;
      buffer = c.write_table.ensures.buffer ∙ ap (λ (l : List ℕ). buffer_with l b) (frame_is s) ∙ buffer_frame s b inside fits;
    }
