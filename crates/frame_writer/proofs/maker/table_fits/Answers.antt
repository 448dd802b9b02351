use Rattle.frame_spec.proofs.Fitting.{one_fails}
use Rattle.frame_writer.proofs.maker.table_fits.Goals as goal

pub returns-then-not-place_fits : goal.returns-then-not-place_fits
returns-then-not-place_fits c =
    let a = c.args in
    one_fails a.edition a.n a.sender a.held.now a.table.now c.loop-k.k c.loop-k-test.true
    (rw (c.if-held-k.true, ← c.place_fits.ensures, c.if-not-place_fits.true))
