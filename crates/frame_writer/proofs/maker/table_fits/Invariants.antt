use Rattle.std.proofs.Common.{◌≡◌, true}
use Rattle.lists.specs.Below.{all_below}
use Rattle.frame_spec.proofs.Fitting.{fits_at}
use Rattle.frame_writer.proofs.maker.table_fits.Given as goal

abbrev pub invariant-loop-k : goal.invariant-loop-k
invariant-loop-k l = all_below l.k (fits_at l.edition l.n l.sender l.held l.table) ≡ true
