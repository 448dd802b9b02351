-- `labels::words::low` meets its contract: 4 ^ n is shifted to its place whole, and what is below
-- it fits a word.
use native.Mathlib.Omega.{arith}
use Rattle.labels.proofs.Made.{low_is, low_some, low_fits}
use Rattle.labels.proofs.words.low.Goals as goal

pub overflow_sub-result : goal.overflow_sub-result
overflow_sub-result c = rw (low_is c.args.n c.requires) (low_some c.args.n)

pub overflow_cast-result : goal.overflow_cast-result
overflow_cast-result c = rw (low_is c.args.n c.requires) (record { fits = omega (arith, low_some c.args.n, low_fits c.args.n c.requires) })

pub returns : goal.returns
returns c = rw (low_is c.args.n c.requires)
