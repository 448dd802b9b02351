-- `labels::words::over` meets its contract: a mask of low ones is a remainder, and what is made of
-- two remainders are the labels of the one word over those of the other.
use native.Mathlib.Omega.{arith}
use lib.Bits.{and_le_l}
use Rattle.labels.proofs.Made.{masked_is, masked_fits}
use Rattle.labels.proofs.words.over.Goals as goal

pub overflow_add-result : goal.overflow_add-result
overflow_add-result c =
    let a = c.args in
    rw c.low-below.ensures (record { fits = masked_fits a.n a.labels a.old c.requires (omega arith) })

pub returns : goal.returns
returns c =
    let a = c.args in
    rw c.low-below.ensures (masked_is a.n a.labels a.old)

pub overflow_sub-result : goal.overflow_sub-result
overflow_sub-result c = and_le_l c.args.old c.low-below.result
