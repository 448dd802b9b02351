-- The sets before p are read.
use native.Mathlib.Omega.{arith}
use Rattle.station_bytes_spec.proofs.Bytes.{numbers_none, numbers_more, numbers_all}
use Rattle.bulletin_bytes.proofs.read_sets.Goals as goal

pub loop-p-init : goal.loop-p-init
loop-p-init c = numbers_none

pub loop-p-preserved : goal.loop-p-preserved
loop-p-preserved c = numbers_more c.loop-p.invariant (omega arith) c.read_set.ensures

pub returns : goal.returns
returns c = numbers_all c.loop-p.invariant (omega arith)
