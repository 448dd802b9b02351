-- The words before s are read.
use native.Mathlib.Omega.{arith}
use Rattle.station_bytes_spec.proofs.Bytes.{numbers_none, numbers_more, numbers_all}
use Rattle.bulletin_bytes.proofs.read_words.Goals as goal

pub loop-s-init : goal.loop-s-init
loop-s-init c = numbers_none

pub loop-s-preserved : goal.loop-s-preserved
loop-s-preserved c = numbers_more c.loop-s.invariant (omega arith) c.word_at.ensures

pub returns : goal.returns
returns c = numbers_all c.loop-s.invariant (omega arith)
