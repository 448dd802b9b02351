use Rattle.bulletin_bytes.proofs.Parts.{PutBelow}
use Rattle.bulletin_bytes.proofs.put_all.Given as goal

abbrev pub invariant-loop-k : goal.invariant-loop-k
invariant-loop-k g l = PutBelow g.T.Bytes.encoded g.T.Bytes.WIDTH l.initial.bytes l.at l.parts l.k l.bytes
