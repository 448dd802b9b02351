use Rattle.frame_check.proofs.Records.{Checked}
use Rattle.frame_check.proofs.frames.Frame.is_inside.Given as goal

abbrev pub invariant-loop-k : goal.invariant-loop-k
invariant-loop-k l = Checked l.edition l.self l.n l.k l.found l.least
