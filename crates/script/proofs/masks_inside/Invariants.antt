use Rattle.std.proofs.Common.{◌≡◌, true}
use Rattle.script.specs.Line.{masks_inside}
use Rattle.script.proofs.masks_inside.Given as goal

abbrev pub invariant-loop-k : goal.invariant-loop-k
invariant-loop-k l = masks_inside l.line l.k ≡ true
