use Rattle.std.proofs.Common.{◌≡◌, length, take}
use Rattle.lists.specs.Below.{tabulate}
use Rattle.script.specs.Line.{mask_at}
use Rattle.script.proofs.masks.Given as goal

abbrev pub invariant-loop-k : goal.invariant-loop-k
invariant-loop-k l = (length l.made ≡ 16) × (take l.k l.made ≡ tabulate l.k (mask_at l.line l.n))
