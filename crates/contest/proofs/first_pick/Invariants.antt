use Rattle.std.proofs.Common.{◌≡◌, ℕ, ◌<◌, false}
use Rattle.contest.specs.Inner.KnownSets.{opening}
use Rattle.contest.proofs.first_pick.Given as goal

abbrev pub invariant-loop-i : goal.invariant-loop-i
invariant-loop-i l = (k : ℕ) → k < l.i → opening l.n l.s l.count l.masks l.left k ≡ false
