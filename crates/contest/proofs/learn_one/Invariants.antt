use Rattle.std.proofs.Common.{◌≡◌, get_or}
use Rattle.planning.specs.Sets.{united}
use Rattle.planning_spec.specs.LinkLog.{mask_hears}
use Rattle.contest.proofs.learn_one.Given as goal

abbrev pub invariant-loop-j : goal.invariant-loop-j
invariant-loop-j l = l.set ≡ united l.j (mask_hears l.mask l.p) (λ i. get_or l.know i 0) (get_or l.know l.p 0)
