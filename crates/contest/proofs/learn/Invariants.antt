use Rattle.std.proofs.Common.{◌≡◌}
use Rattle.lists.specs.Below.{set_below}
use Rattle.contest.specs.Inner.KnownSets.{learnt_one, mask_of}
use Rattle.contest.proofs.learn.Given as goal

abbrev pub invariant-loop-p : goal.invariant-loop-p
invariant-loop-p l = l.next ≡ set_below l.p (λ i. learnt_one l.n l.s (mask_of l.masks l.at i) l.know i) l.know
