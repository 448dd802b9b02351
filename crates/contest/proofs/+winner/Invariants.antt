use Rattle.std.proofs.Common.{◌≡◌, ℕ, ◌<◌}
use Rattle.contest.specs.Inner.KnownSets.{is_keeper}
use Rattle.contest.proofs.Deciding.{outcome}
use Rattle.contest.proofs.+winner.Given as goal

abbrev pub invariant-loop-i : goal.invariant-loop-i
invariant-loop-i l =
    (k : ℕ) → k < l.i → outcome l.n l.s l.count l.masks l.left (is_keeper l.picker) l.know k ≡ is_keeper l.picker → ⊥

abbrev pub decreases-winner : goal.decreases-winner
decreases-winner l = l.left
