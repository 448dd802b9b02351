use Rattle.std.proofs.Common.{◌≡◌, get_or, replicate}
use Rattle.queues.specs.Lane.{no_lane}
use Rattle.lists.specs.Below.{set_below}
use Rattle.listening.proofs.acting.lane_lens.Given as goal

abbrev pub invariant-loop-k : goal.invariant-loop-k
invariant-loop-k l = l.lens ≡ set_below l.k (λ j. (get_or l.lanes j no_lane).len) (replicate 16 0)
