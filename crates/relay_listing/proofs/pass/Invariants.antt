use Rattle.std.proofs.Common.{length, take, ◌-◌, ◌≤◌, ◌≡◌}
use Rattle.listing_spec.specs.Remaining.{kept_bytes}
use Rattle.relay_listing.specs.Passing.{Passes}
use Rattle.relay_listing.proofs.pass.Given as goal

abbrev pub invariant-loop-from : goal.invariant-loop-from
invariant-loop-from g l =
    (l.reader.len ≤ kept_bytes) × (l.from ≤ length l.part) × (length l.out ≡ length l.initial.out)
    × Passes l.fn.r (take l.from l.part) l.reader (g.W.Write.contents l.initial.to) (g.W.Write.contents l.to)

abbrev pub decreases-loop-from : goal.decreases-loop-from
decreases-loop-from g l = length l.part - l.from
