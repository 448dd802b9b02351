use Rattle.std.proofs.Common.{◌≡◌, ◌≤◌, ◌<◌, ◌-◌, length, take}
use Rattle.listing_spec.specs.Remaining.{Listed, kept_bytes}
use Rattle.reader.proofs.feed.Given as goal

abbrev pub invariant-loop-out : goal.invariant-loop-out
invariant-loop-out l =
    (l.held ≤ kept_bytes) × (kept_bytes ≡ length l.line) × (l.at ≤ length l.out) × (0 < l.at → 0 < l.read)
    × Listed l.initial.session (take l.initial.held l.initial.line) l.part l.initial.out l.session (take l.held l.line) l.read l.at l.out

abbrev pub decreases-loop-out : goal.decreases-loop-out
decreases-loop-out l = length l.part - l.read
