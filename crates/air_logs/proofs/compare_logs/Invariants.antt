-- What is left to compare, at the present position, gives the answer of the whole; the position is
-- no larger than the lines passed allow.
use Rattle.std.proofs.Common.{◌≡◌, ◌+◌, ◌*◌, ◌≤◌, length}
use Rattle.air_logs_spec.specs.Logs.{log_of}
use Rattle.air_logs_spec.specs.Compare.{compared_from}
use Rattle.air_logs.proofs.compare_logs.Given as goal

abbrev pub invariant-loop-one : goal.invariant-loop-one
invariant-loop-one l =
    record {
      counted : l.position * 35 + length l.first.listing.now ≤ length l.initial.first.listing.now + 35;
      same :
          compared_from l.position (log_of l.first.station l.first.listing.now) (log_of l.second.station l.second.listing.now)
          ≡ compared_from 1 (log_of l.initial.first.station l.initial.first.listing.now) (log_of l.initial.second.station l.initial.second.listing.now);
    }

abbrev pub decreases-loop-one : goal.decreases-loop-one
decreases-loop-one l = length l.first.listing.now
