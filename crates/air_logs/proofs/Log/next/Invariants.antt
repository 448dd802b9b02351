-- What is left is a listing with the same log.
use Rattle.std.proofs.Common.{◌≡◌, ◌*◌, drop, true}
use Rattle.air_logs_spec.specs.Form.{is_listing}
use Rattle.air_logs_spec.specs.Logs.{log_of}
use Rattle.air_logs.proofs.Log.next.Given as goal

abbrev pub invariant-loop-k : goal.invariant-loop-k
invariant-loop-k l =
    record {
      station : l.self.station ≡ l.initial.self.station;
      left : is_listing (drop (35 * l.k) l.listing) ≡ true;
      log : log_of l.station l.listing ≡ log_of l.station (drop (35 * l.k) l.listing);
    }
