use Prim.Native.Nat.{◌+◌}
use lib.ListN.{get_or}
use Rattle.queues.specs.Queue.{no_slot}
use Rattle.station_bytes_spec.specs.Body.{encode_body}
use Rattle.station_encoder.proofs.Writing.{PartsPut}
use Rattle.station_encoder.proofs.reports.put_turn.Given as goal

abbrev pub invariant-loop-k : goal.invariant-loop-k
invariant-loop-k l = PartsPut 16 (λ j. encode_body (get_or l.turn.row j no_slot).body) l.initial.bytes (l.at + 28) l.k l.bytes
