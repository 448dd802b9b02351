use Prim.Native.Nat.{ℕ}
use mathlib.Core.List.{List}
use lib.ListN.{get_or}
use Rattle.queues.specs.declared.Slot.{Slot}
use Rattle.queues.specs.Queue.{no_slot}
use Rattle.station_bytes_spec.specs.Body.{encode_body}
use Rattle.station_encoder.proofs.Writing.{PartsPut}
use Rattle.station_encoder.proofs.put_edits.Given as goal

abbrev pub edits : List Slot → ℕ → List ℕ
edits slots i = encode_body (get_or slots i no_slot).body

abbrev pub invariant-loop-i : goal.invariant-loop-i
invariant-loop-i l = PartsPut 32 (edits l.slots) l.initial.bytes l.at l.i l.bytes
