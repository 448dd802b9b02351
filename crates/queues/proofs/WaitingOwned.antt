-- The length that the arrays of the waiting edits have by their type, out of what owning them
-- tells.
use mathlib.Core.List.{List}
use mathlib.Core.Path.{◌≡◌}
use lib.ListN.{length}
use mir.Val.{Val}
use denote.Shadow.{shadow}
use Rattle.queues.specs.declared.Queue.{Queue}
use Rattle.queues.specs.declared.Waiting.{Waiting}
use Rattle.queues.specs.Queue.{queue_capacity}
use Rattle.queues.specs.contracts.Waiting as Declared
use Rattle.queues.proofs.WaitingLaws.{WaitingSized, each_queue}

pub owned_sized : (w : Waiting) (vs : List Val) → shadow ((Declared.the_field).row.own_val ((Declared.the_type).to w) vs) → WaitingSized w
owned_sized w vs h =
    record {
      slots =
          each_queue (λ (q : Queue). length q.slots ≡ queue_capacity) w
          h.1.1.1.0.1.1.1.0.1.0.1
          h.1.1.1.1.0.1.1.1.0.1.0.1;
    }
