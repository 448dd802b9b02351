-- Document 01, "A station and its calls": edits in the order posted, oldest first. What stands past
-- the length is no part of the queue.
use Rattle.std.specs.Prelude.{ℕ, ◌+◌, ◌-◌, Bool, ◌&&◌, List, ◌∷◌, ◌++◌, map, nat_le, take, drop}
use Rattle.std.specs.Prelude.{set, slice_index_or, replicate}
use Rattle.bodies.specs.declared.Body.{Body}
use Rattle.bodies.specs.declared.Body.TheVariants.{Empty}
use Rattle.bodies.specs.Limits.{may_wait}
use Rattle.lists.specs.Below.{all_below}
use Rattle.queues.specs.declared.Slot.{Slot}
use Rattle.queues.specs.declared.Queue.{Queue}

-- how many edits a queue has room for
abbrev pub queue_capacity : ℕ
queue_capacity = 32

abbrev pub no_slot : Slot
no_slot = record { body = Empty }

-- the bodies of a queue, oldest first
unfoldable pub queue_bodies : Queue → List Body
queue_bodies q = map (λ slot. slot.body) (take q.len q.slots)

-- a queue without bodies
unfoldable pub empty_queue : Queue
empty_queue = record { len = 0; slots = replicate queue_capacity no_slot }

-- a body put last
unfoldable pub queued : Queue → Body → Queue
queued q b = record { len = q.len + 1; slots = set q.slots q.len (record { body = b }) }

-- the oldest body
unfoldable pub oldest : Queue → Body
oldest q = (slice_index_or q.slots 0 no_slot).body

-- the oldest removed: those after it move up by one place, and the place that becomes free holds
-- Empty
unfoldable pub unqueued : Queue → Queue
unqueued q =
    record {
      len = q.len - 1;
      slots = take (q.len - 1) (drop 1 q.slots) ++ (no_slot ∷ drop q.len q.slots);
    }

-- no more than a limit, and each may wait
unfoldable pub queue_inside : (Body → Bool) → ℕ → Queue → Bool
queue_inside inside limit q =
    nat_le q.len limit && all_below q.len (λ i. may_wait inside (slice_index_or q.slots i no_slot).body)
