-- The airing step on a list of lanes.
use Rattle.std.specs.Prelude.{ℕ, Bool, List, replicate, nat_lt}
use Rattle.lists.specs.Below.{all_below, set_below}
use Rattle.queues.specs.declared.Lane.{Lane}
use Rattle.queues.specs.declared.Slot.{Slot}
use Rattle.queues.specs.Queue.{no_slot}

-- each of the first n lanes has a body
abbrev pub each_has_body : ℕ → (ℕ → Lane) → Bool
each_has_body n lane = all_below n (λ k. nat_lt 0 (lane k).len)

-- the oldest body of each of the first n lanes
abbrev pub oldest_of_each : ℕ → (ℕ → Lane) → List Slot
oldest_of_each n lane = set_below n (λ k. record { body = (lane k).first }) (replicate 16 no_slot)
