-- Document 01, "A station and its calls", and document 02, A2 and A7: the edits of a station that
-- wait to start, those of each of two desks in the order posted; how many of a desk may wait, the
-- station's limit; and which desk goes first where both wait.
use Rattle.std.specs.Prelude.{ℕ, ◌+◌, Bool, false, if◌then◌else◌, ◌&&◌, List, nat_le, nat_lt, ◌==◌, slice_index_or}
use Rattle.bodies.specs.declared.Body.{Body}
use Rattle.queues.specs.declared.Queue.{Queue}
use Rattle.queues.specs.declared.Waiting.{Waiting}
use Rattle.queues.specs.Queue.{queue_capacity, no_slot, queue_bodies, empty_queue}
use Rattle.queues.specs.Queue.{queued, oldest, unqueued, queue_inside}

-- what is a desk: 0 or 1
abbrev pub is_desk : ℕ → Bool
is_desk desk = nat_lt desk 2

abbrev pub other_desk : ℕ → ℕ
other_desk desk = if desk == 0 then 1 else 0

-- nothing waits, with a limit, and desk 0 goes first
unfoldable pub none_waiting : ℕ → Waiting
none_waiting limit = record { limit = limit; queue0 = empty_queue; queue1 = empty_queue; one_first = false }

-- the queue of a desk
unfoldable pub queue_of : Waiting → ℕ → Queue
queue_of w desk = if desk == 0 then w.queue0 else w.queue1

-- the waiting edits of a desk, in the order posted
unfoldable pub waiting_edits : Waiting → ℕ → List Body
waiting_edits w desk = queue_bodies (queue_of w desk)

-- how many of a desk wait, and how many of both
unfoldable pub desk_count : Waiting → ℕ → ℕ
desk_count w desk = (queue_of w desk).len

unfoldable pub waiting_count : Waiting → ℕ
waiting_count w = desk_count w 0 + desk_count w 1

-- the edit that waits behind i others of its desk
unfoldable pub waiting_at : Waiting → ℕ → ℕ → Body
waiting_at w desk i = (slice_index_or (queue_of w desk).slots i no_slot).body

-- what may be a limit: 1 to 32
abbrev pub limit_inside : ℕ → Bool
limit_inside limit = nat_le 1 limit && nat_le limit queue_capacity

-- the limit where none is named (document 02, A2)
abbrev pub default_limit : ℕ
default_limit = 8

-- one more of a desk may wait, whatever the other has
unfoldable pub has_room : Waiting → ℕ → Bool
has_room w desk = nat_lt (desk_count w desk) w.limit

-- with another queue of a desk, and another desk that goes first
abbrev pub with_queue : Waiting → ℕ → Queue → Waiting
with_queue w desk q =
    record {
      limit = w.limit;
      queue0 = if desk == 0 then q else w.queue0;
      queue1 = if desk == 0 then w.queue1 else q;
      one_first = w.one_first;
    }

abbrev pub with_first : Waiting → ℕ → Waiting
with_first w desk = record { limit = w.limit; queue0 = w.queue0; queue1 = w.queue1; one_first = desk == 1 }

-- one more edit of a desk, posted last
unfoldable pub with_posted : Waiting → ℕ → Body → Waiting
with_posted w desk b = with_queue w desk (queued (queue_of w desk) b)

-- the desk that goes first where both wait
unfoldable pub first_desk : Waiting → ℕ
first_desk w = if w.one_first then 1 else 0

-- the desk whose edit starts next: the one that goes first, or the other where that one has none
unfoldable pub next_desk : Waiting → ℕ
next_desk w = if nat_lt 0 (desk_count w (first_desk w)) then first_desk w else other_desk (first_desk w)

-- the edit that starts next: the oldest of that desk
unfoldable pub next_edit : Waiting → Body
next_edit w = oldest (queue_of w (next_desk w))

-- what waits once the next edit has started: the other desk goes first, also where this one waited
-- alone
unfoldable pub without_next : Waiting → Waiting
without_next w =
    with_first (with_queue w (next_desk w) (unqueued (queue_of w (next_desk w)))) (other_desk (next_desk w))

-- "Limits": the limit may be one, no more of a desk wait than the limit, and each may wait
unfoldable pub waiting_inside : (Body → Bool) → Waiting → Bool
waiting_inside inside w =
    limit_inside w.limit && (queue_inside inside w.limit w.queue0 && queue_inside inside w.limit w.queue1)
