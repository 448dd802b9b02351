-- What a post and a start make of the waiting edits, desk by desk: the queue of one desk changes,
-- and all else stays but for the desk that goes first.
use Prim.Native.Nat.{ℕ}
use native.Mathlib.Omega.{arith}
use mathlib.Core.Bool.{true, false}
use mathlib.Core.Path.{◌≡◌}
use borrow.Author.Tests.{eq-eqb, ne_eqb}
use Rattle.bodies.specs.declared.Body.{Body}
use Rattle.queues.specs.declared.Queue.{Queue}
use Rattle.queues.specs.declared.Waiting.{Waiting}
use Rattle.queues.specs.Queue.{queued, unqueued}
use Rattle.queues.specs.Waiting.{queue_of, with_posted, next_desk, without_next}

pub queue_zero : (w : Waiting) (d : ℕ) → d ≡ 0 → queue_of w d ≡ w.queue0
unfolding queue_of
queue_zero w d e = rw (eq-eqb d 0 e)

pub queue_one : (w : Waiting) (d : ℕ) → (d ≡ 0 → ⊥) → queue_of w d ≡ w.queue1
unfolding queue_of
queue_one w d e = rw (ne_eqb d 0 e)

-- a post
pub posted_zero :
    (w : Waiting) (d : ℕ) (b : Body) (q : Queue) → d ≡ 0 → q ≡ queued w.queue0 b →
    record { limit = w.limit; queue0 = q; queue1 = w.queue1; one_first = w.one_first } ≡ with_posted w d b
unfolding with_posted
posted_zero w d b q e f = rw (queue_zero w d e, eq-eqb d 0 e, f)

pub posted_one :
    (w : Waiting) (d : ℕ) (b : Body) (q : Queue) → (d ≡ 0 → ⊥) → q ≡ queued w.queue1 b →
    record { limit = w.limit; queue0 = w.queue0; queue1 = q; one_first = w.one_first } ≡ with_posted w d b
unfolding with_posted
posted_one w d b q e f = rw (queue_one w d e, ne_eqb d 0 e, f)

-- that edit started
pub started_zero :
    (w : Waiting) (q : Queue) → next_desk w ≡ 0 → q ≡ unqueued w.queue0 →
    record { limit = w.limit; queue0 = q; queue1 = w.queue1; one_first = true } ≡ without_next w
unfolding without_next
started_zero w q z f = rw (queue_zero w (next_desk w) z, eq-eqb (next_desk w) 0 z, f)

pub started_one :
    (w : Waiting) (q : Queue) → next_desk w ≡ 1 → q ≡ unqueued w.queue1 →
    record { limit = w.limit; queue0 = w.queue0; queue1 = q; one_first = false } ≡ without_next w
unfolding without_next
started_one w q o f =
    let ne : next_desk w ≡ 0 → ⊥ = λ z. omega arith in
    rw (queue_one w (next_desk w) ne, ne_eqb (next_desk w) 0 ne, f)
