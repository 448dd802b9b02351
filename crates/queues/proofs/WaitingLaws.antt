-- The waiting edits as a list for each desk: a post puts one last at its desk, a start takes the
-- first of the desk that is next and lets the other go first, and both keep the limits. Nothing
-- above these laws looks at queues; that the arrays have their length by their type is a predicate,
-- which every step keeps.
use Prim.Native.Nat.{ℕ, zero, suc, ◌+◌, ◌≤◌, ◌<◌}
use mathlib.Core.Bool.{Bool, true, false, cond, ◌&&◌}
use mathlib.Core.List.{[], ◌∷◌, ◌++◌, append-nil}
use mathlib.Core.Path.{◌≡◌, refl, sym, ap, subst, ◌∙◌}
use native.Mathlib.Decide.{ℕ_discrete}
use native.Mathlib.Omega.{arith}
use lib.Dec.{leb, ltb, eqb}
use lib.ListN.{length}
use borrow.Author.Tests.{ltb-true, ltb-false, lt-ltb, le-ltb, leb-true, le-leb, eq-eqb, ne_eqb}
use Rattle.lists.proofs.Laws.{both, and_both, and_left, and_right}
use Rattle.bodies.specs.declared.Body.{Body}
use Rattle.bodies.specs.Limits.{may_wait}
use Rattle.lists.specs.Below.{all_below}
use Rattle.queues.specs.declared.Queue.{Queue}
use Rattle.queues.specs.declared.Waiting.{Waiting}
use Rattle.queues.specs.Queue.{queue_capacity, queue_bodies, empty_queue, queued, oldest, unqueued, queue_inside}
use Rattle.queues.specs.Waiting.{is_desk, other_desk, limit_inside, none_waiting, queue_of, waiting_edits, desk_count, waiting_count, waiting_at, has_room, with_queue, with_first, with_posted, first_desk, next_desk, next_edit, without_next, waiting_inside}
use Rattle.queues.proofs.QueueLaws.{bodies_empty, length-queue_bodies, bodies_queued, bodies_unqueued, queued_slots, unqueued_slots}
use Rattle.queues.proofs.QueueLimits.{queue_most, queue_waiting, queue_slots, queued_len, unqueued_len, queued_inside, unqueued_inside, oldest_waiting}

-- the array of a queue has its length by its type
abbrev pub QueueSized : Queue → Type 0
QueueSized q = length q.slots ≡ queue_capacity

-- the arrays have their length by their type
pub record WaitingSized (w : Waiting) : Type 0 where
  pub slots : (d : ℕ) → length (queue_of w d).slots ≡ queue_capacity

-- a limit is at most what an array has room for
pub limit_most : (limit : ℕ) → limit_inside limit ≡ true → limit ≤ queue_capacity
limit_most limit e = leb-true limit queue_capacity (and_right (leb 1 limit) (leb limit queue_capacity) e)

-- desks: there are two

pub each_desk : (P : ℕ → Type 0) → P 0 → P 1 → (d : ℕ) → is_desk d ≡ true → P d
each_desk P z o zero e = z
each_desk P z o (suc zero) e = o
each_desk P z o (suc (suc d)) e = absurd (omega (arith, ltb-true (suc (suc d)) 2 e))

pub other_is : (d e : ℕ) → is_desk d ≡ true → is_desk e ≡ true → (d ≡ e → ⊥) → other_desk d ≡ e
other_is d e h k n =
    each_desk (λ x. (x ≡ e → ⊥) → other_desk x ≡ e)
    (λ m. omega (arith, m, ltb-true e 2 k))
    (λ m. omega (arith, m, ltb-true e 2 k))
    d
    h
    n

-- what both queues have, the queue of any desk has
pub each_queue : (P : Queue → Type 0) (w : Waiting) → P w.queue0 → P w.queue1 → (d : ℕ) → P (queue_of w d)
unfolding queue_of
each_queue P w z o d = go (eqb d 0)
  where
    go : (t : Bool) → P (cond t w.queue0 w.queue1)
    go true = z
    go false = o

pub both_sized : (w : Waiting) → QueueSized w.queue0 → QueueSized w.queue1 → WaitingSized w
both_sized w z o = record { slots = each_queue QueueSized w z o }

-- another queue of a desk, and another desk that goes first
queue_here : (w : Waiting) (d : ℕ) (q : Queue) → queue_of (with_queue w d q) d ≡ q
unfolding queue_of
queue_here w d q = go (eqb d 0)
  where
    go : (t : Bool) → cond t (cond t q w.queue0) (cond t w.queue1 q) ≡ q
    go true = refl
    go false = refl

queue_other : (w : Waiting) (d e : ℕ) (q : Queue) → is_desk d ≡ true → is_desk e ≡ true → (d ≡ e → ⊥) → queue_of (with_queue w d q) e ≡ queue_of w e
unfolding queue_of
queue_other w d e q h k n =
    each_desk (λ x. (x ≡ e → ⊥) → queue_of (with_queue w x q) e ≡ queue_of w e)
    (each_desk (λ y. (0 ≡ y → ⊥) → queue_of (with_queue w 0 q) y ≡ queue_of w y) (λ m. absurd (m refl)) (λ m. refl) e k)
    (each_desk (λ y. (1 ≡ y → ⊥) → queue_of (with_queue w 1 q) y ≡ queue_of w y) (λ m. refl) (λ m. absurd (m refl)) e k)
    d
    h
    n

-- what a property of each queue keeps when one of them is another
queue_each :
    (P : Queue → Type 0) (w : Waiting) (d : ℕ) (q : Queue) → P q → P w.queue0 → P w.queue1 →
    P (with_queue w d q).queue0 × P (with_queue w d q).queue1
queue_each P w d q new z o = go (eqb d 0)
  where
    go : (t : Bool) → P (cond t q w.queue0) × P (cond t w.queue1 q)
    go true = (new, o)
    go false = (z, new)

queue_counts :
    (w : Waiting) (d : ℕ) (q : Queue) → desk_count w d + waiting_count (with_queue w d q) ≡ q.len + waiting_count w
unfolding waiting_count desk_count queue_of
queue_counts w d q = go (eqb d 0)
  where
    go :
        (t : Bool) →
        (cond t w.queue0 w.queue1).len + ((cond t q w.queue0).len + (cond t w.queue1 q).len)
        ≡ q.len + (w.queue0.len + w.queue1.len)
    go true = omega arith
    go false = omega arith

-- nothing waits
none_queue : (limit d : ℕ) → queue_of (none_waiting limit) d ≡ empty_queue
unfolding none_waiting
none_queue limit d = each_queue (λ (q : Queue). q ≡ empty_queue) (none_waiting limit) refl refl d

pub none_edits : (limit d : ℕ) → waiting_edits (none_waiting limit) d ≡ []
unfolding waiting_edits
none_edits limit d = ap queue_bodies (none_queue limit d) ∙ bodies_empty

pub none_sized : (limit : ℕ) → WaitingSized (none_waiting limit)
none_sized limit = record { slots = λ d. ap (λ (q : Queue). length q.slots) (none_queue limit d) ∙ empty }
  where
    empty : length empty_queue.slots ≡ queue_capacity
    empty = unfold empty_queue in refl

pub none_first : (limit : ℕ) → first_desk (none_waiting limit) ≡ 0
unfolding first_desk none_waiting
none_first limit = refl

pub none_inside : (inside : Body → Bool) (limit : ℕ) → limit_inside limit ≡ true → waiting_inside inside (none_waiting limit) ≡ true
unfolding waiting_inside none_waiting empty_queue queue_inside all_below
none_inside inside limit e = rw (e, le-leb 0 limit (omega arith))

-- room for one more
pub room_below : (w : Waiting) (d : ℕ) → desk_count w d < w.limit → has_room w d ≡ true
unfolding has_room
room_below w d l = lt-ltb (desk_count w d) w.limit l

pub room_full : (w : Waiting) (d : ℕ) → w.limit ≤ desk_count w d → has_room w d ≡ false
unfolding has_room
room_full w d l = le-ltb (desk_count w d) w.limit l

pub room_count : (w : Waiting) (d : ℕ) → has_room w d ≡ true → desk_count w d < w.limit
unfolding has_room
room_count w d h = ltb-true (desk_count w d) w.limit h

-- the room of a desk depends on its own edits and the limit
pub room_same : (v w : Waiting) (d : ℕ) → v.limit ≡ w.limit → desk_count v d ≡ desk_count w d → has_room v d ≡ has_room w d
unfolding has_room
room_same v w d l c = (λ i. ltb (c i) (l i))

-- what is inside its limits has a limit that its arrays have room for, and queues by it
pub inside_limit : (inside : Body → Bool) (w : Waiting) → waiting_inside inside w ≡ true → limit_inside w.limit ≡ true
unfolding waiting_inside
inside_limit inside w i =
    and_left (limit_inside w.limit) (queue_inside inside w.limit w.queue0 && queue_inside inside w.limit w.queue1) i

inside_both : (inside : Body → Bool) (w : Waiting) → waiting_inside inside w ≡ true → (queue_inside inside w.limit w.queue0 ≡ true) × (queue_inside inside w.limit w.queue1 ≡ true)
unfolding waiting_inside
inside_both inside w i =
    both (queue_inside inside w.limit w.queue0) (queue_inside inside w.limit w.queue1)
    (and_right (limit_inside w.limit) (queue_inside inside w.limit w.queue0 && queue_inside inside w.limit w.queue1) i)

inside_make :
    (inside : Body → Bool) (w : Waiting) → limit_inside w.limit ≡ true → (queue_inside inside w.limit w.queue0 ≡ true) × (queue_inside inside w.limit w.queue1 ≡ true) →
    waiting_inside inside w ≡ true
unfolding waiting_inside
inside_make inside w l p = and_both l (and_both p.0 p.1)

inside_queue : (inside : Body → Bool) (w : Waiting) → waiting_inside inside w ≡ true → (d : ℕ) → queue_inside inside w.limit (queue_of w d) ≡ true
inside_queue inside w i d =
    let parts = inside_both inside w i in
    each_queue (λ (q : Queue). queue_inside inside w.limit q ≡ true) w parts.0 parts.1 d

pub inside_most : (inside : Body → Bool) (w : Waiting) → waiting_inside inside w ≡ true → (d : ℕ) → desk_count w d ≤ queue_capacity
unfolding desk_count
inside_most inside w i d =
    omega (arith, limit_most w.limit (inside_limit inside w i), queue_most inside w.limit (queue_of w d) (inside_queue inside w i d))

pub room_most : (inside : Body → Bool) (w : Waiting) (d : ℕ) → waiting_inside inside w ≡ true → has_room w d ≡ true → desk_count w d < queue_capacity
room_most inside w d i h = omega (arith, limit_most w.limit (inside_limit inside w i), room_count w d h)

-- how many wait
pub count_both : (w : Waiting) → waiting_count w ≡ desk_count w 0 + desk_count w 1
unfolding waiting_count
count_both w = refl

pub edits_count : (inside : Body → Bool) (w : Waiting) → waiting_inside inside w ≡ true → (d : ℕ) → length (waiting_edits w d) ≡ desk_count w d
unfolding waiting_edits desk_count
edits_count inside w i d = length-queue_bodies (queue_of w d) (queue_slots inside w.limit (queue_of w d) (inside_queue inside w i d))

pub waiting_fits : (inside : Body → Bool) (w : Waiting) → waiting_inside inside w ≡ true → (d i : ℕ) → i < desk_count w d → may_wait inside (waiting_at w d i) ≡ true
unfolding desk_count waiting_at
waiting_fits inside w i d = queue_waiting inside w.limit (queue_of w d) (inside_queue inside w i d)

-- one more of a desk, posted last

pub posted_count : (w : Waiting) (d : ℕ) (b : Body) → waiting_count (with_posted w d b) ≡ suc (waiting_count w)
unfolding with_posted
posted_count w d b = omega (arith, queue_counts w d (queued (queue_of w d) b), queued_len (queue_of w d) b, len)
  where
    len : desk_count w d ≡ (queue_of w d).len
    len = unfold desk_count in refl

pub posted_sized : (w : Waiting) (d : ℕ) (b : Body) → WaitingSized w → WaitingSized (with_posted w d b)
unfolding with_posted
posted_sized w d b c =
    let new = queued (queue_of w d) b in
    let each = queue_each (λ (q : Queue). length q.slots ≡ queue_capacity) w d new (queued_slots (queue_of w d) b ∙ c.slots d) (unfold queue_of in (c.slots 0)) (unfold queue_of in (c.slots 1)) in
    record { slots = each_queue (λ (q : Queue). length q.slots ≡ queue_capacity) (with_queue w d new) each.0 each.1 }

-- at its own desk one more waits, at the other as many
pub posted_edits :
    (w : Waiting) (d : ℕ) (b : Body) (e : ℕ) → is_desk d ≡ true → is_desk e ≡ true → WaitingSized w → desk_count w d < queue_capacity →
    waiting_edits (with_posted w d b) e ≡ waiting_edits w e ++ cond (eqb d e) (b ∷ []) []
unfolding waiting_edits desk_count with_posted
posted_edits w d b e h k c l =
    elim (ℕ_discrete d e) [
      | yes same ↦
          subst (λ (x : ℕ). queue_bodies (queue_of (with_queue w d new) x) ≡ queue_bodies (queue_of w x) ++ cond (eqb d x) (b ∷ []) []) same
          (rw (eq-eqb d d refl) (ap queue_bodies (queue_here w d new) ∙ bodies_queued (queue_of w d) b (omega (arith, l, c.slots d))))
      | no ne ↦
          rw (ne_eqb d e ne) (ap queue_bodies (queue_other w d e new h k ne) ∙ sym (append-nil (queue_bodies (queue_of w e))))
    ]
  where
    new : Queue
    new = queued (queue_of w d) b

pub posted_first : (w : Waiting) (d : ℕ) (b : Body) → first_desk (with_posted w d b) ≡ first_desk w
unfolding first_desk with_posted
posted_first w d b = refl

pub posted_limit : (w : Waiting) (d : ℕ) (b : Body) → (with_posted w d b).limit ≡ w.limit
unfolding with_posted
posted_limit w d b = refl

pub posted_inside :
    (inside : Body → Bool) (w : Waiting) (d : ℕ) (b : Body) → WaitingSized w → waiting_inside inside w ≡ true → has_room w d ≡ true → may_wait inside b ≡ true → waiting_inside inside (with_posted w d b) ≡ true
unfolding with_posted
posted_inside inside w d b c i h e =
    let parts = inside_both inside w i in
    inside_make inside (with_queue w d (queued (queue_of w d) b)) (inside_limit inside w i)
    (queue_each (λ (q : Queue). queue_inside inside w.limit q ≡ true) w d (queued (queue_of w d) b)
    (queued_inside inside w.limit (queue_of w d) b (c.slots d) (limit_most w.limit (inside_limit inside w i)) (inside_queue inside w i d) (unfold desk_count in (room_count w d h)) e)
    parts.0
    parts.1)

-- which desk is next

pub first_desk_lem : (w : Waiting) → is_desk (first_desk w) ≡ true
unfolding first_desk
first_desk_lem w = go w.one_first
  where
    go : (t : Bool) → is_desk (cond t 1 0) ≡ true
    go true = refl
    go false = refl

other_desk_lem : (d : ℕ) → is_desk (other_desk d) ≡ true
other_desk_lem d = go (eqb d 0)
  where
    go : (t : Bool) → is_desk (cond t 1 0) ≡ true
    go true = refl
    go false = refl

pub next_desk_lem : (w : Waiting) → is_desk (next_desk w) ≡ true
unfolding next_desk
next_desk_lem w = go (ltb 0 (desk_count w (first_desk w)))
  where
    go : (t : Bool) → is_desk (cond t (first_desk w) (other_desk (first_desk w))) ≡ true
    go true = first_desk_lem w
    go false = other_desk_lem (first_desk w)

-- a desk that goes first and has an edit is next
pub first_next : (w : Waiting) → 0 < desk_count w (first_desk w) → next_desk w ≡ first_desk w
unfolding next_desk
first_next w l = rw (lt-ltb 0 (desk_count w (first_desk w)) l)

-- where an edit waits, the next desk has one
pub next_waits : (w : Waiting) → 0 < waiting_count w → 0 < desk_count w (next_desk w)
unfolding next_desk
next_waits w l = go (ltb 0 (desk_count w (first_desk w))) refl
  where
    rest : (d : ℕ) → is_desk d ≡ true → desk_count w d ≤ 0 → 0 < desk_count w (other_desk d)
    rest =
        each_desk (λ d. desk_count w d ≤ 0 → 0 < desk_count w (other_desk d))
        (λ z. omega (arith, count_both w, l))
        (λ z. omega (arith, count_both w, l))

    go : (t : Bool) → ltb 0 (desk_count w (first_desk w)) ≡ t → 0 < desk_count w (cond t (first_desk w) (other_desk (first_desk w)))
    go true e = ltb-true 0 (desk_count w (first_desk w)) e
    go false e = rest (first_desk w) (first_desk_lem w) (ltb-false 0 (desk_count w (first_desk w)) e)

pub next_fits : (inside : Body → Bool) (w : Waiting) → waiting_inside inside w ≡ true → 0 < waiting_count w → may_wait inside (next_edit w) ≡ true
unfolding next_edit
next_fits inside w i l = oldest_waiting inside w.limit (queue_of w (next_desk w)) (inside_queue inside w i (next_desk w)) (unfold desk_count in (next_waits w l))

-- the next one started: its desk has one less, the other as many and goes first

started_queues : (w : Waiting) (d : ℕ) → queue_of (without_next w) d ≡ queue_of (with_queue w (next_desk w) (unqueued (queue_of w (next_desk w)))) d
unfolding without_next queue_of
started_queues w d = refl

pub started_count : (w : Waiting) → 0 < waiting_count w → waiting_count w ≡ suc (waiting_count (without_next w))
started_count w l =
    let d = next_desk w in
    let q = unqueued (queue_of w d) in
    omega (arith, same, queue_counts w d q, unqueued_len (queue_of w d), len, next_waits w l)
  where
    len : desk_count w (next_desk w) ≡ (queue_of w (next_desk w)).len
    len = unfold desk_count in refl

    same : waiting_count (without_next w) ≡ waiting_count (with_queue w (next_desk w) (unqueued (queue_of w (next_desk w))))
    same = unfold waiting_count desk_count in (λ i. (started_queues w 0 i).len + (started_queues w 1 i).len)

pub started_sized : (w : Waiting) → 0 < waiting_count w → WaitingSized w → WaitingSized (without_next w)
started_sized w l c =
    let d = next_desk w in
    let new = unqueued (queue_of w d) in
    let fits : length new.slots ≡ queue_capacity = unqueued_slots (queue_of w d) (unfold desk_count in (next_waits w l)) (omega (arith, c.slots d)) ∙ c.slots d in
    let each = queue_each (λ (q : Queue). length q.slots ≡ queue_capacity) w d new fits (unfold queue_of in (c.slots 0)) (unfold queue_of in (c.slots 1)) in
    record {
      slots =
          λ e.
          ap (λ (q : Queue). length q.slots) (started_queues w e)
          ∙ each_queue (λ (q : Queue). length q.slots ≡ queue_capacity) (with_queue w d new) each.0 each.1 e;
    }

pub started_edits :
    (inside : Body → Bool) (w : Waiting) (e : ℕ) → is_desk e ≡ true → WaitingSized w → waiting_inside inside w ≡ true → 0 < waiting_count w →
    waiting_edits w e ≡ cond (eqb (next_desk w) e) (next_edit w ∷ []) [] ++ waiting_edits (without_next w) e
unfolding waiting_edits next_edit
started_edits inside w e k c i l =
    elim (ℕ_discrete (next_desk w) e) [
      | yes same ↦
          subst
          (λ (x : ℕ). queue_bodies (queue_of w x) ≡ cond (eqb (next_desk w) x) (oldest (queue_of w (next_desk w)) ∷ []) [] ++ queue_bodies (queue_of (without_next w) x))
          same
          (rw (eq-eqb (next_desk w) (next_desk w) refl, started_queues w (next_desk w), queue_here w (next_desk w) new) front)
      | no ne ↦
          rw (ne_eqb (next_desk w) e ne)
          (ap queue_bodies (sym (started_queues w e ∙ queue_other w (next_desk w) e new (next_desk_lem w) k ne)))
    ]
  where
    new : Queue
    new = unqueued (queue_of w (next_desk w))

    front : queue_bodies (queue_of w (next_desk w)) ≡ oldest (queue_of w (next_desk w)) ∷ queue_bodies new
    front =
        bodies_unqueued (queue_of w (next_desk w)) (unfold desk_count in (next_waits w l))
        (unfold desk_count in (omega (arith, inside_most inside w i (next_desk w), c.slots (next_desk w))))

pub started_first : (w : Waiting) → first_desk (without_next w) ≡ other_desk (next_desk w)
unfolding first_desk without_next
started_first w = go (eqb (next_desk w) 0)
  where
    go : (t : Bool) → ◌≡◌ {A = ℕ} (cond (eqb (cond t 1 0) 1) 1 0) (cond t 1 0)
    go true = refl
    go false = refl

pub started_limit : (w : Waiting) → (without_next w).limit ≡ w.limit
unfolding without_next
started_limit w = refl

pub started_inside : (inside : Body → Bool) (w : Waiting) → WaitingSized w → waiting_inside inside w ≡ true → waiting_inside inside (without_next w) ≡ true
unfolding without_next
started_inside inside w c i =
    let d = next_desk w in
    let new = unqueued (queue_of w d) in
    let parts = inside_both inside w i in
    inside_make inside (with_first (with_queue w d new) (other_desk d)) (inside_limit inside w i)
    (queue_each (λ (q : Queue). queue_inside inside w.limit q ≡ true) w d new
    (unqueued_inside inside w.limit (queue_of w d) (c.slots d) (limit_most w.limit (inside_limit inside w i)) (inside_queue inside w i d))
    parts.0
    parts.1)
