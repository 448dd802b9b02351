-- A queue inside its limits stays so when an edit is put last where there is a place, and when the
-- oldest is removed; what is oldest may wait.
use Prim.Native.Nat.{ℕ, suc, ◌-◌, ◌≤◌, ◌<◌}
use mathlib.Core.Bool.{Bool, true, false, true≢false}
use mathlib.Core.Path.{◌≡◌, refl, sym, ap, ◌∙◌}
use native.Mathlib.Decide.{ℕ_discrete}
use native.Mathlib.Omega.{arith}
use lib.Dec.{leb}
use lib.ListN.{get_or, length, get_or-eq_default}
use lib.Seq.{get_or-set_same, get_or-set_other}
use borrow.Author.Tests.{leb-true, leb-false, le-leb}
use Rattle.bodies.specs.declared.Body.{Body}
use Rattle.bodies.specs.Limits.{may_wait}
use Rattle.lists.specs.Below.{all_below}
use Rattle.lists.proofs.Laws.{and_both, and_left, and_right, all_below_at, all_below_make}
use Rattle.queues.specs.declared.Slot.{Slot}
use Rattle.queues.specs.declared.Queue.{Queue}
use Rattle.queues.specs.Queue.{queue_capacity, no_slot, queued, oldest, unqueued, queue_inside}
use Rattle.queues.proofs.QueueLaws.{unqueued_at}

-- the body at a place of a queue
abbrev slot_body : Queue → ℕ → Body
slot_body q i = (get_or q.slots i no_slot).body

pub queue_most : (inside : Body → Bool) (limit : ℕ) (q : Queue) → queue_inside inside limit q ≡ true → q.len ≤ limit
unfolding queue_inside
queue_most inside limit q h = leb-true q.len limit (and_left (leb q.len limit) (all_below q.len (λ i. may_wait inside (slot_body q i))) h)

pub queue_waiting : (inside : Body → Bool) (limit : ℕ) (q : Queue) → queue_inside inside limit q ≡ true → (i : ℕ) → i < q.len → may_wait inside (slot_body q i) ≡ true
unfolding queue_inside
queue_waiting inside limit q h =
    all_below_at q.len (λ i. may_wait inside (slot_body q i)) (and_right (leb q.len limit) (all_below q.len (λ i. may_wait inside (slot_body q i))) h)

-- past the slots there is no body that may wait, so that no length counts more than they are
empty_refused : (inside : Body → Bool) → may_wait inside no_slot.body ≡ false
unfolding may_wait
empty_refused inside = refl

pub queue_slots : (inside : Body → Bool) (limit : ℕ) (q : Queue) → queue_inside inside limit q ≡ true → q.len ≤ length q.slots
queue_slots inside limit q h = go (leb q.len (length q.slots)) refl
  where
    go : (t : Bool) → leb q.len (length q.slots) ≡ t → q.len ≤ length q.slots
    go true e = leb-true q.len (length q.slots) e
    go false e =
        absurd
        (true≢false
        (sym (queue_waiting inside limit q h (length q.slots) (leb-false q.len (length q.slots) e))
        ∙ ap (λ (x : Slot). may_wait inside x.body) (get_or-eq_default q.slots no_slot (omega arith))
        ∙ empty_refused inside))

pub queue_make : (inside : Body → Bool) (limit : ℕ) (q : Queue) → q.len ≤ limit → ((i : ℕ) → i < q.len → may_wait inside (slot_body q i) ≡ true) → queue_inside inside limit q ≡ true
unfolding queue_inside
queue_make inside limit q l h = and_both (le-leb q.len limit l) (all_below_make q.len (λ i. may_wait inside (slot_body q i)) h)

pub queued_len : (q : Queue) (b : Body) → (queued q b).len ≡ suc q.len
unfolding queued
queued_len q b = omega arith

pub unqueued_len : (q : Queue) → (unqueued q).len ≡ q.len - 1
unfolding unqueued
unqueued_len q = refl

queued_last : (q : Queue) (b : Body) → q.len < length q.slots → slot_body (queued q b) q.len ≡ b
unfolding queued
queued_last q b l = ap (λ (x : Slot). x.body) (get_or-set_same q.slots q.len (record { body = b }) no_slot l)

queued_before : (q : Queue) (b : Body) (i : ℕ) → i < q.len → slot_body (queued q b) i ≡ slot_body q i
unfolding queued
queued_before q b i l =
    ap (λ (x : Slot). x.body)
    (get_or-set_other q.slots q.len i (record { body = b }) no_slot (λ e. absurd (omega arith)))

pub queued_inside :
    (inside : Body → Bool) (limit : ℕ) (q : Queue) (b : Body) → length q.slots ≡ queue_capacity → limit ≤ queue_capacity → queue_inside inside limit q ≡ true → q.len < limit → may_wait inside b ≡ true →
    queue_inside inside limit (queued q b) ≡ true
queued_inside inside limit q b shape high h l e = queue_make inside limit (queued q b) (omega (arith, queued_len q b)) each
  where
    each : (i : ℕ) → i < (queued q b).len → may_wait inside (slot_body (queued q b) i) ≡ true
    each i m =
        elim (ℕ_discrete i q.len) [
          | yes same ↦ rw (same, queued_last q b (omega arith)) e
          | no ne ↦ rw (queued_before q b i (omega (arith, queued_len q b))) (queue_waiting inside limit q h i (omega (arith, queued_len q b)))
        ]

pub unqueued_inside :
    (inside : Body → Bool) (limit : ℕ) (q : Queue) → length q.slots ≡ queue_capacity → limit ≤ queue_capacity → queue_inside inside limit q ≡ true → queue_inside inside limit (unqueued q) ≡ true
unqueued_inside inside limit q shape high h =
    let most : q.len ≤ limit = queue_most inside limit q h in
    let len : (unqueued q).len ≡ q.len - 1 = unqueued_len q in
    queue_make inside limit (unqueued q) (omega arith)
    (λ i m. ap (λ (x : Slot). may_wait inside x.body) (unqueued_at q i (omega arith) (omega arith)) ∙ queue_waiting inside limit q h (suc i) (omega arith))

pub oldest_waiting : (inside : Body → Bool) (limit : ℕ) (q : Queue) → queue_inside inside limit q ≡ true → 0 < q.len → may_wait inside (oldest q) ≡ true
unfolding oldest
oldest_waiting inside limit q h l = queue_waiting inside limit q h 0 l
