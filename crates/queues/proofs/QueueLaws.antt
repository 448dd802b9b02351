-- Queues as lists: to put a body last or to remove the oldest is the same on a queue as on the list
-- of its bodies, as long as its slots reach that far.
use Prim.Native.Nat.{ℕ, zero, suc, ◌-◌, ◌≤◌, ◌<◌}
use mathlib.Core.Path.{◌≡◌, refl, sym, ap, ◌∙◌}
use mathlib.Core.List.{List, [], ◌∷◌, ◌++◌, map, map-append}
use native.Mathlib.Omega.{arith}
use native.Mathlib.Numerals.{add-one}
use lib.ListN.{take, drop, get_or, length, length-set, length-map, length-take, length-drop, length-append, get_or-append}
use lib.Seq.{take-suc-set, take_at, length-take-le, get_or-take, get_or-drop}
use Rattle.bodies.specs.declared.Body.{Body}
use Rattle.queues.specs.declared.Slot.{Slot}
use Rattle.queues.specs.declared.Queue.{Queue}
use Rattle.queues.specs.Queue.{no_slot, queue_bodies, empty_queue, queued, oldest, unqueued}

pub bodies_empty : queue_bodies empty_queue ≡ []
unfolding queue_bodies empty_queue
bodies_empty = refl

pub length-queue_bodies : (q : Queue) → q.len ≤ length q.slots → length (queue_bodies q) ≡ q.len
unfolding queue_bodies
length-queue_bodies q l = length-map (take q.len q.slots) (λ slot. slot.body) ∙ length-take-le q.len q.slots l

pub bodies_queued : (q : Queue) (b : Body) → q.len < length q.slots → queue_bodies (queued q b) ≡ queue_bodies q ++ (b ∷ [])
unfolding queue_bodies queued
bodies_queued q b l =
    rw (add-one, take-suc-set q.slots q.len (record { body = b }) l)
    (map-append (λ slot. slot.body) (take q.len q.slots) (record { body = b } ∷ []))

pub bodies_unqueued : (q : Queue) → 0 < q.len → q.len ≤ length q.slots → queue_bodies q ≡ oldest q ∷ queue_bodies (unqueued q)
unfolding queue_bodies oldest unqueued
bodies_unqueued q low high = go q.len q.slots low high
  where
    go :
        (k : ℕ) (slots : List Slot) → 0 < k → k ≤ length slots →
        queue_bodies (record { len = k; slots = slots }) ≡ oldest (record { len = k; slots = slots }) ∷ queue_bodies (unqueued (record { len = k; slots = slots }))
    go zero slots low high = absurd (omega arith)
    go (suc k) [] low high = absurd (omega arith)
    go (suc k) (x ∷ slots) low high =
        let one : k ≡ suc k - 1 = omega arith in
        let past : List Slot = no_slot ∷ drop k slots in
        ap (λ (l : List Slot). x.body ∷ map (λ slot. slot.body) l) (sym (take_at (take k slots) past k (length-take-le k slots (omega arith))))
        ∙ ap (λ (j : ℕ). x.body ∷ map (λ slot. slot.body) (take j (take j slots ++ past))) one

-- the slots when one is put last: as many
pub queued_slots : (q : Queue) (b : Body) → length (queued q b).slots ≡ length q.slots
unfolding queued
queued_slots q b = length-set q.slots q.len (record { body = b })

-- the slots when the oldest is removed: as many, and below the new length each is the next one
pub unqueued_slots : (q : Queue) → 0 < q.len → 0 < length q.slots → length (unqueued q).slots ≡ length q.slots
unfolding unqueued
unqueued_slots q low some =
    omega (
      arith,
      length-append (take (q.len - 1) (drop 1 q.slots)) (no_slot ∷ drop q.len q.slots),
      length-take (q.len - 1) (drop 1 q.slots),
      length-drop 1 q.slots,
      length-drop q.len q.slots,
    )

pub unqueued_at :
    (q : Queue) (i : ℕ) → q.len ≤ length q.slots → i < q.len - 1 → get_or (unqueued q).slots i no_slot ≡ get_or q.slots (suc i) no_slot
unfolding unqueued
unqueued_at q i high l =
    let rest = take (q.len - 1) (drop 1 q.slots) in
    get_or-append rest (no_slot ∷ drop q.len q.slots) no_slot i
    (omega (arith, length-take (q.len - 1) (drop 1 q.slots), length-drop 1 q.slots))
    ∙ get_or-take (q.len - 1) (drop 1 q.slots) i no_slot l
    ∙ get_or-drop 1 q.slots i no_slot
    ∙ ap (λ (k : ℕ). get_or q.slots k no_slot) (omega arith)
