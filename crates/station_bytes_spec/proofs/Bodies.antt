-- Bodies whose numbers have 32 bits: in lanes, in waiting edits, and in what a body of four numbers
-- is.
use mathlib.Core.Path.{◌≡◌, refl, sym, ap, subst, ◌∙◌}
use mathlib.Core.Bool.{Bool, true, false}
use mathlib.Core.List.{List, [], ◌∷◌, ◌++◌}
use Prim.Native.Nat.{ℕ, zero, suc, ◌+◌, ◌-◌, ◌<◌}
use native.Mathlib.Omega.{arith}
use lib.Dec.{eqb, ltb}
use lib.IntN.{ℤ}
use lib.ListN.{get_or, set, take, drop, length, length-set, length-take, replicate, length-replicate, get_or-replicate, get_or-append, get_or-eq_default}
use lib.Seq.{take-nil, get_or-take, get_or-drop, get_or-append-add}
use mir.Syntax.{w32}
use mir.Val.{SFits}
use borrow.Author.Tests.{ltb-true, ltb-false}
use Rattle.bodies.specs.declared.Body.{Body}
use Rattle.bodies.specs.declared.Body.TheVariants.{Empty, Neutral, Insert, Drop, Shift}
use Rattle.bodies.specs.Body.{body_of}
use Rattle.lists.proofs.Keeps.{cond_keeps, set_keeps}
use Rattle.frame_spec.specs.Words.{signed}
use Rattle.queues.specs.declared.Lane.{Lane}
use Rattle.queues.specs.declared.Slot.{Slot}
use Rattle.queues.specs.declared.Queue.{Queue}
use Rattle.queues.specs.declared.Waiting.{Waiting}
use Rattle.queues.specs.Lane.{bodies, lane_of, pushed, popped}
use Rattle.queues.specs.Queue.{no_slot, empty_queue, queued, oldest, unqueued}
use Rattle.queues.specs.Waiting.{none_waiting, queue_of, waiting_at, with_queue, with_posted, next_desk, next_edit, without_next}
use Rattle.queues.proofs.WaitingLaws.{each_queue}
use Rattle.station_bytes_spec.proofs.Body.{BodyFits}

pub empty_fits : BodyFits Empty
empty_fits = record { event_fits = omega arith; argument_fits = record { sfits = omega arith } }

pub neutral_fits : BodyFits Neutral
neutral_fits = record { event_fits = omega arith; argument_fits = record { sfits = omega arith } }

-- ---- four numbers

pub signed_fits : (w : ℕ) → w < 4_294_967_296 → SFits w32 (signed w)
unfolding signed
signed_fits w h = go (ltb w 2_147_483_648) refl
  where
    go : (t : Bool) → ltb w 2_147_483_648 ≡ t → SFits w32 (signed w)
    go true e = rw e (record { sfits = ltb-true w 2_147_483_648 e })
    go false e = rw e (record { sfits = omega (arith, ltb-false w 2_147_483_648 e) })

pub numbers_fit : (k e : ℕ) (z : ℤ) (c : ℕ) → e < 4_294_967_296 → SFits w32 z → BodyFits (body_of k e z c)
unfolding body_of
numbers_fit k e z c h f =
    cond_keeps BodyFits (eqb k 1) Neutral _ neutral_fits
    (cond_keeps BodyFits (eqb k 2) (Insert c e z) _ (record { event_fits = h; argument_fits = f })
    (cond_keeps BodyFits (eqb k 3) (Drop c e) _ (record { event_fits = h; argument_fits = record { sfits = omega arith } })
    (cond_keeps BodyFits (eqb k 4) (Shift c e z) Empty (record { event_fits = h; argument_fits = f }) empty_fits)))

-- ---- lanes

pub record LaneFits (l : Lane) : Type 0 where
  pub first : BodyFits l.first
  pub second : BodyFits l.second

module _ (l : Lane) (f : LaneFits l) where
  pub pushed_fits : (b : Body) → BodyFits b → LaneFits (pushed l b)
  unfolding bodies lane_of
  pushed_fits b g = go l.len
    where
      go : (n : ℕ) → LaneFits (lane_of (take n (l.first ∷ l.second ∷ []) ++ (b ∷ [])))
      go zero = record { first = g; second = empty_fits }
      go (suc zero) = record { first = f.first; second = g }
      go (suc (suc n)) = record { first = f.first; second = f.second }

  pub popped_fits : LaneFits (popped l)
  unfolding bodies lane_of
  popped_fits = go l.len
    where
      go : (n : ℕ) → LaneFits (lane_of (drop 1 (take n (l.first ∷ l.second ∷ []))))
      go zero = record { first = empty_fits; second = empty_fits }
      go (suc zero) = record { first = empty_fits; second = empty_fits }
      go (suc (suc n)) = rw (take-nil {A = Body} n) (record { first = f.second; second = empty_fits })

-- ---- the waiting edits

-- every slot of a list fits
pub record SlotsFit (slots : List Slot) : Type 0 where
  pub slot : (i : ℕ) → BodyFits (get_or slots i no_slot).body

-- what stands past the end is Empty, so the slots of a list are all that is asked
pub slots_fit : (slots : List Slot) → ((i : ℕ) → i < length slots → BodyFits (get_or slots i no_slot).body) → SlotsFit slots
slots_fit slots h = record { slot = λ i. go i (ltb i (length slots)) refl }
  where
    go : (i : ℕ) (t : Bool) → ltb i (length slots) ≡ t → BodyFits (get_or slots i no_slot).body
    go i true e = h i (ltb-true i (length slots) e)
    go i false e =
        subst (λ (s : Slot). BodyFits s.body) (sym (get_or-eq_default slots no_slot {n = i} (ltb-false i (length slots) e))) empty_fits

module _ (slots : List Slot) (f : SlotsFit slots) where
  take_fits : (n : ℕ) → SlotsFit (take n slots)
  take_fits n =
      slots_fit (take n slots)
      (λ i l. subst (λ (s : Slot). BodyFits s.body) (sym (get_or-take n slots i no_slot (omega (arith, length-take n slots)))) (f.slot i))

  drop_fits : (n : ℕ) → SlotsFit (drop n slots)
  drop_fits n = record { slot = λ i. subst (λ (s : Slot). BodyFits s.body) (sym (get_or-drop n slots i no_slot)) (f.slot (n + i)) }

append_fits : (xs ys : List Slot) → SlotsFit xs → SlotsFit ys → SlotsFit (xs ++ ys)
append_fits xs ys f g = record { slot = λ i. go i (ltb i (length xs)) refl }
  where
    go : (i : ℕ) (t : Bool) → ltb i (length xs) ≡ t → BodyFits (get_or (xs ++ ys) i no_slot).body
    go i true e = subst (λ (s : Slot). BodyFits s.body) (sym (get_or-append xs ys no_slot i (ltb-true i (length xs) e))) (f.slot i)
    go i false e =
        let far : length xs + (i - length xs) ≡ i = omega (arith, ltb-false i (length xs) e) in
        let at = ap (λ (j : ℕ). get_or (xs ++ ys) j no_slot) (sym far) ∙ get_or-append-add xs ys (i - length xs) no_slot in
        subst (λ (s : Slot). BodyFits s.body) (sym at) (g.slot (i - length xs))

cons_fits : (s : Slot) (xs : List Slot) → BodyFits s.body → SlotsFit xs → SlotsFit (s ∷ xs)
cons_fits s xs f g = record { slot = go }
  where
    go : (i : ℕ) → BodyFits (get_or (s ∷ xs) i no_slot).body
    go zero = f
    go (suc i) = g.slot i

-- a queue with a body put last, and with its oldest removed
queued_fits : (q : Queue) → SlotsFit q.slots → (b : Body) → BodyFits b → SlotsFit (queued q b).slots
unfolding queued
queued_fits q f b g =
    slots_fit (set q.slots q.len (record { body = b }))
    (λ i l.
    set_keeps (λ (s : Slot). BodyFits s.body) q.slots q.len (record { body = b }) no_slot i
    (rw (length-set q.slots q.len (record { body = b })) at l) (f.slot i) g)

unqueued_fits : (q : Queue) → SlotsFit q.slots → SlotsFit (unqueued q).slots
unfolding unqueued
unqueued_fits q f =
    append_fits (take (q.len - 1) (drop 1 q.slots)) (no_slot ∷ drop q.len q.slots)
    (take_fits (drop 1 q.slots) (drop_fits q.slots f 1) (q.len - 1))
    (cons_fits no_slot (drop q.len q.slots) empty_fits (drop_fits q.slots f q.len))

-- the edits of both desks fit
pub record EditsFit (w : Waiting) : Type 0 where
  pub zero_fits : SlotsFit w.queue0.slots
  pub one_fits : SlotsFit w.queue1.slots

abbrev QueueFits : Queue → Type 0
QueueFits q = SlotsFit q.slots

module _ (w : Waiting) (f : EditsFit w) where
  queue_fits : (d : ℕ) → SlotsFit (queue_of w d).slots
  queue_fits d = each_queue QueueFits w f.zero_fits f.one_fits d

  with_fits : (d : ℕ) (q : Queue) → SlotsFit q.slots → EditsFit (with_queue w d q)
  with_fits d q g =
      record {
        zero_fits = cond_keeps QueueFits (eqb d 0) q w.queue0 g f.zero_fits;
        one_fits = cond_keeps QueueFits (eqb d 0) w.queue1 q f.one_fits g;
      }

  pub posted_fit : (d : ℕ) (b : Body) → BodyFits b → EditsFit (with_posted w d b)
  unfolding with_posted
  posted_fit d b g = with_fits d (queued (queue_of w d) b) (queued_fits (queue_of w d) (queue_fits d) b g)

  pub started_fit : EditsFit (without_next w)
  unfolding without_next
  started_fit =
      let d = next_desk w in
      let e = with_fits d (unqueued (queue_of w d)) (unqueued_fits (queue_of w d) (queue_fits d)) in
      record { zero_fits = e.zero_fits; one_fits = e.one_fits }

  pub next_fits : BodyFits (next_edit w)
  unfolding next_edit oldest
  next_fits = (queue_fits (next_desk w)).slot 0

  pub edit_fits : (d i : ℕ) → BodyFits (waiting_at w d i)
  unfolding waiting_at
  edit_fits d i = (queue_fits d).slot i

pub none_fit : (limit : ℕ) → EditsFit (none_waiting limit)
unfolding none_waiting empty_queue
none_fit limit = record { zero_fits = empty; one_fits = empty }
  where
    empty : SlotsFit (replicate 32 no_slot)
    empty =
        slots_fit (replicate 32 no_slot)
        (λ i l. subst (λ (s : Slot). BodyFits s.body) (sym (get_or-replicate 32 i no_slot no_slot (rw (length-replicate 32 no_slot) at l))) empty_fits)
