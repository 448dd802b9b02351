-- Every step of a station keeps the lengths of its arrays, for it only changes entries: each is
-- made of setters, and these keep them.
use Prim.Native.Nat.{ℕ}
use mathlib.Core.Bool.{Bool, true, false, cond, ◌&&◌}
use mathlib.Core.Path.{◌≡◌, refl}
use lib.Dec.{eqb, ltb}
use lib.ListN.{length}
use borrow.Author.Tests.{ltb-true}
use Rattle.bodies.specs.declared.Body.{Body}
use Rattle.bodies.specs.Body.{is_empty}
use Rattle.frame_spec.specs.declared.Record.{Record}
use Rattle.lists.proofs.Laws.{and_right}
use Rattle.lists.proofs.Keeps.{cond_keeps}
use Rattle.queues.specs.Lane.{popped}
use Rattle.queues.specs.Waiting.{waiting_count, with_posted, without_next}
use Rattle.queues.proofs.WaitingLaws as laws
use Rattle.queues.proofs.WaitingLaws.{QueueSized, WaitingSized}
use Rattle.station_spec.specs.declared.Station.{Station}
use Rattle.station_spec.specs.State.{lane_at, with_broadcast, with_cell, with_acked, with_lanes}
use Rattle.station_spec.specs.Hearing.{heard_newer}
use Rattle.station_spec.specs.Turn.{airs, broadcast_ends, may_start, starts_edit, started_body, after_airing, begins, takes_own, after_end, with_own_record}
use Rattle.station_spec.specs.Calls.{posted}
use Rattle.station_spec.proofs.Setters.{Shaped, SameSelf, self_refl, lanes_self, SameButWaiting, waiting_same, waiting_shaped, broadcast_shaped, cell_shaped, acked_shaped, lanes_shaped}

-- the waiting edits after a turn
waiting_sized : (s : Station) → WaitingSized s.waiting → WaitingSized (cond (starts_edit s) (without_next s.waiting) s.waiting)
waiting_sized s e = go (starts_edit s) refl
  where
    go : (t : Bool) → starts_edit s ≡ t → WaitingSized (cond t (without_next s.waiting) s.waiting)
    go true h =
        let waits = ltb 0 (waiting_count s.waiting) in
        let some = ltb-true 0 (waiting_count s.waiting) (and_right (may_start s) waits (and_right (broadcast_ends s) (may_start s && waits) h)) in
        laws.started_sized s.waiting some e
    go false h = e

-- a post changes waiting edits only
pub posted_same : (s : Station) (d : ℕ) (b : Body) → SameButWaiting s (posted s d b)
unfolding posted
posted_same s d b = waiting_same s (with_posted s.waiting d b) (laws.posted_sized s.waiting d b)

pub posted-shaped : (s : Station) (d : ℕ) (b : Body) → Shaped s → Shaped (posted s d b)
posted-shaped s d b c = (posted_same s d b).shape c

pub heard_newer-shaped : (s : Station) (r : Record) → Shaped s → Shaped (heard_newer s r)
unfolding heard_newer
heard_newer-shaped s r c = cell_shaped (with_broadcast s s.body _) r.station _ (broadcast_shaped s s.body _ c)

-- the steps of a turn
pub aired_self : (s : Station) → SameSelf (after_airing s) s
unfolding after_airing
aired_self s =
    cond_keeps (λ (t : Station). SameSelf t s) (airs s) (with_lanes s (λ k. popped (lane_at s k))) s
    (lanes_self s (λ k. popped (lane_at s k))) (self_refl s)

pub aired_shaped : (s : Station) → Shaped s → Shaped (after_airing s)
unfolding after_airing
aired_shaped s c =
    cond_keeps Shaped (airs s) (with_lanes s (λ k. popped (lane_at s k))) s (lanes_shaped s (λ k. popped (lane_at s k)) c) c

pub begins-shaped : (s : Station) (b : Body) → Shaped s → Shaped (begins s b)
unfolding begins
begins-shaped s b c =
    let t = with_acked (with_broadcast s b 0) (λ k. eqb k s.own) in
    let shape : Shaped t = acked_shaped (with_broadcast s b 0) (λ k. eqb k s.own) (broadcast_shaped s b 0 c) in
    cell_shaped t s.own _ shape

takes_own-shaped : (s : Station) (b : Body) → Shaped s → Shaped (takes_own s b)
unfolding takes_own
takes_own-shaped s b c = cond_keeps Shaped (is_empty b) s (with_cell s s.own _) c (cell_shaped s s.own _ c)

pub after_end-shaped : (s : Station) → Shaped s → Shaped (after_end s)
unfolding after_end
after_end-shaped s c =
    let t = after_airing s in
    let shape : Shaped t = aired_shaped s c in
    let next = begins t (started_body s) in
    let started : Shaped (takes_own next (started_body s)) =
    takes_own-shaped next (started_body s) (begins-shaped t (started_body s) shape) in
    cond_keeps Shaped (broadcast_ends s) _ t (waiting_shaped (takes_own next (started_body s)) _ (waiting_sized s c.waiting) started) shape

pub with_own_record-shaped : (s : Station) → Shaped s → Shaped (with_own_record s)
unfolding with_own_record
with_own_record-shaped s c = cell_shaped s s.own _ c

-- the lengths that the arrays of a station have by their types
pub shaped :
    (s : Station) → length s.acked ≡ 16 → length s.labels ≡ 16 → length s.held ≡ 16 → length s.table ≡ 16 → length s.lanes ≡ 16 →
    QueueSized s.waiting.queue0 → QueueSized s.waiting.queue1 → Shaped s
shaped s a l h t n z o =
    record {
      acked = a;
      labels = l;
      held = h;
      table = t;
      lanes = n;
      waiting = laws.both_sized s.waiting z o;
    }
