-- Isolation: in a group inside its limits a post is judged by its own numbers, N, the edition, the
-- limit of its station, and how many edits of its own desk wait there.
use Prim.Native.Nat.{◌<◌}
use mathlib.Core.Bool.{Bool, true, false, not}
use mathlib.Core.Path.{◌≡◌, refl, sym, ap, ◌∙◌}
use native.Mathlib.Omega.{arith}
use lib.Dec.{ltb}
use lib.ListN.{length}
use borrow.Author.Tests.{ltb-true}
use Rattle.bodies.specs.Refusals.{bad_number, not_an_edit, bad_desk, bad_edition, queue_full, done, refuse_number}
use Rattle.bodies.specs.Limits.{postable, on_channel}
use Rattle.queues.specs.Waiting.{is_desk}
use Rattle.queues.proofs.WaitingLaws.{edits_count, room_same}
use Rattle.station_spec.specs.Limits.{allowed}
use Rattle.station_spec.specs.Calls.{post_refusal}
use Rattle.group_spec.specs.State.{station_at, size_of}
use Rattle.group_spec.specs.Calls.{group_post_refusal}
use Rattle.group_spec.specs.Desks.{Isolated}
use Rattle.group_spec.proofs.Members.{member_at}

pub isolated : Isolated
unfolding group_post_refusal
isolated g h x ig ih size edition limit edits = rw (ig, ih, size) (go (ltb x.station (size_of h)) refl)
  where
    go :
        (t : Bool) → ltb x.station (size_of h) ≡ t →
        refuse_number (not t) bad_number (post_refusal (station_at g x.station) x.desk x.body)
        ≡ refuse_number (not t) bad_number (post_refusal (station_at h x.station) x.desk x.body)
    go true e =
        let below : x.station < size_of h = ltb-true x.station (size_of h) e in
        let v = (station_at g x.station).waiting in
        let w = (station_at h x.station).waiting in
        let counts =
        sym (edits_count (allowed (station_at g x.station)) v (member_at g ig x.station (omega arith)).inside.waiting x.desk)
        ∙ ap length edits
        ∙ edits_count (allowed (station_at h x.station)) w (member_at h ih x.station below).inside.waiting x.desk in
        let same : (station_at g x.station).edition ≡ (station_at h x.station).edition =
        (member_at g ig x.station (omega arith)).edition ∙ edition ∙ sym (member_at h ih x.station below).edition in
        let room = room_same v w x.desk limit counts in
        (λ i.
        refuse_number (not (is_desk x.desk)) bad_desk
        (refuse_number (not (postable x.body)) not_an_edit
        (refuse_number (not (on_channel (same i) x.body)) bad_edition (refuse_number (not (room i)) queue_full done))))
    go false e = refl
