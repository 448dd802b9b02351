-- Document 01's marked examples M1 to M4 and M11 at a station: which seen record the station heeds,
-- and which posts are refused.
use Prim.Native.Nat.{ℕ, ◌+◌, ◌<◌}
use mathlib.Core.Bool.{true, false}
use mathlib.Core.Path.{◌≡◌, sym, ap, ◌∙◌}
use native.Mathlib.Omega.{arith}
use lib.Dec.{eqb}
use Rattle.bodies.specs.declared.Body.{Body}
use Rattle.bodies.specs.Limits.{postable, on_channel}
use Rattle.labels.specs.Newer.{is_newer}
use Rattle.labels.proofs.LabelExamples as labels
use Rattle.frame_spec.specs.declared.Record.{Record}
use Rattle.frame_spec.specs.Record.{record_label}
use Rattle.station_spec.specs.declared.Station.{Station}
use Rattle.station_spec.specs.declared.StationAnswer.{StationAnswer}
use Rattle.station_spec.specs.State.{held_of, record_of, own_label}
use Rattle.station_spec.specs.Limits.{station_inside}
use Rattle.station_spec.proofs.HearRecord.{accepts}
use Rattle.station_spec.specs.Calls.{posted, post_call}
use Rattle.station_spec.proofs.CallSteps.{post_no_edit, post_full, post_done}
use Rattle.queues.specs.Waiting.{is_desk, desk_count, waiting_count}
use Rattle.queues.proofs.WaitingLaws.{room_below, room_full, posted_count}

-- a station that holds a record of another station with some own label and count, and sees one with
-- another
pub record Seen (s : Station) (r : Record) (label_held count_held label_seen count_seen : ℕ) : Type 0 where
  pub other : eqb r.station s.own ≡ false
  pub held : held_of s r.station ≡ true
  pub held_label : record_label (record_of s r.station) r.station ≡ label_held
  pub held_count : (record_of s r.station).count ≡ count_held
  pub seen_label : own_label r ≡ label_seen
  pub seen_count : r.count ≡ count_seen

module _ (s : Station) (r : Record) where
  decided : {a b c d : ℕ} → Seen s r a b c d → accepts s r ≡ is_newer true a b c d
  decided v = rw v.other (λ i. is_newer (v.held i) (v.held_label i) (v.held_count i) (v.seen_label i) (v.seen_count i))

  pub m1 : Seen s r 1 0 1 1 → accepts s r ≡ true
  m1 v = decided v ∙ labels.m1

  pub m2 : Seen s r 1 0 1 0 → accepts s r ≡ false
  m2 v = decided v ∙ labels.m2

  pub m3 : (a b : ℕ) → Seen s r 2 a 0 b → accepts s r ≡ true
  m3 a b v = decided v ∙ labels.m3 a b

  pub m4 : (a b : ℕ) → Seen s r 0 a 2 b → accepts s r ≡ false
  m4 a b v = decided v ∙ labels.m4 a b

-- what a post at a station inside its limits returns. The table of kinds says which bodies are
-- edits, and so M9 and M10 name their numbers there and not here
module _ (s : Station) (i : station_inside s ≡ true) (d : ℕ) (k : is_desk d ≡ true) where
  pub refused : (b : Body) → postable b ≡ false → (post_call s d b).refusal ≡ 4
  refused b e = sym (ap (λ (x : StationAnswer). x.refusal) (post_no_edit s d b i k e))

  pub taken : (b : Body) → postable b ≡ true → on_channel s.edition b ≡ true → desk_count s.waiting d < s.waiting.limit → (post_call s d b).refusal ≡ 0
  taken b e c l = sym (ap (λ (x : StationAnswer). x.refusal) (post_done s d b i k e c (room_below s.waiting d l)))

  -- as long as fewer than 32 of the desk wait, an edit is accepted and waits
  pub m11_room :
      (b : Body) → postable b ≡ true → on_channel s.edition b ≡ true → s.waiting.limit ≡ 32 → desk_count s.waiting d < 32 →
      ((post_call s d b).refusal ≡ 0) × (waiting_count (post_call s d b).station.waiting ≡ waiting_count s.waiting + 1)
  m11_room b e c limit wait =
      let l : desk_count s.waiting d < s.waiting.limit = omega arith in (
        taken b e c l,
        sym (ap (λ (x : StationAnswer). waiting_count x.station.waiting) (post_done s d b i k e c (room_below s.waiting d l))) ∙ one_more,
      )
    where
      one_more : waiting_count (posted s d b).waiting ≡ waiting_count s.waiting + 1
      one_more = unfold posted in posted_count s.waiting d b ∙ omega arith

  -- the 33rd waiting edit of a desk
  pub m11 : (b : Body) → postable b ≡ true → on_channel s.edition b ≡ true → s.waiting.limit ≡ 32 → desk_count s.waiting d ≡ 32 → (post_call s d b).refusal ≡ 3
  m11 b e c limit l = sym (ap (λ (x : StationAnswer). x.refusal) (post_full s d b i k e c (room_full s.waiting d (omega arith))))
