-- Document 01's marked examples M1 to M12, of the definitions. Those of labels, words, frames and
-- posts are shown in the crates below; a group of one computes, once its edit is known to be one.
use Rattle.std.specs.Prelude.{Ok}
use Prim.Native.Nat.{ℕ, ◌<◌}
use mathlib.Core.Bool.{true, false}
use mathlib.Core.List.{List, [], ◌∷◌}
use mathlib.Core.Path.{◌≡◌, refl, sym, ap, ◌∙◌}
use native.Mathlib.Omega.{arith}
use lib.Dec.{eqb}
use borrow.Author.Tests.{ltb-true}
use lib.IntN.{ℤ}
use lib.ListN.{get_or, set}
use Rattle.bodies.specs.declared.Body.{Body}
use Rattle.bodies.specs.declared.Body.TheVariants.{Empty, Neutral, Insert}
use Rattle.bodies.specs.Body.{is_empty, is_edit}
use Rattle.bodies.specs.Limits.{is_edition, postable, on_channel, channel_inside, inside_kind, body_inside, numbers_inside}
use Rattle.bodies.specs.Refusals.{done, not_an_edit}
use Rattle.bodies.proofs.LimitLaws.{postable_edit, postable_kind, postable_not_empty, argument_outside}
use Rattle.bodies.proofs.Examples as kinds
use Rattle.labels.proofs.LabelExamples as labels
use Rattle.labels.specs.Packing.{label_in, labels_inside}
use Rattle.labels.proofs.PackingExamples as words
use Rattle.frame_spec.specs.Words.{word_at}
use Rattle.frame_spec.specs.Record.{record_fits}
use Rattle.frame_spec.specs.Frame.{part, check_refusal, records_fit}
use Rattle.frame_spec.proofs.Check.{by_frame}
use Rattle.frame_spec.proofs.FrameTrip as frames
use Rattle.frame_spec.proofs.Outside.{body_outside}
use Rattle.station_spec.proofs.Bodies as held
use Rattle.station_spec.proofs.Examples as station
use Rattle.station_spec.specs.declared.Station.{Station}
use Rattle.station_spec.specs.Calls.{posted, post_call}
use Rattle.queues.specs.Queue.{no_slot}
use Rattle.queues.specs.Waiting.{is_desk, desk_count}
use Rattle.station_spec.specs.Hearing.{Hearing, initial_hearing}
use Rattle.station_spec.specs.Turn.{turn_report}
use Rattle.station_spec.specs.State.{alone_setup, fresh_station}
use Rattle.station_spec.specs.Limits.{station_inside}
use Rattle.lists.specs.Below.{all_below, any_below, set_below}
use Rattle.links.specs.Log.{hears_in}
use Rattle.group_spec.specs.State.{station_at, size_of, fresh_group}
use Rattle.group_spec.specs.Calls.{round_refusal, heard_below, after_round, report_of, round_call}
use Rattle.group_spec.specs.History.{History, report_in, Call.post, Call.round, next, begun, continued}
use Rattle.group_spec.proofs.MarkedStatement.{Marked, one_station, turn_in, insert_frame}
use Rattle.group_spec.proofs.Computing.{group_runs}
use Rattle.group_spec.proofs.MembersRound.{round_done}

-- a station alone hears nobody, so a round is its turn
module _ (g : List Station) (masks : List ℕ) (one : size_of g ≡ 1) where
  hears_none : heard_below g masks 0 1 ≡ initial_hearing (station_at g 0)
  unfolding heard_below hears_in
  hears_none = rw one

  alone_turn : round_refusal g masks ≡ done → (report_in (round_call g masks) 0).turn ≡ turn_report (station_at g 0)
  unfolding round_call report_of set_below
  alone_turn e =
      rw (e, one)
      (ap (λ (k : ℕ). turn_report (heard_below g masks 0 k).station) one ∙ ap (λ (h : Hearing). turn_report h.station) hears_none)

-- a group of one in which one edit is posted
module _ (b : Body) (e : postable b ≡ true) (on : on_channel 0 b ≡ true) where
  edit : is_edit b ≡ true
  edit = postable_edit b e

  inside : inside_kind b ≡ true
  inside = postable_kind b e

  kind : is_empty b ≡ false
  kind = postable_not_empty b e

  -- the group once the edit is posted
  before : List Station
  before = set (fresh_group alone_setup) 0 (posted (fresh_station alone_setup 0) 0 b)

  abbrev ready : History
  ready = record { group = before; rounds = []; log = []; accepted = record { station = 0; desk = 0; body = b } ∷ []; starts = [] }

  size : size_of before ≡ 1
  unfolding before group_runs
  size = refl

  post_done : next (begun alone_setup) (post (record { station = 0; desk = 0; body = b })) ≡ ready
  unfolding before group_runs
  post_done = simp (edit, inside, on)

  module _ (masks₁ masks₂ : List ℕ) where
    one_done : round_refusal before masks₁ ≡ done
    unfolding before group_runs
    one_done = simp (edit, inside, on)

    size_after : size_of (after_round before masks₁) ≡ 1
    unfolding before group_runs
    size_after = simp kind

    two_done : round_refusal (after_round before masks₁) masks₂ ≡ done
    unfolding before group_runs
    two_done = simp (kind, inside, on)

    abbrev ran : History
    ran = continued ready (round masks₁ ∷ round masks₂ ∷ [])

    post_first : one_station b masks₁ masks₂ ≡ ran
    unfolding continued
    post_first = ap (λ (H : History). continued H (round masks₁ ∷ round masks₂ ∷ [])) post_done

    turn_one : turn_in ran 0 ≡ turn_report (station_at before 0)
    unfolding continued next
    turn_one = alone_turn before masks₁ size one_done

    turn_two : turn_in ran 1 ≡ turn_report (station_at (after_round before masks₁) 0)
    unfolding continued next
    turn_two =
        ap (λ (g : List Station). (report_in (round_call g masks₂) 0).turn) (round_done before masks₁ (ap (λ (k : ℕ). eqb k done) one_done))
        ∙ alone_turn (after_round before masks₁) masks₂ size_after two_done

    starts :
        let t = turn_in (one_station b masks₁ masks₂) 0 in
        (t.aired ≡ false) × (t.ended ≡ true) × (t.ended_body ≡ Empty) × (t.started_body ≡ b)
    unfolding before group_runs
    starts = rw (post_first, turn_one) (refl, refl, refl, refl)

    aired :
        let t = turn_in (one_station b masks₁ masks₂) 1 in
        (t.aired ≡ true) × ((get_or t.row 0 no_slot).body ≡ b) × (t.ended ≡ true) × (t.ended_body ≡ b) × (t.started_body ≡ Neutral)
    unfolding before group_runs
    aired = rw (post_first, turn_two) (simp kind (refl, refl, refl, refl, refl))

-- of two posts to a station with room, one that may be posted and one not, the first is taken and
-- the second gives 4
posts :
    (s : Station) (d : ℕ) → station_inside s ≡ true → is_desk d ≡ true → desk_count s.waiting d < s.waiting.limit → (a b : Body) → postable a ≡ true → on_channel s.edition a ≡ true →
    postable b ≡ false →
    ((post_call s d a).refusal ≡ done) × ((post_call s d b).refusal ≡ not_an_edit)
posts s d i k room a b p o q = (station.taken s i d k a p o room, station.refused s i d k b q)

-- a frame of one insert inside its limits is accepted
framed :
    (edition channel : ℕ) (start : ℤ) → is_edition edition ≡ true → channel_inside edition 2 channel ≡ true →
    inside_kind (Insert channel 1 start) ≡ true →
    check_refusal edition (insert_frame edition channel start) 2 0 ≡ Ok tt
unfolding records_fit record_fits body_inside inside_kind labels_inside label_in all_below any_below
framed edition channel start w on h =
    sym (by_frame edition (insert_frame edition channel start) 2 0 refl w)
    ∙ frames.written_accepted edition 2 1 _ (omega arith) (simp (h, on)) 0 (λ e. omega arith) (omega arith) (ltb-true edition 2 w)

pub marked : Marked
marked =
    record {
      m1 = labels.m1;
      m2 = labels.m2;
      m3 = labels.m3;
      m4 = labels.m4;
      m5 = words.m5;
      m6 = words.m6;
      m7 = words.m7;
      m8_one = λ edition n sender r. (frames.m8 edition n sender (r ∷ [])).0 refl;
      m8_all = λ edition n sender rs sixteen. (frames.m8 edition n sender rs).1 sixteen;
      m9 =
          λ s d inside desk room channel event on least most.
          let e = kinds.m9 channel event least most in posts s d inside desk room _ _ e.0 on e.1;
      m10 =
          λ s d inside desk room channel event on least most.
          let e = kinds.m10 channel event least most in posts s d inside desk room _ _ e.0 on e.1;
      m10_framed =
          λ edition channel w on.
          framed edition channel _ w on (postable_kind _ (kinds.m10 channel 1 (omega arith) (omega arith)).0);
      m10_frame =
          λ edition bytes n own k valid known shape address below kind start.
          body_outside edition bytes n own k valid known shape address below
          ((λ i. numbers_inside (kind i) (word_at (part bytes k) 4) (start i))
          ∙ argument_outside 2 (word_at (part bytes k) 4) _ refl);
      m10_held =
          λ s channel event holds.
          let o = kinds.m10_outside s.edition channel event in
          (held.post_two s _ o holds, held.write_two s _ o holds, held.hear_two s _ o holds, held.turn_two s _ o holds);
      m11_room = λ s d b inside desk limit room e on. station.m11_room s inside d desk b e on limit room;
      m11 = λ s d b inside desk limit full e on. station.m11 s inside d desk b e on limit full;
      m12_starts = λ b masks₁ masks₂ e on. starts b e on masks₁ masks₂;
      m12_airs = λ b masks₁ masks₂ e on. aired b e on masks₁ masks₂;
    }
