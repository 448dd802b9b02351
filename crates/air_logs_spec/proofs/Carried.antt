-- What a round of a group inside its limits reports is inside its limits: what a station took was
-- in a record that a frame may carry, what it aired stood in a lane, what it ended was its body,
-- and what it started is Empty or may stand in a lane.
use Prim.Native.Nat.{ℕ, zero, suc, ◌<◌, ◌≤◌}
use mathlib.Core.Path.{◌≡◌, refl, subst}
use mathlib.Core.Bool.{Bool, true, false, cond, false≢true}
use borrow.Author.Tests.{ltb-true}
use mathlib.Core.List.{List, [], ◌∷◌, ◌++◌}
use native.Mathlib.Omega.{arith}
use lib.Dec.{ltb, eqb}
use lib.ListN.{length, get_or, replicate, get_or-append, get_or-replicate}
use Rattle.bodies.specs.declared.Body.{Body}
use Rattle.bodies.specs.declared.Body.TheVariants.{Empty}
use Rattle.bodies.specs.Refusals.{done}
use Rattle.bodies.specs.Limits.{numbers_inside, inside_kind}
use Rattle.bodies.proofs.LimitLaws.{inside_kind_lem}
use Rattle.links.specs.Log.{hears_in}
use Rattle.lists.proofs.Keeps.{cond_keeps}
use Rattle.lists.proofs.Laws.{all_below_at, set_below_inside}
use Rattle.frame_spec.specs.declared.Record.{Record}
use Rattle.queues.specs.Queue.{no_slot}
use Rattle.station_spec.specs.declared.Station.{Station}
use Rattle.station_spec.specs.declared.Taking.{Taking}
use Rattle.station_spec.specs.State.{sent_records, lane_at}
use Rattle.station_spec.specs.Hearing.{Hearing, takes, hear_record, hear_records, hear_frame}
use Rattle.station_spec.specs.Turn.{airs, row_of, broadcast_ends, turn_report}
use Rattle.station_spec.specs.Calls.{no_turn}
use Rattle.station_spec.proofs.HearRecord.{heard_one, hear_record_cases}
use Rattle.station_spec.proofs.BodyLaws.{takeable_inside, allowed_inside}
use Rattle.station_spec.proofs.LimitsHear.{Carried}
use Rattle.station_spec.proofs.LimitsHearing.{AllCarried}
use Rattle.station_spec.proofs.LimitsSent.{sent_carried}
use Rattle.station_spec.specs.Limits.{takeable, allowed}
use Rattle.station_spec.proofs.LimitsTurn.{started_cases}
use Rattle.station_spec.proofs.LimitsLane.{lane_first}
use Rattle.station_spec.proofs.Setters.{Shaped}
use Rattle.station_spec.proofs.StationLimits.{Inside}
use Rattle.group_spec.specs.declared.Report.{Report}
use Rattle.group_spec.specs.State.{station_at, size_of}
use Rattle.group_spec.specs.Calls.{no_taking, heard_below, heard, no_report, report_of, round_refusal, round_call}
use Rattle.group_spec.proofs.Members.{Members}
use Rattle.group_spec.proofs.MembersRound.{Runs, runs, run_hears, run_room}

-- a body that a lane may hold is inside the limits of its kind, and so is Empty
allowed_kind : (s : Station) (b : Body) → allowed s b ≡ true → inside_kind b ≡ true
allowed_kind s b h = inside_kind_lem s.edition b (allowed_inside s b h)

takeable_kind : (s : Station) (b : Body) → takeable (allowed s) b ≡ true → inside_kind b ≡ true
takeable_kind s b h = allowed_kind s b (takeable_inside (allowed s) b h)

pub empty_kind : inside_kind Empty ≡ true
unfolding inside_kind numbers_inside
empty_kind = refl

abbrev Carries : ℕ → Taking → Type 0
Carries n t = (t.source < n) × (inside_kind t.body ≡ true)

abbrev AllTaken : ℕ → List Taking → Type 0
AllTaken n [] = Unit {0}
AllTaken n (t ∷ ts) = Carries n t × AllTaken n ts

taken_append : (n : ℕ) (xs ys : List Taking) → AllTaken n xs → AllTaken n ys → AllTaken n (xs ++ ys)
taken_append n [] ys a b = b
taken_append n (x ∷ xs) ys a b = (a.0, taken_append n xs ys a.1 b)

taken_at : (n : ℕ) (xs : List Taking) → AllTaken n xs → (k : ℕ) → k < length xs → Carries n (get_or xs k no_taking)
taken_at n [] a k l = absurd (omega arith)
taken_at n (x ∷ xs) a zero l = a.0
taken_at n (x ∷ xs) a (suc k) l = taken_at n xs a.1 k (omega arith)

module _ (n : ℕ) where
  took_record : (s : Station) (h : Hearing) (r : Record) → Carried (allowed s) n r → AllTaken n h.takings → AllTaken n (hear_record h r).takings
  unfolding heard_one
  took_record s h r c a =
      hear_record_cases (λ (x : Hearing). AllTaken n x.takings) h r (λ t. newer (takes h.station r)) (λ t. a) (λ t f. a)
    where
      newer : (u : Bool) → AllTaken n (h.takings ++ cond u (record { source = r.station; body = r.body } ∷ []) [])
      newer true = taken_append n h.takings (record { source = r.station; body = r.body } ∷ []) a ((c.station, allowed_kind s r.body c.body), tt)
      newer false = taken_append n h.takings [] a tt

  took_records : (s : Station) (h : Hearing) (rs : List Record) → AllCarried (allowed s) n rs → AllTaken n h.takings → AllTaken n (hear_records h rs).takings
  unfolding hear_records
  took_records s h [] c a = a
  took_records s h (r ∷ rs) c a = took_records s (hear_record h r) rs c.1 (took_record s h r c.0 a)

  took_frame : (s : Station) (h : Hearing) (rs : List Record) → AllCarried (allowed s) n rs → AllTaken n h.takings → AllTaken n (hear_frame h rs).takings
  unfolding hear_frame
  took_frame s h rs c a =
      cond_keeps (λ (x : Hearing). AllTaken n x.takings) (eqb h.refusal done) (hear_records h rs) h (took_records s h rs c a) a

  module _ (g : List Station) (c : Members n g) (masks : List ℕ) (run : Runs g masks) (i : ℕ) where
    took_below : (j : ℕ) → j ≤ n → AllTaken n (heard_below g masks i j).takings
    unfolding heard_below
    took_below zero l = tt
    took_below (suc j) l = go (hears_in (size_of g) masks i j) (took_below j (omega arith))
      where
        sent : AllCarried (allowed (station_at g j)) n (sent_records (station_at g j))
        sent =
            subst (λ (k : ℕ). AllCarried (allowed (station_at g j)) k (sent_records (station_at g j))) (c.member j l).size
            (sent_carried (station_at g j) (c.member j l).inside (run.counts j (omega (arith, c.size))))

        go : (t : Bool) → AllTaken n (heard_below g masks i j).takings →
            AllTaken n (cond t (hear_frame (heard_below g masks i j) (sent_records (station_at g j))) (heard_below g masks i j)).takings
        go true a = took_frame (station_at g j) (heard_below g masks i j) (sent_records (station_at g j)) sent a
        go false a = a

    took_all : AllTaken n (heard g masks i).takings
    took_all = took_below (size_of g) (omega (arith, c.size))

-- a report that is inside its limits
pub record Sound (n : ℕ) (r : Report) : Type 0 where
  pub taken : (k : ℕ) → k < r.takings_len → ((get_or r.takings k no_taking).source < n) × (inside_kind (get_or r.takings k no_taking).body ≡ true)
  pub aired : r.turn.aired ≡ true → (k : ℕ) → k < n → inside_kind (get_or r.turn.row k no_slot).body ≡ true
  pub ended : inside_kind r.turn.ended_body ≡ true
  pub started : inside_kind r.turn.started_body ≡ true

none_sound : (n : ℕ) → Sound n no_report
unfolding no_report no_turn
none_sound n = record { taken = λ k l. absurd (omega arith); aired = λ e. absurd (false≢true e); ended = empty_kind; started = empty_kind }

module _ (n : ℕ) (g : List Station) (c : Members n g) (masks : List ℕ) where
  turn_aired :
      (s : Station) → Inside s → (turn_report s).aired ≡ true → (k : ℕ) → k < s.n →
      inside_kind (get_or (turn_report s).row k no_slot).body ≡ true
  unfolding turn_report airs row_of
  turn_aired s h e k l =
      rw (e, set_below_inside s.n (λ j. record { body = (lane_at s j).first }) (replicate 16 no_slot) k no_slot l (omega (arith, h.high)))
      (takeable_kind s (lane_at s k).first
      (lane_first (allowed s) (cond (eqb k s.own) 1 2) (lane_at s k) (h.places k l).lane
      (ltb-true 0 (lane_at s k).len (all_below_at s.n (λ j. ltb 0 (lane_at s j).len) e k l))))

  turn_ended : (s : Station) → Inside s → inside_kind (turn_report s).ended_body ≡ true
  unfolding turn_report
  turn_ended s h = go (broadcast_ends s)
    where
      go : (t : Bool) → inside_kind (cond t s.body Empty) ≡ true
      go true = allowed_kind s s.body h.body
      go false = empty_kind

  turn_started : (s : Station) → Shaped s → Inside s → inside_kind (turn_report s).started_body ≡ true
  unfolding turn_report
  turn_started s shape h = started_cases s shape h (λ b. inside_kind b ≡ true) empty_kind (λ b t room. takeable_kind s b t)

  report_sound : Runs g masks → (i : ℕ) → i < n → Sound n (report_of g masks i)
  unfolding report_of
  report_sound run i l =
      let hs = run_hears n g c masks run i l in
      let inside = hs.inside (run_room n g c masks run i l) in
      let ts = (heard g masks i).takings in
      record {
        taken = λ k m. rw (get_or-append ts _ no_taking k m) (taken_at n ts (took_all n g c masks run i) k m);
        aired =
            λ e k m. turn_aired (heard g masks i).station inside e k
            (omega (arith, hs.n, (c.member i l).size));
        ended = turn_ended (heard g masks i).station inside;
        started = turn_started (heard g masks i).station hs.shaped inside;
      }

  -- what a round reports of a station below n, whatever stands past the end of the reports
  pub round_report : (i : ℕ) → i < n → (x : Report) × ((d : Report) → get_or (round_call g masks).reports i d ≡ x) × Sound n x
  unfolding round_call
  round_report i l = go (eqb (round_refusal g masks) done) refl
    where
      go : (t : Bool) → eqb (round_refusal g masks) done ≡ t →
          (x : Report) × ((d : Report) → get_or (round_call g masks).reports i d ≡ x) × Sound n x
      go true e = (
        report_of g masks i,
        (λ d. rw e (set_below_inside (size_of g) (report_of g masks) (replicate 16 no_report) i d (omega (arith, c.size)) (omega (arith, c.high)))),
        report_sound (runs g masks e) i l,
      )
      go false e = (no_report, (λ d. rw e (get_or-replicate 16 i no_report d (omega (arith, c.high)))), none_sound n)
