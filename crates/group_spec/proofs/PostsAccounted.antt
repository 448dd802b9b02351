-- Accepted posts are all accounted for, after every list of calls: of each desk, in their order,
-- the first started, and the last wait; of those that started, of both desks, the first were aired,
-- and the last stand in the own lane. One invariant is carried from call to call: the group is
-- inside its limits, each post is of a desk, and the lists agree. A post adds one waiting edit; a
-- turn moves edits on; a refused call changes nothing.
use Prim.Native.Nat.{ℕ, ◌+◌, ◌≤◌, ◌<◌}
use mathlib.Core.Bool.{Bool, true, false, cond}
use mathlib.Core.List.{List, [], ◌∷◌, ◌++◌, append-nil, append_assoc}
use mathlib.Core.Path.{◌≡◌, refl, sym, ap, subst, ◌∙◌}
use native.Mathlib.Decide.{ℕ_discrete}
use native.Mathlib.Omega.{arith}
use lib.Dec.{eqb}
use lib.ListN.{get_or, length, length-append, replicate, get_or-replicate}
use Rattle.bodies.specs.declared.Body.{Body}
use Rattle.bodies.specs.Body.{is_empty, is_edit}
use Rattle.bodies.specs.Refusals.{done}
use Rattle.lists.specs.Below.{set_below}
use Rattle.lists.proofs.Laws.{set_below_inside}
use Rattle.station_spec.specs.Limits.{allowed}
use Rattle.station_spec.specs.declared.Setup.{Setup}
use Rattle.station_spec.specs.declared.Station.{Station}
use Rattle.station_spec.specs.declared.Taking.{Taking}
use Rattle.queues.specs.Lane.{bodies}
use Rattle.station_spec.specs.State.{Cell, lane_at, fresh_station}
use Rattle.station_spec.specs.Hearing.{initial_hearing}
use Rattle.station_spec.specs.Turn.{airs, row_of, started_body, turn_report, after_turn}
use Rattle.queues.specs.Queue.{no_slot}
use Rattle.queues.specs.declared.Waiting.{Waiting}
use Rattle.queues.specs.Waiting.{is_desk, other_desk, waiting_edits, desk_count, waiting_count, has_room, first_desk, next_desk, waiting_inside}
use Rattle.queues.proofs.WaitingLaws.{WaitingSized, none_edits, count_both, edits_count, posted_edits, posted_first, room_most, next_desk_lem}
use Rattle.station_spec.specs.Calls.{posted, no_turn}
use Rattle.station_spec.proofs.Setters.{fresh_self, fresh_own}
use Rattle.station_spec.proofs.LimitsHearing.{Hears}
use Rattle.group_spec.specs.declared.Post.{Post}
use Rattle.group_spec.specs.declared.Report.{Report}
use Rattle.group_spec.specs.declared.RoundDone.{RoundDone}
use Rattle.group_spec.specs.State.{station_at, size_of}
use Rattle.group_spec.specs.Calls.{after_post, group_post_call, heard, no_report, report_of, round_refusal, round_call}
use Rattle.group_spec.specs.History.{History, Call, Call.post, Call.round, next, begun, continued, history_of, report_in, starts_in, unless_empty, collect, takings_of, posts_at, posts_of, started, edits_of, aired_list, only_edits}
use Rattle.group_spec.proofs.Setups.{Accepts}
use Rattle.group_spec.proofs.Members.{Members, fresh_at}
use Rattle.group_spec.proofs.MembersPost.{accepted, post_accepted, post_refused, post_refusal, posted_at, posted_other}
use Rattle.group_spec.proofs.MembersRound.{Runs, runs, run_hears, run_room, after_at, round_done, round_refused}
use Rattle.group_spec.proofs.HistoryInside.{members-next, members-begun}
use Rattle.group_spec.proofs.TurnAccount.{if_edit, start_of, turn_waiting, turn_first, turn_edits, turn_lane, row_account}
use Rattle.group_spec.proofs.Takings.{takings_of-append, posts_at-append, posts_of-append, desk_other, desk_here, posts_gathered, desk_gathered, only_edits-append, only_edits_unless}
use Rattle.group_spec.specs.Desks.{Interleaved}
use Rattle.group_spec.proofs.Interleaving.{EachDesk, desks_none, desks_one, desks_append, desks_filter_map, interleave, interleaved-length}
use Rattle.group_spec.proofs.CallRun.{post_same}

module _ {A : Type 0} where
  pub collect_last : (f : RoundDone → List A) (rs : List RoundDone) (r : RoundDone) → collect f (rs ++ (r ∷ [])) ≡ collect f rs ++ f r
  unfolding collect
  collect_last f [] r = append-nil (f r)
  collect_last f (x ∷ rs) r = ap (λ (l : List A). f x ++ l) (collect_last f rs r) ∙ sym (append_assoc (f x) (collect f rs) (f r))

-- what a round's report adds to the aired list
abbrev aired_of : ℕ → Report → List Taking
aired_of n r = cond r.turn.aired (edits_of n r.turn.row) []

-- what waits at a desk of a station, and the edits in its own lane
abbrev pub waits : List Station → ℕ → ℕ → List Body
waits g p d = waiting_edits (station_at g p).waiting d

abbrev own_edits : List Station → ℕ → List Body
own_edits g p = only_edits (bodies (lane_at (station_at g p) p))

-- a post

posted_waits :
    (s : Station) (e : ℕ) (b : Body) (d : ℕ) → is_desk e ≡ true → is_desk d ≡ true →
    WaitingSized s.waiting → waiting_inside (allowed s) s.waiting ≡ true → has_room s.waiting e ≡ true →
    waiting_edits (posted s e b).waiting d ≡ waiting_edits s.waiting d ++ cond (eqb e d) (b ∷ []) []
unfolding posted
posted_waits s e b d h k c i l = posted_edits s.waiting e b d h k c (room_most (allowed s) s.waiting e i l)

posted_firsts : (s : Station) (e : ℕ) (b : Body) → first_desk (posted s e b).waiting ≡ first_desk s.waiting
unfolding posted
posted_firsts s e b = posted_first s.waiting e b

-- the posts that a call adds to the accepted ones
abbrev pub accepts : List Station → Post → List Post
accepts g x = cond (eqb (group_post_call g x).refusal done) (x ∷ []) []

-- an accepted post is of a desk
accepts_desk : (g : List Station) (x : Post) → EachDesk (accepts g x)
accepts_desk g x =
    desks_one (eqb (group_post_call g x).refusal done) x (λ e. (accepted g x (rw (post_refusal g x) at e)).desk)

module _ (n : ℕ) (g : List Station) (c : Members n g) (x : Post) (p : ℕ) where
  -- one more waits at the station and the desk of an accepted post
  pub post_waits : (d : ℕ) → is_desk d ≡ true → waits (group_post_call g x).group p d ≡ waits g p d ++ posts_of p d (accepts g x)
  unfolding posts_of
  post_waits d desk = go (eqb (group_post_call g x).refusal done) refl
    where
      go :
          (t : Bool) → eqb (group_post_call g x).refusal done ≡ t →
          waits (group_post_call g x).group p d ≡ waits g p d ++ posts_of p d (cond t (x ∷ []) [])
      go true e =
          let k = x.station in
          let made = accepted g x (rw (post_refusal g x) at e) in
          let below : k < n = omega (arith, c.size, made.below) in
          let sized : WaitingSized (station_at g k).waiting = (c.shape.stations k (omega (arith, c.high))).waiting in
          ap (λ (h : List Station). waits h p d) (post_accepted g x e)
          ∙ elim (ℕ_discrete p k) [
            | yes same ↦
                subst (λ (j : ℕ). waits (after_post g x) j d ≡ waits g j d ++ posts_of j d (x ∷ [])) (sym same)
                (ap (λ (s : Station). waiting_edits s.waiting d) (posted_at n g c x below)
                ∙ posted_waits (station_at g k) x.desk x.body d made.desk desk sized (c.member k below).inside.waiting made.room
                ∙ ap (λ (l : List Body). waits g k d ++ l) (sym (desk_here d x)))
            | no ne ↦
                ap (λ (s : Station). waiting_edits s.waiting d) (posted_other n g c x below p ne)
                ∙ sym (append-nil (waits g p d))
                ∙ ap (λ (l : List Body). waits g p d ++ l) (sym (desk_other p d x (λ z. ne (sym z))))
          ]
      go false e = ap (λ (h : List Station). waits h p d) (post_refused g x e) ∙ sym (append-nil (waits g p d))

  -- which desk goes first stays
  pub post_first : first_desk (station_at (group_post_call g x).group p).waiting ≡ first_desk (station_at g p).waiting
  post_first = go (eqb (group_post_call g x).refusal done) refl
    where
      go :
          (t : Bool) → eqb (group_post_call g x).refusal done ≡ t →
          first_desk (station_at (group_post_call g x).group p).waiting ≡ first_desk (station_at g p).waiting
      go true e =
          let k = x.station in
          let below : k < n = omega (arith, c.size, (accepted g x (rw (post_refusal g x) at e)).below) in
          ap (λ (h : List Station). first_desk (station_at h p).waiting) (post_accepted g x e)
          ∙ elim (ℕ_discrete p k) [
            | yes same ↦
                subst (λ (j : ℕ). first_desk (station_at (after_post g x) j).waiting ≡ first_desk (station_at g j).waiting) (sym same)
                (ap (λ (s : Station). first_desk s.waiting) (posted_at n g c x below) ∙ posted_firsts (station_at g k) x.desk x.body)
            | no ne ↦ ap (λ (s : Station). first_desk s.waiting) (posted_other n g c x below p ne)
          ]
      go false e = ap (λ (h : List Station). first_desk (station_at h p).waiting) (post_refused g x e)

post_lane : (g : List Station) (x : Post) (p : ℕ) → own_edits g p ≡ own_edits (group_post_call g x).group p
post_lane g x p = ap (λ (c : Cell). only_edits (bodies c.lane)) ((post_same g x p).cells p)

-- a round

-- the edits of p among those that a round reports as started, and those of a desk
module _ (g : List Station) (r : RoundDone) (p : ℕ) (l : p < size_of g) where
  abbrev body_in : ℕ → Body
  body_in k = (report_in r k).turn.started_body

  abbrev desk_in : ℕ → ℕ
  desk_in k = next_desk (station_at g k).waiting

  starts_own : posts_at p (starts_in g r) ≡ if_edit (body_in p)
  unfolding starts_in
  starts_own = posts_gathered (λ k. is_edit (body_in k)) desk_in body_in p (size_of g) l

  starts_desk : (d : ℕ) → posts_of p d (starts_in g r) ≡ start_of (desk_in p) (body_in p) d
  unfolding starts_in
  starts_desk d = desk_gathered (λ k. is_edit (body_in k)) desk_in body_in p d (size_of g) l

starts_desks : (g : List Station) (r : RoundDone) → EachDesk (starts_in g r)
unfolding starts_in
starts_desks g r = desks_filter_map (size_of g) _ _ (λ k. next_desk_lem (station_at g k).waiting)

reports_done :
    (g : List Station) (masks : List ℕ) → eqb (round_refusal g masks) done ≡ true →
    (round_call g masks).reports ≡ set_below (size_of g) (report_of g masks) (replicate 16 no_report)
unfolding round_call
reports_done g masks e = rw e

reports_refused : (g : List Station) (masks : List ℕ) → eqb (round_refusal g masks) done ≡ false → (round_call g masks).reports ≡ replicate 16 no_report
unfolding round_call
reports_refused g masks e = rw e

no_report_aired : (n : ℕ) → aired_of n no_report ≡ []
unfolding no_report no_turn
no_report_aired n = refl

no_report_edit : is_edit no_report.turn.started_body ≡ false
unfolding no_report no_turn
no_report_edit = refl

no_report_started : if_edit no_report.turn.started_body ≡ []
no_report_started = rw no_report_edit

no_report_bodies : length (unless_empty no_report.turn.started_body) ≡ length (if_edit no_report.turn.started_body)
unfolding no_report no_turn
no_report_bodies = refl

report_starts : (g : List Station) (masks : List ℕ) (p : ℕ) → (report_of g masks p).turn.started_body ≡ started_body (heard g masks p).station
unfolding report_of turn_report
report_starts g masks p = refl

module _ (n : ℕ) (g : List Station) (c : Members n g) (masks : List ℕ) (p : ℕ) (below : p < n) where
  -- what is aired of a station's own in a round that is not refused
  report_aired :
      (run : Runs g masks) →
      takings_of p (aired_of n (report_of g masks p))
      ≡ cond (airs (heard g masks p).station) (if_edit (lane_at (heard g masks p).station p).first) []
  unfolding report_of turn_report takings_of
  report_aired run = go (airs (heard g masks p).station)
    where
      s : Station
      s = (heard g masks p).station

      size : s.n ≡ n
      size = (run_hears n g c masks run p below).n ∙ (c.member p below).size

      go :
          (t : Bool) →
          takings_of p (cond t (edits_of n (cond t (row_of s) (replicate 16 no_slot))) []) ≡ cond t (if_edit (lane_at s p).first) []
      go true = row_account n s p c.high size below
      go false = refl

  done_report : eqb (round_refusal g masks) done ≡ true → report_in (round_call g masks) p ≡ report_of g masks p
  done_report e =
      ap (λ (l : List Report). get_or l p no_report) (reports_done g masks e)
      ∙ set_below_inside (size_of g) (report_of g masks) (replicate 16 no_report) p no_report (omega (arith, c.size)) (omega (arith, c.high))

  refused_report : eqb (round_refusal g masks) done ≡ false → report_in (round_call g masks) p ≡ no_report
  refused_report e =
      ap (λ (l : List Report). get_or l p no_report) (reports_refused g masks e)
      ∙ get_or-replicate 16 p no_report no_report (omega (arith, c.high))

  -- what the station reports as started, and the desk that was next
  abbrev pub body_started : Body
  body_started = (report_in (round_call g masks) p).turn.started_body

  abbrev pub desk_next : ℕ
  desk_next = next_desk (station_at g p).waiting

  own_starts : posts_at p (starts_in g (round_call g masks)) ≡ if_edit body_started
  own_starts = starts_own g (round_call g masks) p (omega (arith, c.size))

  pub desk_starts : (d : ℕ) → posts_of p d (starts_in g (round_call g masks)) ≡ start_of desk_next body_started d
  desk_starts = starts_desk g (round_call g masks) p (omega (arith, c.size))

  -- what a round that is not refused does to the station
  module _ (e : eqb (round_refusal g masks) done ≡ true) where
    s : Station
    s = (heard g masks p).station

    hears : Hears (initial_hearing (station_at g p)) (heard g masks p)
    hears = run_hears n g c masks (runs g masks e) p below

    lane_heard : lane_at s p ≡ lane_at (station_at g p) p
    unfolding s
    lane_heard = subst (λ (j : ℕ). lane_at s j ≡ lane_at (station_at g p) j) (c.member p below).own hears.lane

    after : station_at (round_call g masks).group p ≡ after_turn s
    unfolding s
    after = ap (λ (h : List Station). station_at h p) (round_done g masks e) ∙ after_at n g c masks (runs g masks e) p below

    body_done : body_started ≡ started_body s
    unfolding s
    body_done = ap (λ (r : Report). r.turn.started_body) (done_report e) ∙ report_starts g masks p

    starts_done : posts_at p (starts_in g (round_call g masks)) ≡ if_edit (started_body s)
    starts_done = own_starts ∙ ap if_edit body_done

    aired_done : takings_of p (aired_of n (report_in (round_call g masks) p)) ≡ cond (airs s) (if_edit (lane_at s p).first) []
    unfolding s
    aired_done = ap (λ (r : Report). takings_of p (aired_of n r)) (done_report e) ∙ report_aired (runs g masks e)

    waits_done :
        (d : ℕ) → is_desk d ≡ true →
        waits g p d ≡ posts_of p d (starts_in g (round_call g masks)) ++ waits (round_call g masks).group p d
    unfolding s
    waits_done d desk =
        let inside = hears.inside (run_room n g c masks (runs g masks e) p below) in
        ap (λ (w : Waiting). waiting_edits w d) (sym hears.waiting)
        ∙ turn_waiting s hears.shaped inside d desk
        ∙ (λ i. start_of (next_desk (hears.waiting i)) (sym body_done i) d ++ waiting_edits (sym after i).waiting d)
        ∙ ap (λ (l : List Body). l ++ waits (round_call g masks).group p d) (sym (desk_starts d))

    first_done :
        first_desk (station_at (round_call g masks).group p).waiting
        ≡ cond (is_edit body_started) (other_desk desk_next) (first_desk (station_at g p).waiting)
    unfolding s
    first_done =
        let inside = hears.inside (run_room n g c masks (runs g masks e) p below) in
        ap (λ (x : Station). first_desk x.waiting) after
        ∙ turn_first s hears.shaped inside
        ∙ (λ i. cond (is_edit (sym body_done i)) (other_desk (next_desk (hears.waiting i))) (first_desk (hears.waiting i)))

    done_edits : 0 < waiting_count (station_at g p).waiting → length (unless_empty (started_body s)) ≡ length (if_edit (started_body s))
    unfolding s
    done_edits w =
        turn_edits s hears.shaped (hears.inside (run_room n g c masks (runs g masks e) p below))
        (subst (λ (x : Waiting). 0 < waiting_count x) (sym hears.waiting) w)

    lane_done :
        own_edits g p ++ posts_at p (starts_in g (round_call g masks))
        ≡ takings_of p (aired_of n (report_in (round_call g masks) p)) ++ own_edits (round_call g masks).group p
    unfolding s
    lane_done =
        let inside = hears.inside (run_room n g c masks (runs g masks e) p below) in
        (λ i. only_edits (bodies (sym lane_heard i)) ++ starts_done i)
        ∙ turn_lane s hears.shaped inside p (hears.own ∙ (c.member p below).own)
        ∙ (λ i. sym aired_done i ++ only_edits (bodies (lane_at (sym after i) p)))

  -- a refused round leaves the station, starts nothing and airs nothing
  module _ (e : eqb (round_refusal g masks) done ≡ false) where
    left : (round_call g masks).group ≡ g
    left = round_refused g masks e

    none_started : is_edit body_started ≡ false
    none_started = ap (λ (r : Report). is_edit r.turn.started_body) (refused_report e) ∙ no_report_edit

    starts_refused : posts_at p (starts_in g (round_call g masks)) ≡ []
    starts_refused =
        own_starts ∙ ap (λ (r : Report). if_edit r.turn.started_body) (refused_report e) ∙ no_report_started

    desk_refused : (d : ℕ) → posts_of p d (starts_in g (round_call g masks)) ≡ []
    desk_refused d = desk_starts d ∙ rw none_started

    first_refused :
        first_desk (station_at (round_call g masks).group p).waiting
        ≡ cond (is_edit body_started) (other_desk desk_next) (first_desk (station_at g p).waiting)
    first_refused = ap (λ (h : List Station). first_desk (station_at h p).waiting) left ∙ rw none_started

    aired_refused : takings_of p (aired_of n (report_in (round_call g masks) p)) ≡ []
    unfolding takings_of
    aired_refused = ap (takings_of p) (ap (aired_of n) (refused_report e) ∙ no_report_aired n)

    waits_refused : (d : ℕ) → waits g p d ≡ posts_of p d (starts_in g (round_call g masks)) ++ waits (round_call g masks).group p d
    waits_refused d = (λ i. sym (desk_refused d) i ++ waits (sym left i) p d)

    lane_refused :
        own_edits g p ++ posts_at p (starts_in g (round_call g masks))
        ≡ takings_of p (aired_of n (report_in (round_call g masks) p)) ++ own_edits (round_call g masks).group p
    lane_refused =
        ap (λ (l : List Body). own_edits g p ++ l) starts_refused
        ∙ append-nil (own_edits g p)
        ∙ (λ i. sym aired_refused i ++ own_edits (sym left i) p)

  -- what waited started or waits
  pub round_waits :
      (d : ℕ) → is_desk d ≡ true →
      waits g p d ≡ posts_of p d (starts_in g (round_call g masks)) ++ waits (round_call g masks).group p d
  round_waits d desk = go (eqb (round_refusal g masks) done) refl
    where
      go :
          (t : Bool) → eqb (round_refusal g masks) done ≡ t →
          waits g p d ≡ posts_of p d (starts_in g (round_call g masks)) ++ waits (round_call g masks).group p d
      go true e = waits_done e d desk
      go false e = waits_refused e d

  -- after the start of an edit the other desk goes first
  pub round_first :
      first_desk (station_at (round_call g masks).group p).waiting
      ≡ cond (is_edit body_started) (other_desk desk_next) (first_desk (station_at g p).waiting)
  round_first = go (eqb (round_refusal g masks) done) refl
    where
      go :
          (t : Bool) → eqb (round_refusal g masks) done ≡ t →
          first_desk (station_at (round_call g masks).group p).waiting
          ≡ cond (is_edit body_started) (other_desk desk_next) (first_desk (station_at g p).waiting)
      go true e = first_done e
      go false e = first_refused e

  -- while edits wait no Neutral starts
  pub round_edits :
      0 < waiting_count (station_at g p).waiting → length (unless_empty body_started) ≡ length (if_edit body_started)
  round_edits w = go (eqb (round_refusal g masks) done) refl
    where
      go : (t : Bool) → eqb (round_refusal g masks) done ≡ t → length (unless_empty body_started) ≡ length (if_edit body_started)
      go true e =
          ap (λ (b : Body). length (unless_empty b)) (body_done e)
          ∙ done_edits e w
          ∙ ap (λ (b : Body). length (if_edit b)) (sym (body_done e))
      go false e =
          subst (λ (r : Report). length (unless_empty r.turn.started_body) ≡ length (if_edit r.turn.started_body))
          (sym (refused_report e))
          no_report_bodies

  -- what stood in the own lane, and what started, is aired or stands there
  round_lane :
      own_edits g p ++ posts_at p (starts_in g (round_call g masks))
      ≡ takings_of p (aired_of n (report_in (round_call g masks) p)) ++ own_edits (round_call g masks).group p
  round_lane = go (eqb (round_refusal g masks) done) refl
    where
      go :
          (t : Bool) → eqb (round_refusal g masks) done ≡ t →
          own_edits g p ++ posts_at p (starts_in g (round_call g masks))
          ≡ takings_of p (aired_of n (report_in (round_call g masks) p)) ++ own_edits (round_call g masks).group p
      go true e = lane_done e
      go false e = lane_refused e

-- call after call

pub record Kept (n : ℕ) (H : History) : Type 0 where
  pub members : Members n H.group
  pub made : EachDesk H.accepted
  pub begun : EachDesk H.starts
  pub waiting : (p d : ℕ) → p < n → is_desk d ≡ true → posts_of p d H.accepted ≡ posts_of p d H.starts ++ waits H.group p d
  pub lane : (p : ℕ) → p < n → posts_at p H.starts ≡ takings_of p (aired_list n H p) ++ own_edits H.group p
  pub reported : (p : ℕ) → p < n → posts_at p H.starts ≡ only_edits (started H p)

aired_list-round :
    (n : ℕ) (H : History) (masks : List ℕ) (p : ℕ) →
    takings_of p (aired_list n (next H (round masks)) p)
    ≡ takings_of p (aired_list n H p) ++ takings_of p (aired_of n (report_in (round_call H.group masks) p))
unfolding aired_list next
aired_list-round n H masks p =
    ap (takings_of p) (collect_last (λ r. aired_of n (report_in r p)) H.rounds (round_call H.group masks))
    ∙ takings_of-append p (collect (λ r. aired_of n (report_in r p)) H.rounds) (aired_of n (report_in (round_call H.group masks) p))

started-round :
    (H : History) (masks : List ℕ) (p : ℕ) →
    only_edits (started (next H (round masks)) p)
    ≡ only_edits (started H p) ++ if_edit (report_in (round_call H.group masks) p).turn.started_body
unfolding started next
started-round H masks p =
    let f : RoundDone → List Body = λ r. unless_empty (report_in r p).turn.started_body in
    let made = round_call H.group masks in
    ap only_edits (collect_last f H.rounds made)
    ∙ only_edits-append (collect f H.rounds) (f made)
    ∙ ap (λ (l : List Body). only_edits (collect f H.rounds) ++ l) (only_edits_unless (report_in made p).turn.started_body)

started_more :
    (H : History) (masks : List ℕ) (p : ℕ) →
    length (started (next H (round masks)) p)
    ≡ length (started H p) + length (unless_empty (report_in (round_call H.group masks) p).turn.started_body)
unfolding started next
started_more H masks p =
    let f : RoundDone → List Body = λ r. unless_empty (report_in r p).turn.started_body in
    ap length (collect_last f H.rounds (round_call H.group masks))
    ∙ length-append (collect f H.rounds) (f (round_call H.group masks))

starts_more :
    (n : ℕ) (H : History) → Members n H.group → (masks : List ℕ) (p : ℕ) → p < n →
    length (posts_at p (next H (round masks)).starts)
    ≡ length (posts_at p H.starts) + length (if_edit (report_in (round_call H.group masks) p).turn.started_body)
unfolding next
starts_more n H c masks p l =
    let more : List Post = starts_in H.group (round_call H.group masks) in
    ap length (posts_at-append p H.starts more)
    ∙ length-append (posts_at p H.starts) (posts_at p more)
    ∙ ap (λ (z : List Body). length (posts_at p H.starts) + length z) (own_starts n H.group c masks p l)

pub kept_next : (n : ℕ) (H : History) (call : Call) → Kept n H → Kept n (next H call)
unfolding next
kept_next n H (post x) c =
    record {
      members = members-next n H (post x) c.members;
      made = desks_append H.accepted (accepts H.group x) c.made (accepts_desk H.group x);
      begun = c.begun;
      waiting =
          λ p d l desk.
          let more : List Post = accepts H.group x in
          posts_of-append p d H.accepted more
          ∙ ap (λ (z : List Body). z ++ posts_of p d more) (c.waiting p d l desk)
          ∙ append_assoc (posts_of p d H.starts) (waits H.group p d) (posts_of p d more)
          ∙ ap (λ (z : List Body). posts_of p d H.starts ++ z) (sym (post_waits n H.group c.members x p d desk));
      lane =
          λ p l. unfold aired_list in
          (c.lane p l ∙ ap (λ (z : List Body). takings_of p (aired_list n H p) ++ z) (post_lane H.group x p));
      reported = λ p l. unfold started in (c.reported p l);
    }
kept_next n H (round masks) c =
    record {
      members = members-next n H (round masks) c.members;
      made = c.made;
      begun = desks_append H.starts (starts_in H.group (round_call H.group masks)) c.begun (starts_desks H.group (round_call H.group masks));
      waiting =
          λ p d l desk.
          let made = round_call H.group masks in
          let more : List Post = starts_in H.group made in
          c.waiting p d l desk
          ∙ ap (λ (z : List Body). posts_of p d H.starts ++ z) (round_waits n H.group c.members masks p l d desk)
          ∙ sym (append_assoc (posts_of p d H.starts) (posts_of p d more) (waits made.group p d))
          ∙ ap (λ (z : List Body). z ++ waits made.group p d) (sym (posts_of-append p d H.starts more));
      lane =
          λ p l.
          let made = round_call H.group masks in
          let more : List Post = starts_in H.group made in
          let aired : List Body = takings_of p (aired_list n H p) in
          let row : List Body = takings_of p (aired_of n (report_in made p)) in
          posts_at-append p H.starts more
          ∙ ap (λ (z : List Body). z ++ posts_at p more) (c.lane p l)
          ∙ append_assoc aired (own_edits H.group p) (posts_at p more)
          ∙ ap (λ (z : List Body). aired ++ z) (round_lane n H.group c.members masks p l)
          ∙ sym (append_assoc aired row (own_edits made.group p))
          ∙ ap (λ (z : List Body). z ++ own_edits made.group p) (sym (aired_list-round n H masks p));
      reported =
          λ p l.
          let more : List Post = starts_in H.group (round_call H.group masks) in
          posts_at-append p H.starts more
          ∙ (λ i. c.reported p l i ++ own_starts n H.group c.members masks p l i)
          ∙ sym (started-round H masks p);
    }

-- how many bodies a call starts at a station, and how many of them are edits: as many, while edits
-- wait
pub bodies_next :
    (n : ℕ) (H : History) (call : Call) → Members n H.group → (p : ℕ) → p < n → 0 < waiting_count (station_at H.group p).waiting →
    (length (started (next H call) p) + length (posts_at p H.starts) ≡ length (started H p) + length (posts_at p (next H call).starts))
    × (length (started (next H call) p) ≤ length (started H p) + 1)
bodies_next n H (post x) c p l w = unfold started next in (refl, omega arith)
bodies_next n H (round masks) c p l w =
    let made = round_call H.group masks in
    let b : Body = (report_in made p).turn.started_body in
    let bodies : length (started (next H (round masks)) p) ≡ length (started H p) + length (unless_empty b) =
    started_more H masks p in
    let edits : length (posts_at p (next H (round masks)).starts) ≡ length (posts_at p H.starts) + length (if_edit b) =
    starts_more n H c masks p l in (
      omega (arith, bodies, edits, round_edits n H.group c masks p l w),
      omega (arith, bodies, one (is_empty b) b),
    )
  where
    one : (t : Bool) (b : Body) → length (cond t [] (b ∷ [])) ≤ 1
    one true b = omega arith
    one false b = omega arith

pub kept-continued : (n : ℕ) (H : History) (calls : List Call) → Kept n H → Kept n (continued H calls)
unfolding continued
kept-continued n H [] c = c
kept-continued n H (call ∷ calls) c = kept-continued n (next H call) calls (kept_next n H call c)

fresh_waits : (setup : Setup) (p d : ℕ) → waiting_edits (fresh_station setup p).waiting d ≡ []
fresh_waits setup p d = ap (λ (w : Waiting). waiting_edits w d) (fresh_self setup p).waiting ∙ none_edits setup.limit d

fresh_lane : (setup : Setup) (p : ℕ) → p < 16 → only_edits (bodies (lane_at (fresh_station setup p) p)) ≡ []
unfolding bodies only_edits
fresh_lane setup p l = ap (λ (c : Cell). only_edits (bodies c.lane)) (fresh_own setup p l)

pub kept-begun : (setup : Setup) → Accepts setup → Kept setup.n (begun setup)
unfolding begun
kept-begun setup ok =
    record {
      members = members-begun setup ok;
      made = desks_none;
      begun = desks_none;
      waiting =
          λ p d l desk. unfold posts_of in
          (sym (fresh_waits setup p d) ∙ ap (λ (s : Station). waiting_edits s.waiting d) (sym (fresh_at setup ok.high p l)));
      lane =
          λ p l. unfold aired_list collect takings_of posts_at in
          (sym (fresh_lane setup p (omega arith))
          ∙ ap (λ (s : Station). only_edits (bodies (lane_at s p))) (sym (fresh_at setup ok.high p l)));
      reported = λ p l. unfold posts_at started collect only_edits in refl;
    }

pub kept_history : (setup : Setup) → Accepts setup → (calls : List Call) → Kept setup.n (history_of setup calls)
kept_history setup ok calls = kept-continued setup.n (begun setup) calls (kept-begun setup ok)

module _ (setup : Setup) (ok : Accepts setup) (calls : List Call) where
  abbrev n : ℕ
  n = setup.n

  abbrev H : History
  H = history_of setup calls

  whole : Kept n H
  whole = kept_history setup ok calls

  pub posts_started :
      (p d : ℕ) → p < n → is_desk d ≡ true →
      posts_of p d H.accepted ≡ posts_of p d H.starts ++ waiting_edits (station_at H.group p).waiting d
  posts_started = whole.waiting

  pub starts_aired :
      (p : ℕ) → p < n → posts_at p H.starts ≡ takings_of p (aired_list n H p) ++ only_edits (bodies (lane_at (station_at H.group p) p))
  starts_aired = whole.lane

  pub starts_reported : (p : ℕ) → p < n → posts_at p H.starts ≡ only_edits (started H p)
  starts_reported = whole.reported

  pub starts_interleaved : (p : ℕ) → Interleaved (posts_of p 0 H.starts) (posts_of p 1 H.starts) (posts_at p H.starts)
  starts_interleaved p = interleave p H.starts whole.begun

  pub posts_counted :
      (p : ℕ) → p < n →
      length (posts_at p H.accepted)
      ≡ waiting_count (station_at H.group p).waiting
      + length (only_edits (bodies (lane_at (station_at H.group p) p)))
      + length (takings_of p (aired_list n H p))
  posts_counted p l =
      let w : Waiting = (station_at H.group p).waiting in
      let inside = (whole.members.member p l).inside.waiting in
      let aired : List Body = takings_of p (aired_list n H p) in
      let lane : List Body = only_edits (bodies (lane_at (station_at H.group p) p)) in
      let many : (d : ℕ) → is_desk d ≡ true → length (posts_of p d H.accepted) ≡ length (posts_of p d H.starts) + desk_count w d =
      λ d desk.
      ap length (posts_started p d l desk)
      ∙ length-append (posts_of p d H.starts) (waiting_edits w d)
      ∙ ap (λ (k : ℕ). length (posts_of p d H.starts) + k) (edits_count (allowed (station_at H.group p)) w inside d) in
      omega (
        arith,
        interleaved-length (posts_of p 0 H.accepted) (posts_of p 1 H.accepted) (posts_at p H.accepted) (interleave p H.accepted whole.made),
        interleaved-length (posts_of p 0 H.starts) (posts_of p 1 H.starts) (posts_at p H.starts) (starts_interleaved p),
        many 0 refl,
        many 1 refl,
        count_both w,
        ap length (starts_aired p l),
        length-append aired lane,
      )
