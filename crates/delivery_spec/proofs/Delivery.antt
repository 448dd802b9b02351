-- Every accepted edit is aired everywhere, in time. Within the delay everybody has aired the rows
-- that its station had, and three delays more bring each a row. Its station had started one body
-- more than rows at most, and the edit is among the next 2 i + 2; so 2 i + 3 rows more have it.
use Prim.Native.Nat.{ℕ, ◌+◌, ◌*◌, ◌≤◌, ◌<◌}
use mathlib.Core.Bool.{Bool, true, cond}
use mathlib.Core.List.{List, [], ◌∷◌, ◌++◌}
use mathlib.Core.Path.{◌≡◌, refl, sym, ap, ◌∙◌}
use native.Mathlib.Nat.{le_refl, mul_comm, mul_left_comm, mul-add, add-mul}
use native.Mathlib.Omega.{arith}
use lib.ListN.{get_or, length, take, drop, length-append, take-append-drop}
use lib.Seq.{take-append_seam, take-take}
use borrow.Author.Tests.{eq-eqb}
use Rattle.bodies.specs.declared.Body.{Body}
use Rattle.bodies.specs.Refusals.{done}
use Rattle.links.specs.Relay.{of_log}
use Rattle.queues.specs.Waiting.{is_desk, other_desk}
use Rattle.queues.proofs.WaitingLaws.{each_desk}
use Rattle.station_spec.specs.declared.Setup.{Setup}
use Rattle.station_spec.specs.declared.Taking.{Taking}
use Rattle.group_spec.specs.declared.Post.{Post}
use Rattle.group_spec.specs.declared.RoundDone.{RoundDone}
use Rattle.group_spec.specs.Calls.{no_taking, group_fresh_refusal, group_post_refusal, group_post_call}
use Rattle.group_spec.specs.History.{History, Call, Call.post, next, continued, history_of, takings_of, posts_of, started, only_edits, aired_list}
use Rattle.group_spec.specs.History as history
use Rattle.group_spec.specs.Demand.{Begins}
use Rattle.group_spec.specs.Desks.{waiting_at_desk, starts_of}
use Rattle.group_spec.specs.Replies.{Edit, edit_after, edit_at, posts_from, entry_edit}
use Rattle.group_spec.proofs.Setups.{accepts}
use Rattle.group_spec.proofs.Begin.{begins-take, begins-length}
use Rattle.group_spec.proofs.Run.{Run, links_of}
use Rattle.group_spec.proofs.MembersPost.{Accepted, accepted, post_refusal}
use Rattle.group_spec.proofs.Takings.{posts_of-append, desk_here}
use Rattle.group_spec.proofs.PostsAccounted.{Kept, kept_next, kept_history}
use Rattle.group_spec.proofs.Lists.{started_by, rows_by, made_by}
use Rattle.group_spec.proofs.Taken.{started_begins}
use Rattle.group_spec.proofs.CallRun.{run_of}
use Rattle.group_spec.proofs.HistoryRun.{rounds_by, history_links}
use Rattle.group_spec.proofs.HistoryLists.{started_list}
use Rattle.group_spec.proofs.DemandThree.{free}
use Rattle.group_spec.proofs.DeskTurns.{starts_post}
use Rattle.group_spec.proofs.AiredOrder.{rows_of_lem}
use Rattle.group_spec.proofs.Continued.{continued-append, continued_more, rounds_begin}
use Rattle.group_spec.proofs.EditPlaces.{taking_place}
use Rattle.delivery_spec.specs.Delivery.{Near, up_to, AiredBy, Delivered, Delivery}
use Rattle.delivery_spec.proofs.Progress.{rows_mono, rows_bodies, bodies_ahead, rows_caught, rows_within}
use Rattle.delivery_spec.proofs.Rounds.{same_rounds, first_rounds, aired_by, run_filled}
use Rattle.delivery_spec.proofs.Starting.{edits_begin, accepted_count, Waits, Begun, Stage, Stage.waits, Stage.begun, stage-continued}

-- the bounds, in rows
in_rows : (d m : ℕ) → d * (3 * m + 4) ≡ d + (m + 1) * (3 * d)
in_rows d m =
    omega (arith, mul-add d (3 * m) 4, mul_left_comm d 3 m, add-mul m 1 (3 * d), mul_left_comm m 3 d, mul_comm m d)

two_desks : (d i : ℕ) → d * (6 * i + 10) ≡ d + (i + 1 + (i + 1) + 1) * (3 * d)
two_desks d i =
    (let e : 6 * i + 10 ≡ 3 * (i + 1 + (i + 1)) + 4 = omega arith in ap (λ (k : ℕ). d * k) e)
    ∙ in_rows d (i + 1 + (i + 1))

one_desk : (d i : ℕ) → d * (3 * i + 7) ≡ d + (i + 1 + 0 + 1) * (3 * d)
one_desk d i =
    (let e : 3 * i + 7 ≡ 3 * (i + 1 + 0) + 4 = omega arith in ap (λ (k : ℕ). d * k) e) ∙ in_rows d (i + 1 + 0)

-- more of a list
begins_taken : (k : ℕ) (xs : List Body) → Begins (take k xs) xs
begins_taken k xs = record { rest = drop k xs; whole = take-append-drop k xs }

takes_begin : (k m : ℕ) (xs : List Body) → k ≤ m → Begins (take k xs) (take m xs)
takes_begin k m xs h = rw (← take-take k m xs h) (begins_taken k (take m xs))

module _ (setup : Setup) (fresh : group_fresh_refusal setup ≡ done) (before after : List Call) (x : Post) where
  abbrev n : ℕ
  n = setup.n

  abbrev p : ℕ
  p = x.station

  abbrev d : ℕ
  d = x.desk

  abbrev calls : List Call
  calls = before ++ (post x ∷ after)

  abbrev H₀ : History
  H₀ = history_of setup before

  abbrev H₁ : History
  H₁ = next H₀ (post x)

  abbrev H : History
  H = history_of setup calls

  abbrev R : Run
  R = run_of setup (accepts setup fresh) calls

  abbrev last : ℕ
  last = length H.rounds

  abbrev u : ℕ
  u = length H₀.rounds

  abbrev i : ℕ
  i = waiting_at_desk H₀ p d

  abbrev made : ℕ
  made = length (started H₀ p)

  abbrev mine₀ : ℕ
  mine₀ = length (starts_of H₀ p d)

  abbrev theirs₀ : ℕ
  theirs₀ = length (starts_of H₀ p (other_desk d))

  abbrev e : Edit
  e = edit_after H₀.accepted x

  whole : H ≡ continued H₁ after
  whole = continued-append (history.begun setup) before (post x ∷ after) ∙ continued_more H₀ (post x) after

  rounds_before : Begins H₀.rounds H.rounds
  rounds_before = rw (continued-append (history.begun setup) before (post x ∷ after)) (rounds_begin H₀ (post x ∷ after))

  -- the rounds before the post are those of the run
  same_before : H₀.rounds ≡ rounds_by R u
  same_before =
      let b = rounds_before in
      sym (take-append_seam H₀.rounds b.rest)
      ∙ ap (λ (rs : List RoundDone). take u rs) b.whole
      ∙ first_rounds setup fresh calls u (begins-length H₀.rounds H.rounds b)

  module _ (taken : group_post_refusal H₀.group x ≡ done) where
    kept₀ : Kept n H₀
    kept₀ = kept_history setup (accepts setup fresh) before

    known : Accepted H₀.group x
    known = accepted H₀.group x (eq-eqb (group_post_refusal H₀.group x) done taken)

    below : p < n
    below = omega (arith, known.below, kept₀.members.size)

    desk : is_desk d ≡ true
    desk = known.desk

    made_before : made ≡ made_by R u p
    made_before = ap length (started_list R H₀ u same_before p below)

    posts_then : posts_of p d H₁.accepted ≡ posts_of p d H₀.accepted ++ (x.body ∷ [])
    unfolding next
    posts_then =
        ap (λ (t : Bool). posts_of p d (H₀.accepted ++ cond t (x ∷ []) []))
        (eq-eqb (group_post_call H₀.group x).refusal done (post_refusal H₀.group x ∙ taken))
        ∙ posts_of-append p d H₀.accepted (x ∷ [])
        ∙ ap (λ (l : List Body). posts_of p d H₀.accepted ++ l) (desk_here d x ∙ rw (eq-eqb d d refl))

    number_is : length (posts_of p d H₀.accepted) ≡ mine₀ + i
    number_is = accepted_count n p d below desk H₀ kept₀

    bodies_then : length (started H₁ p) ≡ made
    unfolding started next
    bodies_then = refl

    waits_then : Waits n p d below desk made mine₀ theirs₀ i H₁
    waits_then =
        let a : length (starts_of H₁ p d) ≡ mine₀ = ap length (starts_post H₀ x p d) in
        let b : length (starts_of H₁ p (other_desk d)) ≡ theirs₀ = ap length (starts_post H₀ x p (other_desk d)) in
        record {
          posts =
              omega (arith, number_is, ap length posts_then, length-append (posts_of p d H₀.accepted) (x.body ∷ []));
          low = omega (arith, a);
          high = omega (arith, a);
          least = omega (arith, b);
          bodies = omega (arith, a, b, bodies_then);
          fair = omega (arith, a, b);
          turn = λ z. absurd (omega (arith, z, a, b));
        }

    stage : Stage n p d below desk made mine₀ theirs₀ i H
    stage =
        rw whole
        (stage-continued n p d below desk made mine₀ theirs₀ i H₁ after (kept_next n H₀ (post x) kept₀)
        (waits waits_then))

    module _ (v q most : ℕ) (room : v ≤ last) (lq : q < n) (rows : made + i + 1 + most ≤ rows_by R v q) where
      abbrev aired : List Taking
      aired = aired_list n (up_to v H) q

      -- the edits of p that q has aired by then
      own_aired : takings_of p aired ≡ only_edits (take (rows_by R v q) (started_by R v p))
      own_aired =
          ap (takings_of p) (aired_by setup fresh calls v v q (le_refl v) room lq) ∙ rows_of_lem R v p below (rows_by R v q)

      bodies_begin : Begins (started_by R v p) (started H p)
      bodies_begin = rw (started_list R H last (same_rounds setup fresh calls) p below) (started_begins R v last p room)

      entry_is : (j : ℕ) (s k : ℕ) → (get_or aired j no_taking).source ≡ s → length (takings_of s (take j aired)) ≡ k →
          entry_edit H.starts aired j ≡ edit_at (posts_from s H.starts) k
      unfolding entry_edit
      entry_is j s k source rank =
          (λ t. edit_at (posts_from (source t) H.starts) (length (takings_of (source t) (take j aired))))
          ∙ ap (λ (m : ℕ). edit_at (posts_from s H.starts) m) rank

      there : (b : Begun n p d below desk made mine₀ theirs₀ i H) → b.between ≤ most → AiredBy n H v q e
      there b few =
          let k = made + i + 1 + b.between in
          let K = rows_by R v q in
          let ys = started_by R v p in
          let some = rows_bodies R v q p lq below in
          let cut : take k ys ≡ take k (started H p) =
          begins-take ys (started H p) bodies_begin k (omega (arith, rows, some, few)) in
          let more : Begins (only_edits (take k ys)) (only_edits (take K ys)) =
          edits_begin (take k ys) (take K ys) (takes_begin k K ys (omega (arith, rows, few))) in
          let enough : b.place < length (takings_of p aired) =
          omega (
            arith,
            b.bodies,
            ap (λ (l : List Body). length (only_edits l)) cut,
            begins-length (only_edits (take k ys)) (only_edits (take K ys)) more,
            ap length own_aired,
          ) in
          let at = taking_place p aired b.place enough in
          record {
            entry = at.0;
            aired =
                record {
                  there = at.1;
                  same =
                      entry_is at.0 p b.place at.2 at.3 ∙ b.same
                      ∙ (λ t. record { source = p; desk = d; number = sym number_is t });
                };
          }

      within :
          (Waits n p d below desk made mine₀ theirs₀ i H → length (starts_of H p (other_desk d)) ≤ theirs₀ + most) →
          ((b : Begun n p d below desk made mine₀ theirs₀ i H) → b.between ≤ most) →
          AiredBy n H v q e
      within late few = go stage
        where
          go : Stage n p d below desk made mine₀ theirs₀ i H → AiredBy n H v q e
          go (waits w) =
              absurd
              (omega (
                arith,
                rows,
                rows_bodies R v q p lq below,
                begins-length (started_by R v p) (started H p) bodies_begin,
                w.bodies,
                w.high,
                late w,
              ))
          go (begun b) = there b (few b)

    -- every station has aired so many rows
    rows_then :
        (delay m by : ℕ) → Near (of_log n H.log) delay u by → u + (delay + (m + 1) * (3 * delay)) ≡ by →
        (q : ℕ) → q < n → made + m ≤ rows_by R by q
    rows_then delay m by near exact q lq =
        let filled = run_filled setup fresh calls in
        let near_run : Near (links_of R) delay u by =
        rw (← history_links setup (accepts setup fresh) calls (free setup fresh calls)) near in
        omega (
          arith,
          rows_within R filled delay u by near_run (u + delay) (rows_by R u p) (m + 1) (omega arith)
              (omega (arith, exact))
              (λ r lr. rows_caught R filled delay u by near_run u p r below lr (le_refl u) (omega (arith, exact)))
              q
              lq,
          rows_mono R (u + delay + (m + 1) * (3 * delay)) by q (omega (arith, exact)) lq,
          bodies_ahead R u p below,
          made_before,
        )

    -- where the other desk has nothing waiting and posts nothing, it starts nothing
    other_desk_lem : is_desk (other_desk d) ≡ true
    other_desk_lem = each_desk (λ k. is_desk (other_desk k) ≡ true) refl refl d desk

    starts_none :
        waiting_at_desk H₀ p (other_desk d) ≡ 0 → posts_of p (other_desk d) H.accepted
        ≡ posts_of p (other_desk d) H₀.accepted →
        length (starts_of H p (other_desk d)) ≤ theirs₀
    starts_none none same =
        omega (
          arith,
          none,
          ap length same,
          accepted_count n p (other_desk d) below other_desk_lem H₀ kept₀,
          accepted_count n p (other_desk d) below other_desk_lem H (kept_history setup (accepts setup fresh) calls),
        )

    delivered : (delay : ℕ) → Delivered n delay H₀ H x
    delivered delay =
        record {
          in_time =
              λ near room q lq.
              within _ q (i + 1) room lq
              (let r = rows_then delay (i + 1 + (i + 1)) _ near (ap (λ (k : ℕ). u + k) (sym (two_desks delay i))) q
              lq in omega (arith, r))
              (λ w. omega (arith, w.fair, w.high))
              (λ b. b.fair);
          alone_in_time =
              λ none same near room q lq.
              let quiet = starts_none none same in
              within _ q 0 room lq
              (let r = rows_then delay (i + 1 + 0) _ near (ap (λ (k : ℕ). u + k) (sym (one_desk delay i))) q lq in omega
              (arith, r))
              (λ w. omega (arith, quiet))
              (λ b. omega (arith, quiet, b.most));
        }

pub delivery : Delivery
delivery setup fresh before x after taken delay = delivered setup fresh before after x taken delay
