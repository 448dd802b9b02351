-- The answer to a question is the round of the k-th advance of the label in the group's rounds. A
-- label is the number that is had, by threes, and that rises by at most one in a round; so advances
-- count what is had, and the k-th is in the first round by which k are had.
use mathlib.Core.Bool.{true, false, true≢false}
use mathlib.Core.List.{List}
use mathlib.Core.Logic.{◌↔◌, ◌⊎◌, inl, inr, ⊎_elim}
use mathlib.Core.Option.{Option, none, some}
use mathlib.Core.Path.{◌≡◌, refl, sym, ap, ◌∙◌}
use Prim.Native.Nat.{ℕ, zero, suc, ◌%◌, ◌<◌, ◌≤◌}
use native.Mathlib.Decide.{ℕ_discrete, dec_le}
use native.Mathlib.Nat.{le_refl}
use native.Mathlib.Omega.{arith}
use borrow.Author.Tests.{eq-eqb, ne_eqb}
use lib.ListN.{get_or, length}
use Rattle.bodies.specs.Refusals.{done}
use Rattle.labels.specs.Label.{successor}
use Rattle.links.specs.Relay.{Links, of_log}
use Rattle.links.specs.Inner.Number.{got}
use Rattle.links.specs.Question.{BroughtIn, Answered, in_round, in_none, answer_in}
use Rattle.links.proofs.Clock.{news_start}
use Rattle.links.proofs.Got.{got_none, got_mono, got_step}
use Rattle.links.proofs.Question.{has_got, answer_relays, has_later, answer_same}
use Rattle.station_spec.specs.declared.Setup.{Setup}
use Rattle.station_spec.specs.State.{label_of}
use Rattle.group_spec.specs.declared.RoundDone.{RoundDone}
use Rattle.group_spec.specs.State.{station_at}
use Rattle.group_spec.specs.History.{History, Call, history_of, no_round}
use Rattle.group_spec.proofs.Run.{Run}
use Rattle.group_spec.proofs.CallRun.{run_of, group_first}
use Rattle.group_spec.proofs.HistoryRun.{round_in, rounds_at, history_rounds, history_links}
use Rattle.group_spec.proofs.Simulation.{labels_got}
use Rattle.group_spec.specs.Calls.{group_fresh_refusal}
use Rattle.group_spec.proofs.Setups.{Accepts, accepts}
use Rattle.group_spec.proofs.DemandThree.{free}
use Rattle.planning_spec.specs.LinkLog.{rounds_of, links_of}
use Rattle.planning_spec.specs.Questions.{question_at, question_count, questions_refusal, answer_to, never, questions_call}
use Rattle.planning_spec.proofs.Questions.{asked, taken, call_answer}
use Rattle.planning_runs.specs.Runs.{RoundsHave}
use Rattle.planning_runs.specs.Advances.{label_after, advances, advances_by, AdvancesIn, AnsweredBy, advanced, not_yet, RunAnswer}
use Rattle.planning_runs.proofs.Reported.{rounds_same, rounds_number}

module _ (setup : Setup) (fresh : group_fresh_refusal setup ≡ done) (calls : List Call) (r s : ℕ) (lr : r < setup.n) (ls : s < setup.n) where
  abbrev H : History
  H = history_of setup calls

  abbrev ok : Accepts setup
  ok = accepts setup fresh

  abbrev R : Run
  R = run_of setup ok calls

  abbrev L : Links
  L = of_log setup.n H.log

  round_group : (u : ℕ) → (round_in R u).group ≡ R.after (suc u)
  unfolding round_in
  round_group u = refl

  group_at : (u : ℕ) → u < length H.rounds → (get_or H.rounds u no_round).group ≡ R.after (suc u)
  group_at u l =
      ap (λ (rs : List RoundDone). (get_or rs u no_round).group) (history_rounds setup ok calls (free setup fresh calls))
      ∙ ap (λ (x : RoundDone). x.group) (rounds_at R (length H.rounds) u l)
      ∙ round_group u

  run_label : (u : ℕ) → label_of (station_at (R.after u) r) s ≡ got L u r s % 3
  run_label u =
      labels_got R u r lr s ls
      ∙ ap (λ (M : Links). got M u r s % 3) (sym (history_links setup ok calls (free setup fresh calls)))

  -- The label after a round is what is had then, by threes.
  pub label_got : (u : ℕ) → u ≤ length H.rounds → label_after setup H r s u ≡ got L u r s % 3
  unfolding label_after
  label_got zero l = ap (λ (g : List _). label_of (station_at g r) s) (sym (group_first setup calls)) ∙ run_label 0
  label_got (suc u) l = ap (λ (g : List _). label_of (station_at g r) s) (group_at u l) ∙ run_label (suc u)

  -- It advances exactly where what is had rises.
  rises : (u : ℕ) → suc u ≤ length H.rounds → ((advances setup H r s (suc u) ≡ true) × (got L (suc u) r s ≡ suc (got L u r s)))
      ⊎ ((advances setup H r s (suc u) ≡ false) × (got L (suc u) r s ≡ got L u r s))
  unfolding advances
  rises u l =
      let a = label_got u (omega arith) in
      let b = label_got (suc u) l in
      let m = got_mono L u (suc u) r s (omega arith) in
      let c = got_step L u r s lr in
      elim (ℕ_discrete (got L (suc u) r s) (got L u r s)) [
        | yes e ↦ inr (ne_eqb (label_after setup H r s (suc u)) (successor (label_after setup H r s u)) (λ q. omega arith), e)
        | no d ↦
            (let e : got L (suc u) r s ≡ suc (got L u r s) = omega arith in
            inl (eq-eqb (label_after setup H r s (suc u)) (successor (label_after setup H r s u)) (omega arith), e))
      ]

  module _ (other : r ≡ s → ⊥) where
    -- So its advances count the broadcasts that were received.
    pub advances_got : (u : ℕ) → u ≤ length H.rounds → advances_by setup H r s u ≡ got L u r s
    unfolding advances_by
    advances_got zero l = sym (got_none L 0 r s (news_start L r s other))
    advances_got (suc u) l =
        ⊎_elim
        (λ (e : (advances setup H r s (suc u) ≡ true) × (got L (suc u) r s ≡ suc (got L u r s))).
        rw e.0 (ap suc (advances_got u (omega arith)) ∙ sym e.1))
        (λ (e : (advances setup H r s (suc u) ≡ false) × (got L (suc u) r s ≡ got L u r s)).
        rw e.0 (advances_got u (omega arith) ∙ sym e.1))
        (rises u l)

    -- The k-th advance is in the first round by which r has broadcast number k of s.
    pub advances_brought : (k u : ℕ) → 1 ≤ k → u ≤ length H.rounds → AdvancesIn setup H r s k u ↔ BroughtIn L r s k u
    advances_brought k u lk l = (there u l, back u l)
      where
        there : (u : ℕ) → u ≤ length H.rounds → AdvancesIn setup H r s k u → BroughtIn L r s k u
        there zero l a = absurd (omega (arith, a.number, advances_got 0 l, got_none L 0 r s (news_start L r s other)))
        there (suc u) l a =
            record {
              has = (has_got L r s k (suc u) lk).0 (omega (arith, a.number, advances_got (suc u) l));
              first =
                  λ v h.
                  elim (dec_le (suc u) v) [
                    | yes x ↦ x
                    | no x ↦
                        ⊎_elim
                        (λ e.
                        absurd
                        (omega (
                          arith,
                          e.1,
                          a.number,
                          advances_got (suc u) l,
                          (has_got L r s k v lk).1 h,
                          got_mono L v u r s (omega arith),
                        )))
                        (λ e. absurd (true≢false (sym a.advance ∙ e.0)))
                        (rises u l)
                  ];
            }

        back : (u : ℕ) → u ≤ length H.rounds → BroughtIn L r s k u → AdvancesIn setup H r s k u
        back zero l b = absurd (omega (arith, (has_got L r s k 0 lk).1 b.has, got_none L 0 r s (news_start L r s other)))
        back (suc u) l b =
            let h = (has_got L r s k (suc u) lk).1 b.has in
            let f : got L u r s < k =
            elim (dec_le k (got L u r s)) [
              | yes x ↦ absurd (omega (arith, b.first u ((has_got L r s k u lk).0 x)))
              | no x ↦ omega arith
            ] in
            ⊎_elim
            (λ e.
            record { within = l; advance = e.0; number = omega (arith, advances_got (suc u) l, e.1) })
            (λ e. absurd (omega (arith, e.1)))
            (rises u l)

-- The answer over as many rounds as were done, whatever was posted.
module _ (setup : Setup) (fresh : group_fresh_refusal setup ≡ done) (calls : List Call) where
  abbrev n : ℕ
  n = setup.n

  abbrev K : History
  K = history_of setup calls

  pub answer_advances : (r s k : ℕ) → r < n → s < n → (r ≡ s → ⊥) → 1 ≤ k
      → AnsweredBy setup K r s k (answer_in (of_log n K.log) r s k (length K.rounds))
  answer_advances r s k lr ls d lk =
      let last = length K.rounds in
      let M = of_log n K.log in
      go (answer_in M r s k last) (answer_relays M r s k last lk)
    where
      go : (a : Option ℕ) → Answered (of_log n K.log) r s k (length K.rounds) a → AnsweredBy setup K r s k a
      go (some u) (in_round l b) = advanced {u = u} ((advances_brought setup fresh calls r s lr ls d k u lk l).1 b)
      go none (in_none f) =
          not_yet
          (λ u a.
          f
          (has_later (of_log n K.log) r s k u (length K.rounds) lk a.within
          ((advances_brought setup fresh calls r s lr ls d k u lk a.within).0 a).has))

  -- The same for a log that the rounds have, however long.
  pub log_advances : (log : List ℕ) → RoundsHave n K log → (r s k : ℕ) → r < n → s < n → (r ≡ s → ⊥) → 1 ≤ k
      → AnsweredBy setup K r s k (answer_in (links_of n log) r s k (rounds_of n log))
  log_advances log has r s k lr ls d lk =
      let low : 1 ≤ n = (accepts setup fresh).low in
      let e : answer_in (of_log n K.log) r s k (length K.rounds) ≡ answer_in (links_of n log) r s k (rounds_of n log) =
      ap (λ (x : ℕ). answer_in (of_log n K.log) r s k x) (sym (rounds_number n low K log has))
      ∙ answer_same (of_log n K.log) (links_of n log) (rounds_of n log) (rounds_same n low K log has) r s k (rounds_of n log) (le_refl (rounds_of n log)) in
      rw e at (answer_advances r s k lr ls d lk)

  -- And so the answers of a page: in every run from fresh whose rounds have this log, for two
  -- stations, the label of the receiver for the sender advances for the k-th time in the round
  -- answered, and never is the answer exactly where it does not.
  pub runs_questions : (log page : List ℕ) → RoundsHave n K log → questions_refusal n log page ≡ done → (i : ℕ) → i < question_count page
      → ((question_at page i).receiver ≡ (question_at page i).sender → ⊥)
      → RunAnswer setup K (question_at page i).receiver (question_at page i).sender (question_at page i).number
      (get_or (questions_call n log page).answers i never)
  unfolding answer_to
  runs_questions log page has e i l other =
      let q = question_at page i in
      let p = asked n page (taken n log page e).1 in
      record {
        round = answer_in (links_of n log) q.receiver q.sender q.number (rounds_of n log);
        given = call_answer n log page e i l;
        by_rounds =
            log_advances log has q.receiver q.sender q.number (p.receivers i l) (p.senders i l) other
            (p.numbers i l);
      }
