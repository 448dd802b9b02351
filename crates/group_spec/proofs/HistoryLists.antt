-- The lists of a history are those of its run by the end of its last round: each is collected round
-- after round, and what a round reports of a station is what the run has of it.
use mathlib.Core.Bool.{Bool, true, false, cond}
use mathlib.Core.List.{List, [], ◌++◌}
use mathlib.Core.Path.{◌≡◌, refl, sym, ap, ◌∙◌}
use Prim.Native.Nat.{ℕ, zero, suc, ◌-◌, ◌≤◌, ◌<◌}
use native.Mathlib.Decide.{ℕ_discrete}
use native.Mathlib.Omega.{arith}
use borrow.Author.Tests.{eq-eqb, ne_eqb}
use lib.ListN.{length, get_or, take, replicate}
use lib.Seq.{take-append_seam}
use Rattle.bodies.specs.declared.Body.{Body}
use Rattle.links.specs.Inner.Number as number
use Rattle.links.proofs.Number.{start-ends, start_stays, start_zero}
use Rattle.station_spec.specs.declared.Station.{Station}
use Rattle.station_spec.specs.declared.Taking.{Taking}
use Rattle.station_spec.specs.declared.TurnReport.{TurnReport}
use Rattle.station_spec.specs.Hearing.{Hearing}
use Rattle.station_spec.specs.Turn.{turn_report}
use Rattle.station_spec.proofs.TurnParts.{report_ended}
use Rattle.group_spec.specs.declared.Report.{Report}
use Rattle.group_spec.specs.declared.RoundDone.{RoundDone}
use Rattle.group_spec.specs.Calls.{heard, no_taking, report_of}
use Rattle.group_spec.specs.History.{History, collect, no_round, report_in, started, taken_from, aired_list, ends_at, started_in, takings_of, unless_empty, edits_of}
use Rattle.group_spec.proofs.Run.{Run, links_of, hearing_in}
use Rattle.group_spec.proofs.PostsAccounted.{collect_last}
use Rattle.group_spec.proofs.Simulation.{simulated}
use Rattle.group_spec.proofs.Lanes.{run_heard}
use Rattle.group_spec.proofs.Lists.{turn_in, started_by, heard_by, taken_by, aired_by}
use Rattle.group_spec.proofs.HistoryRun.{round_in, rounds_by, rounds_at, report_at}

-- what a report says of the turn and of the takings
report_turn : (g : List Station) (masks : List ℕ) (p : ℕ) → (report_of g masks p).turn ≡ turn_report (heard g masks p).station
unfolding report_of
report_turn g masks p = refl

report_takings : (g : List Station) (masks : List ℕ) (p : ℕ)
    → take (report_of g masks p).takings_len (report_of g masks p).takings ≡ (heard g masks p).takings
unfolding report_of
report_takings g masks p =
    let ts = (heard g masks p).takings in
    take-append_seam ts (replicate (30 - length ts) no_taking)

module _ {A : Type 0} where
  -- a list by time that grows by what each round adds
  collect_rounds : (R : Run) (f : RoundDone → List A) (by : ℕ → List A)
      → by 0 ≡ []
      → ((u : ℕ) → by (suc u) ≡ by u ++ f (round_in R u))
      → (u : ℕ) → collect f (rounds_by R u) ≡ by u
  unfolding collect rounds_by
  collect_rounds R f by first more zero = sym first
  collect_rounds R f by first more (suc u) =
      collect_last f (rounds_by R u) (round_in R u)
      ∙ ap (λ (l : List A). l ++ f (round_in R u)) (collect_rounds R f by first more u)
      ∙ sym (more u)

module _ (R : Run) where
  pub turn_at : (u p : ℕ) → p < R.n → (report_in (round_in R u) p).turn ≡ turn_in R u p
  turn_at u p l = ap (λ (r : Report). r.turn) (report_at R u p l) ∙ report_turn (R.ready u) (R.masks (suc u)) p
      ∙ ap (λ (h : Hearing). turn_report h.station) (run_heard R u p l)

  takings_at : (u p : ℕ) → p < R.n
      → take (report_in (round_in R u) p).takings_len (report_in (round_in R u) p).takings ≡ (hearing_in R u p).takings
  takings_at u p l =
      ap (λ (r : Report). take r.takings_len r.takings) (report_at R u p l) ∙ report_takings (R.ready u) (R.masks (suc u)) p
      ∙ ap (λ (h : Hearing). h.takings) (run_heard R u p l)

module _ (R : Run) (H : History) (last : ℕ) (same : H.rounds ≡ rounds_by R last) where
  pub started_list : (s : ℕ) → s < R.n → started H s ≡ started_by R last s
  unfolding started started_by
  started_list s l =
      let f : RoundDone → List Body = λ r. unless_empty (report_in r s).turn.started_body in
      ap (collect f) same
      ∙ collect_rounds
      R
      f
      (λ u. started_by R u s)
      refl
      (λ u. ap (λ (t : TurnReport). started_by R u s ++ unless_empty t.started_body) (sym (turn_at R u s l)))
      last

  heard_list : (p s : ℕ) → p < R.n
      → collect (λ r. takings_of s (take (report_in r p).takings_len (report_in r p).takings)) H.rounds ≡ heard_by R last p s
  unfolding heard_by
  heard_list p s l =
      let f : RoundDone → List Body = λ r. takings_of s (take (report_in r p).takings_len (report_in r p).takings) in
      ap (collect f) same
      ∙ collect_rounds
      R
      f
      (λ u. heard_by R u p s)
      refl
      (λ u. ap (λ (ts : List Taking). heard_by R u p s ++ takings_of s ts) (sym (takings_at R u p l)))
      last

  pub taken_list : (p s : ℕ) → p < R.n → s < R.n → taken_from H p s ≡ taken_by R last p s
  unfolding taken_from taken_by
  taken_list p s lp ls =
      elim (ℕ_discrete p s) [
        | yes e ↦ rw (eq-eqb p s e) (started_list s ls)
        | no d ↦ rw (ne_eqb p s d) (heard_list p s lp)
      ]

  pub aired_list_lem : (p : ℕ) → p < R.n → aired_list R.n H p ≡ aired_by R last p
  unfolding aired_list aired_by
  aired_list_lem p l =
      let f : RoundDone → List Taking =
      λ r. cond (report_in r p).turn.aired (edits_of R.n (report_in r p).turn.row) [] in
      ap (collect f) same
      ∙ collect_rounds
      R
      f
      (λ u. aired_by R u p)
      refl
      (λ u. ap (λ (t : TurnReport). aired_by R u p ++ cond t.aired (edits_of R.n t.row) []) (sym (turn_at R u p l)))
      last

  -- the ends, and the rounds in which the broadcasts started
  pub ends_list : (s u : ℕ) → s < R.n → u < last → ends_at H s (suc u) ≡ number.ends (links_of R) (suc u) s
  unfolding ends_at
  ends_list s u ls l =
      ap (λ (rs : List RoundDone). (report_in (get_or rs u no_round) s).turn.ended) same
      ∙ ap (λ (r : RoundDone). (report_in r s).turn.ended) (rounds_at R last u l)
      ∙ ap (λ (t : TurnReport). t.ended) (turn_at R u s ls)
      ∙ report_ended (hearing_in R u s).station
      ∙ (simulated R).ends u s ls

  pub starts_list : (s u : ℕ) → s < R.n → u ≤ last → started_in H s u ≡ number.start (links_of R) u s
  unfolding started_in
  starts_list s zero ls l = sym (start_zero (links_of R) s)
  starts_list s (suc u) ls l = rw (ends_list s u ls (omega arith), starts_list s u ls (omega arith)) (go (number.ends (links_of R) (suc u) s) refl)
    where
      go : (b : Bool) → number.ends (links_of R) (suc u) s ≡ b
          → cond b (suc u) (number.start (links_of R) u s) ≡ number.start (links_of R) (suc u) s
      go true e = sym (start-ends (links_of R) u s e)
      go false e = sym (start_stays (links_of R) u s e)
