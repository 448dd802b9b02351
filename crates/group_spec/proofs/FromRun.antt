-- What the run of a list of calls gives of demand 3: no round is refused where the group stays
-- inside its limits and the own counts fit a frame, and then the sentences about what is taken,
-- aired and held in lanes, and the end rule.
use mathlib.Core.Bool.{true, false, not}
use mathlib.Core.Logic.{◌⊎◌, ◌↔◌}
use mathlib.Core.List.{List}
use mathlib.Core.Path.{◌≡◌, refl, ap, ◌∙◌}
use Prim.Native.Nat.{ℕ, suc, ◌<◌}
use native.Mathlib.Omega.{arith}
use lib.ListN.{get_or, length}
use Rattle.bodies.specs.Refusals.{done}
use Rattle.links.specs.Relay.{of_log}
use Rattle.links.specs.EndRule.{EndsIn}
use Rattle.links.proofs.EndRule.{ends_rule}
use Rattle.lists.specs.Below.{any_below}
use Rattle.lists.proofs.Laws.{any_below_none}
use Rattle.station_spec.specs.declared.Setup.{Setup}
use Rattle.station_spec.specs.Calls.{own_count_inside}
use Rattle.group_spec.specs.declared.RoundDone.{RoundDone}
use Rattle.group_spec.specs.State.{station_at, size_of, group_inside}
use Rattle.group_spec.specs.Calls.{heard, first_refusal, round_refusal}
use Rattle.group_spec.specs.History.{History, Call, history_of, no_round, started, taken_from, aired_list, ends_at, started_in}
use Rattle.group_spec.specs.Demand.{Begins}
use Rattle.group_spec.proofs.Setups.{Accepts}
use Rattle.group_spec.proofs.Run.{Run, links_of}
use Rattle.group_spec.proofs.Simulation.{ready_formed}
use Rattle.group_spec.proofs.Taken as taken
use Rattle.group_spec.proofs.FirstRefusal.{first_none}
use Rattle.group_spec.proofs.Lanes.{never_refused}
use Rattle.group_spec.proofs.Aired as aired
use Rattle.group_spec.proofs.CallRun.{run_of}
use Rattle.group_spec.proofs.HistoryRun.{Unrefused, round_in, rounds_by, rounds_at, history_rounds, history_links}
use Rattle.group_spec.proofs.HistoryLists.{started_list, taken_list, aired_list_lem, ends_list, starts_list}

-- refusals 2 and 10 apart, no round of a run is refused: a lane that holds two never gets a third
pub unrefused : (R : Run)
    → ((u : ℕ) → group_inside (R.ready u) ≡ true)
    → ((u p : ℕ) → p < R.n → own_count_inside (station_at (R.ready u) p) ≡ true)
    → Unrefused R
unfolding round_refusal
unrefused R inside fits u =
    let g = R.ready u in
    let masks = R.masks (suc u) in
    let n : size_of g ≡ R.n = (ready_formed R u 0 R.low).size in
    let a : any_below (size_of g) (λ k. not (own_count_inside (station_at g k))) ≡ false =
    any_below_none (size_of g) (λ k. not (own_count_inside (station_at g k))) (λ k l. ap not (fits u k (omega arith))) in
    let b : first_refusal (size_of g) (λ i. (heard g masks i).refusal) ≡ done =
    first_none (size_of g) (λ i. (heard g masks i).refusal) (λ i l. never_refused R u i (omega arith)) in
    rw (inside u, a, b)

module _ (setup : Setup) (ok : Accepts setup) (calls : List Call) (free : Unrefused (run_of setup ok calls)) where
  abbrev n : ℕ
  n = setup.n

  abbrev R : Run
  R = run_of setup ok calls

  abbrev H : History
  H = history_of setup calls

  abbrev last : ℕ
  last = length H.rounds

  same : H.rounds ≡ rounds_by R last
  same = history_rounds setup ok calls free

  pub taken_begins_started : (p s : ℕ) → p < n → s < n → Begins (taken_from H p s) (started H s)
  taken_begins_started p s lp ls =
      rw (taken_list R H last same p s lp ls, started_list R H last same s ls) (taken.taken_begins_started R last p s lp ls)

  pub aired_lists_agree : (p q : ℕ) → p < n → q < n
      → Begins (aired_list n H p) (aired_list n H q) ⊎ Begins (aired_list n H q) (aired_list n H p)
  aired_lists_agree p q lp lq =
      rw (aired_list_lem R H last same p lp, aired_list_lem R H last same q lq) (aired.aired_lists_agree R last p q lp lq)

  done_in : (u : ℕ) → (round_in R u).refusal ≡ done
  unfolding round_in
  done_in u = refl

  pub no_round_refused : (u : ℕ) → u < length H.rounds → (get_or H.rounds u no_round).refusal ≡ done
  no_round_refused u l =
      ap (λ (rs : List RoundDone). (get_or rs u no_round).refusal) same
      ∙ ap (λ (r : RoundDone). r.refusal) (rounds_at R last u l)
      ∙ done_in u

  pub ends_exactly : (s u : ℕ) → s < n → u < length H.rounds
      → (ends_at H s (suc u) ≡ true) ↔ EndsIn (of_log n H.log) s (started_in H s u) (suc u)
  ends_exactly s u ls l =
      let e = ends_list R H last same s u ls l in
      let b = starts_list R H last same s u ls (omega arith) in
      rw (e, b, history_links setup ok calls free) (ends_rule (links_of R) u s)
