-- The first rounds of a history are those of its run: what is aired by the end of a round, how many
-- rows, and that what waits is never Empty.
use Prim.Native.Nat.{ℕ, zero, suc, ◌≤◌, ◌<◌}
use mathlib.Core.Bool.{cond}
use mathlib.Core.List.{List, [], ◌∷◌}
use mathlib.Core.Path.{◌≡◌, refl, ap, ◌∙◌}
use native.Mathlib.Decide.{ℕ_discrete}
use native.Mathlib.Omega.{arith}
use lib.ListN.{get_or, length, take}
use lib.Seq.{take-append-le, take_all}
use Rattle.bodies.specs.Refusals.{done}
use Rattle.bodies.proofs.BodyLaws.{edit_not_empty}
use Rattle.bodies.proofs.LimitLaws.{waiting_edit}
use Rattle.queues.specs.Waiting.{next_edit}
use Rattle.queues.proofs.WaitingLaws.{next_fits}
use Rattle.station_spec.specs.Limits.{allowed}
use Rattle.station_spec.specs.declared.Setup.{Setup}
use Rattle.group_spec.specs.declared.RoundDone.{RoundDone}
use Rattle.group_spec.specs.Calls.{group_fresh_refusal}
use Rattle.group_spec.specs.History.{History, Call, history_of, no_round, report_in, aired_list}
use Rattle.group_spec.proofs.Setups.{accepts}
use Rattle.group_spec.proofs.Run.{Run, hearing_in}
use Rattle.group_spec.proofs.MembersRound.{run_hears, run_room}
use Rattle.group_spec.proofs.Lanes.{run_heard}
use Rattle.group_spec.proofs.Lists.{turn_in, rows_by}
use Rattle.group_spec.proofs.Aired.{rows_of, aired_rows}
use Rattle.group_spec.proofs.CallRun.{run_of}
use Rattle.group_spec.proofs.HistoryRun.{round_in, rounds_by, length_rounds, rounds_at, history_rounds}
use Rattle.group_spec.proofs.HistoryLists.{turn_at, aired_list_lem}
use Rattle.group_spec.proofs.DemandThree.{ready_members, round_runs, after_rounds, free}
use Rattle.delivery_spec.specs.Delivery.{up_to, rows_aired}
use Rattle.delivery_spec.proofs.Progress.{Filled}

module _ (R : Run) where
  -- the first rounds of a run
  rounds_take : (u v : ℕ) → u ≤ v → take u (rounds_by R v) ≡ rounds_by R u
  unfolding rounds_by
  rounds_take u zero h = let e : u ≡ 0 = omega arith in rw e
  rounds_take u (suc v) h =
      elim (ℕ_discrete u (suc v)) [
        | yes e ↦ rw e (take_all (suc v) (rounds_by R (suc v)) (omega (arith, length_rounds R (suc v))))
        | no d ↦
            take-append-le u (rounds_by R v) (round_in R v ∷ []) (omega (arith, length_rounds R v))
            ∙ rounds_take u v (omega arith)
      ]

module _ (setup : Setup) (fresh : group_fresh_refusal setup ≡ done) (calls : List Call) where
  abbrev n : ℕ
  n = setup.n

  abbrev R : Run
  R = run_of setup (accepts setup fresh) calls

  abbrev H : History
  H = history_of setup calls

  abbrev last : ℕ
  last = length H.rounds

  pub same_rounds : H.rounds ≡ rounds_by R last
  same_rounds = history_rounds setup (accepts setup fresh) calls (free setup fresh calls)

  pub first_rounds : (v : ℕ) → v ≤ last → take v H.rounds ≡ rounds_by R v
  first_rounds v l = ap (λ (rs : List RoundDone). take v rs) same_rounds ∙ rounds_take R v last l

  -- what q has aired by the end of round v are the first rows
  pub aired_by : (v w q : ℕ) → v ≤ w → v ≤ last → q < n → aired_list n (up_to v H) q ≡ rows_of R w (rows_by R v q)
  aired_by v w q h l lq = aired_list_lem R (up_to v H) v (first_rounds v l) q lq ∙ aired_rows R v w q h lq

  -- as many as are counted
  pub rows_counted : (v q : ℕ) → v ≤ last → q < n → rows_aired H q v ≡ rows_by R v q
  unfolding rows_aired rows_by
  rows_counted zero q l lq = refl
  rows_counted (suc v) q l lq =
      let turn : (report_in (get_or H.rounds v no_round) q).turn ≡ turn_in R v q =
      ap (λ (rs : List RoundDone). (report_in (get_or rs v no_round) q).turn) same_rounds
      ∙ ap (λ (r : RoundDone). (report_in r q).turn) (rounds_at R last v l)
      ∙ turn_at R v q lq in
      let before : rows_aired H q v ≡ rows_by R v q = rows_counted v q (omega arith) lq in
      (λ i. cond (turn i).aired (suc (before i)) (before i))

  -- only edits wait
  pub run_filled : Filled R
  run_filled =
      record {
        some =
            λ u p l w.
            let c = ready_members setup fresh calls u (after_rounds setup fresh calls u) in
            let run = round_runs setup fresh calls u c in
            let inside =
            (run_hears n (R.ready u) c (R.masks (suc u)) run p l).inside
            (run_room n (R.ready u) c (R.masks (suc u)) run p l) in
            let heard = run_heard R u p l in
            let h = (hearing_in R u p).station in
            edit_not_empty (next_edit h.waiting)
            (waiting_edit (allowed h) (next_edit h.waiting) (next_fits (allowed h) h.waiting (rw (← heard) inside.waiting) w));
      }
