-- Request A4 over every list of calls: a round after the list is a round of the run of the list
-- with that round put last. There each hearer stands for versions, so no record that it hears
-- conflicts with what it holds, frame by frame.
use Prim.Native.Nat.{ℕ, suc, ◌+◌, ◌-◌, ◌<◌}
use mathlib.Core.List.{List, [], ◌∷◌, ◌++◌}
use mathlib.Core.Path.{◌≡◌, refl, sym, subst, ◌∙◌}
use native.Mathlib.Omega.{arith}
use Rattle.bodies.specs.Refusals.{done}
use Rattle.links.specs.Inner.Inside.{hears_in_inside}
use Rattle.frame_spec.specs.Record.{framed}
use Rattle.station_spec.specs.declared.Station.{Station}
use Rattle.station_spec.specs.State.{record_of}
use Rattle.station_spec.specs.Hearing.{initial_hearing}
use Rattle.station_spec.proofs.HearRecord.{conflicts_not}
use Rattle.group_spec.specs.State.{station_at, size_of}
use Rattle.group_spec.specs.Calls.{heard_below}
use Rattle.group_spec.specs.History.{round}
use Rattle.group_spec.specs.Conflicts.{Calm, NeverConflicting}
use Rattle.group_spec.proofs.Setups.{accepts}
use Rattle.group_spec.proofs.Run.{Run}
use Rattle.group_spec.proofs.Through.{heard_through, below_through, through_before}
use Rattle.group_spec.proofs.RoundHeard.{round_calm, hear_senders, frame_station}
use Rattle.group_spec.proofs.Rounds.{ready_all}
use Rattle.group_spec.proofs.Lanes.{through_done}
use Rattle.group_spec.proofs.CallRun.{run_of}
use Rattle.group_spec.proofs.HistoryRun.{ready_before}
use Rattle.group_spec.proofs.DemandThree.{free}

-- of a run
run-calm : (R : Run) (u : ℕ) → Calm R.n (R.ready u) (R.masks (suc u))
run-calm R u p j k lp lk d hears held e =
    let lj : j < R.n = (hears_in_inside R.n (R.masks (suc u)) p j hears).1 in
    let g = R.ready u in
    let masks = R.masks (suc u) in
    let size : (station_at g j).n ≡ R.n = (ready_all R u j lj).formed.size in
    let n : size_of g ≡ R.n = (ready_all R u 0 R.low).formed.size in
    let quiet = round_calm R u p lp (λ i l. ready_all R u i l) j k lj lk d held in
    let end : (size_of g - j) + j ≡ size_of g = omega (arith, n) in
    let whole : (heard_through g masks p ((size_of g - j) + j)).refusal ≡ done = rw end (through_done R u p lp) in
    let same : heard_below g masks p j ≡ heard_through g masks p j =
    below_through g masks p j (through_before g masks p j (size_of g - j) whole) in
    let own : (heard_through g masks p j).station.own ≡ p = (hear_senders R u p lp (λ i l. ready_all R u i l) j (omega arith)).formed.own in
    let here : (framed (station_at g j).n (record_of (station_at g j) k)).station ≡ k =
    frame_station R u p lp (station_at g p) j lj (station_at g j) (ready_all R u j lj) (initial_hearing (station_at g p)) (λ q. 0) k lk held in
    conflicts_not (heard_through g masks p j).station (framed R.n (record_of (station_at g j) k))
    (λ q. d (sym (rw size at here) ∙ q ∙ own)) (rw size at quiet) (rw same at e)

pub never_conflicting : NeverConflicting
never_conflicting setup accepted calls masks =
    let ok = accepts setup accepted in
    let longer = calls ++ (round masks ∷ []) in
    let R = run_of setup ok longer in
    let at = ready_before setup ok longer (free setup accepted longer) calls masks [] refl in
    subst (λ (g : List Station). Calm setup.n g masks) (sym at.1)
    (subst (λ (m : List ℕ). Calm setup.n (R.ready at.0) m) (sym at.2) (run-calm R at.0))
