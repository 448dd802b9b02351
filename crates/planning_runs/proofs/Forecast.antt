-- The forecast agrees with the group's rounds from fresh, for every setup that fresh accepts and
-- every list of posts and rounds: through demand 3 alone, which knows no bound on the rounds. For
-- every log of whole rounds there are such lists: its rounds with no post among them is one.
use mathlib.Core.List.{List, [], ◌∷◌, ◌++◌, append-nil, append_assoc}
use mathlib.Core.Path.{◌≡◌, refl, sym, ap, ◌∙◌}
use Prim.Native.Nat.{ℕ, ◌+◌, ◌*◌, ◌<◌, ◌≤◌}
use native.Mathlib.Nat.{le_refl}
use native.Mathlib.Omega.{arith}
use lib.ListN.{get_or, length, length-append}
use Rattle.bodies.specs.Refusals.{done}
use Rattle.links.specs.Log.{cut}
use Rattle.links.specs.Relay.{of_log}
use Rattle.links.specs.Forecast.{end_count, last_end}
use Rattle.links.proofs.Forecast.{end_count_same, last_end_same}
use Rattle.links.proofs.Log.{cut_mask, cut-length}
use Rattle.station_spec.specs.declared.Setup.{Setup}
use Rattle.group_spec.specs.Calls.{group_fresh_refusal, round_call}
use Rattle.group_spec.specs.History.{History, Call, Call.round, next, begun, continued, history_of}
use Rattle.group_spec.proofs.Setups.{accepts}
use Rattle.group_spec.proofs.DemandThree.{demand_three}
use Rattle.planning_spec.specs.LinkLog.{rounds_of, links_of, log_refusal}
use Rattle.planning_spec.specs.Forecast.{forecast_call}
use Rattle.planning_spec.proofs.Forecast.{forecast_done, per_station_below}
use Rattle.planning_runs.specs.Runs.{ends_reported, last_reported, RoundsHave}
use Rattle.planning_runs.proofs.Reported.{reported_count, reported_last, rounds_same, rounds_number, masks_at}

-- For every log, however long: the ends that the rounds report are those that its links bring, in
-- number and last round.
module _ (setup : Setup) (fresh : group_fresh_refusal setup ≡ done) where
  abbrev n : ℕ
  n = setup.n

  pub runs_ends : (calls : List Call) (log : List ℕ) → RoundsHave n (history_of setup calls) log → (s : ℕ) → s < n
      → (ends_reported (history_of setup calls) s (length (history_of setup calls).rounds) ≡ end_count (links_of n log) (rounds_of n log) s)
      × (last_reported (history_of setup calls) s (length (history_of setup calls).rounds) ≡ last_end (links_of n log) (rounds_of n log) s)
  runs_ends calls log has s ls =
      let H = history_of setup calls in
      let low : 1 ≤ n = (accepts setup fresh).low in
      let e : rounds_of n log ≡ length H.rounds = rounds_number n low H log has in
      let same = rounds_same n low H log has in
      let u = rounds_of n log in
      let l : rounds_of n log ≤ length H.rounds = omega (arith, e) in (
        ap (λ (v : ℕ). ends_reported H s v) (sym e)
            ∙ reported_count n H (demand_three setup fresh calls) s ls u l
            ∙ end_count_same (of_log n H.log) (links_of n log) u same u s (le_refl u),
        ap (λ (v : ℕ). last_reported H s v) (sym e)
            ∙ reported_last n H (demand_three setup fresh calls) s ls u l
            ∙ last_end_same (of_log n H.log) (links_of n log) u same u s (le_refl u),
      )

  -- And so the forecast's, where the call is not refused.
  pub runs_forecast : (calls : List Call) (log : List ℕ) → RoundsHave n (history_of setup calls) log
      → log_refusal n (length log) ≡ done → (s : ℕ) → s < n
      → (ends_reported (history_of setup calls) s (length (history_of setup calls).rounds) ≡ get_or (forecast_call n log).ends s 0)
      × (last_reported (history_of setup calls) s (length (history_of setup calls).rounds) ≡ get_or (forecast_call n log).last s 0)
  runs_forecast calls log has e s ls =
      let high : n ≤ 16 = (accepts setup fresh).high in
      let r = runs_ends calls log has s ls in
      rw (forecast_done n log e) (
        r.0 ∙ sym (per_station_below n (λ t. end_count (links_of n log) (rounds_of n log) t) s high ls),
        r.1 ∙ sym (per_station_below n (λ t. last_end (links_of n log) (rounds_of n log) t) s high ls),
      )

-- The rounds of a log, with no post.
pub rounds_only : List (List ℕ) → List Call
rounds_only [] = []
rounds_only (masks ∷ rest) = round masks ∷ rounds_only rest

continued_log : (H : History) (rounds : List (List ℕ)) → (continued H (rounds_only rounds)).log ≡ H.log ++ rounds
unfolding continued next rounds_only
continued_log H [] = sym (append-nil H.log)
continued_log H (masks ∷ rest) = continued_log (next H (round masks)) rest ∙ append_assoc H.log (masks ∷ []) rest

continued_rounds : (H : History) (rounds : List (List ℕ)) → length (continued H (rounds_only rounds)).rounds ≡ length H.rounds + length rounds
unfolding continued next rounds_only
continued_rounds H [] = omega arith
continued_rounds H (masks ∷ rest) =
    let e = continued_rounds (next H (round masks)) rest in
    omega (arith, e, length-append H.rounds (round_call H.group masks ∷ []))

begun_log : (setup : Setup) → ((begun setup).log ≡ []) × (length (begun setup).rounds ≡ 0)
unfolding begun
begun_log setup = (refl, refl)

pub rounds_have : (setup : Setup) (log : List ℕ) → length log ≡ rounds_of setup.n log * setup.n
    → RoundsHave setup.n (history_of setup (rounds_only (cut setup.n (rounds_of setup.n log) log))) log
rounds_have setup log whole =
    let n = setup.n in
    let rounds = cut n (rounds_of n log) log in
    let e : length (history_of setup (rounds_only rounds)).rounds ≡ rounds_of n log =
    omega (arith, continued_rounds (begun setup) rounds, (begun_log setup).1, cut-length n (rounds_of n log) log) in
    let f : (history_of setup (rounds_only rounds)).log ≡ rounds = continued_log (begun setup) rounds ∙ ap (λ (l : List (List ℕ)). l ++ rounds) (begun_log setup).0 in
    record {
      whole = whole ∙ ap (λ (u : ℕ). u * n) (sym e);
      masks =
          λ u p lu lp.
          ap (λ (l : List (List ℕ)). get_or (get_or l u []) p 0) f
          ∙ sym (masks_at rounds u p)
          ∙ cut_mask n (rounds_of n log) log u p (omega (arith, lu, e)) lp;
    }
