-- Sets, counts and rounds that stand for the links after a whole log are the answer.
use mathlib.Core.List.{List}
use mathlib.Core.Path.{◌≡◌, sym, ap₂, ◌∙◌}
use Prim.Native.Nat.{ℕ}
use lib.ListN.{length}
use Rattle.links.specs.Forecast.{end_count, last_end}
use Rattle.planning_spec.specs.Forecast.{ForecastAnswer}
use Rattle.planning_spec.specs.LinkLog.{rounds_of, links_of, log_refusal}
use Rattle.planning_spec.specs.Forecast.{forecast_call}
use Rattle.planning_spec.proofs.LinkLog.{accepted}
use Rattle.planning_spec.proofs.Forecast.{forecast_done, per_station_is}
use Rattle.planning.specs.Stands.{Stands}

pub answered : (n : ℕ) (log sets ends last : List ℕ) → log_refusal n (length log) ≡ 0 → Stands (links_of n log) (rounds_of n log) sets ends last
    → ◌≡◌ {A = ForecastAnswer} (record { refusal = 0; ends = ends; last = last }) (forecast_call n log)
answered n log sets ends last e k =
    let a = accepted n (length log) e in
    ap₂ (λ (x y : List ℕ). record { refusal = 0; ends = x; last = y })
    (per_station_is n (λ s. end_count (links_of n log) (rounds_of n log) s) ends a.few k.size_ends k.count k.count_rest)
    (per_station_is n (λ s. last_end (links_of n log) (rounds_of n log) s) last a.few k.size_last k.round_of k.round_rest)
    ∙ sym (forecast_done n log e)
