-- The forecast into lent buffers, case by case: the refusal of the log, a buffer without room, and
-- the answer written.
use mathlib.Core.List.{List}
use mathlib.Core.Path.{◌≡◌, refl, sym, ap, ◌∙◌}
use Prim.Native.Nat.{ℕ, ◌<◌, ◌≤◌}
use native.Mathlib.Decide.{ℕ_discrete}
use native.Mathlib.Omega.{arith}
use borrow.Author.Tests.{eq-eqb, ne_eqb, lt-ltb, le-ltb}
use lib.ListN.{get_or, length}
use Rattle.lists.specs.Below.{set_below}
use Rattle.planning_spec.specs.Forecast.{ForecastAnswer}
use Rattle.planning_spec.specs.LinkLog.{log_refusal}
use Rattle.planning_spec.specs.Forecast.{forecast_call, forecast_into_refusal, written_into}
use Rattle.planning_spec.proofs.Forecast.{forecast_refused, forecast_done}

pub call_refusal : (n : ℕ) (log : List ℕ) → (forecast_call n log).refusal ≡ log_refusal n (length log)
call_refusal n log =
    elim (ℕ_discrete (log_refusal n (length log)) 0) [
      | yes e ↦ ap (λ (a : ForecastAnswer). a.refusal) (forecast_done n log e) ∙ sym e
      | no d ↦ ap (λ (a : ForecastAnswer). a.refusal) (forecast_refused n log d)
    ]

written_not : (refusal : ℕ) (entries buffer : List ℕ) → (refusal ≡ 0 → ⊥) → buffer ≡ written_into refusal entries buffer
unfolding written_into
written_not refusal entries buffer d = rw (ne_eqb refusal 0 d)

written_done : (entries buffer : List ℕ) → set_below 16 (λ k. get_or entries k 0) buffer ≡ written_into 0 entries buffer
unfolding written_into
written_done entries buffer = refl

-- The answer of the forecast, and what a return makes of it.
module _ (n : ℕ) (log ends last : List ℕ) (a : ForecastAnswer) (is : a ≡ forecast_call n log) where
  same_refusal : a.refusal ≡ log_refusal n (length log)
  same_refusal = ap (λ (b : ForecastAnswer). b.refusal) is ∙ call_refusal n log

  pub into_refused : (a.refusal ≡ 0 → ⊥)
      → (a.refusal ≡ forecast_into_refusal n log ends last)
      × (ends ≡ written_into a.refusal (forecast_call n log).ends ends)
      × (last ≡ written_into a.refusal (forecast_call n log).last last)
  unfolding forecast_into_refusal
  into_refused d = (
    same_refusal ∙ rw (ne_eqb (log_refusal n (length log)) 0 (λ h. d (same_refusal ∙ h))),
    written_not a.refusal (forecast_call n log).ends ends d,
    written_not a.refusal (forecast_call n log).last last d,
  )

  pub into_short_ends : a.refusal ≡ 0 → length ends < 16
      → (9 ≡ forecast_into_refusal n log ends last)
      × (ends ≡ written_into 9 (forecast_call n log).ends ends)
      × (last ≡ written_into 9 (forecast_call n log).last last)
  unfolding forecast_into_refusal
  into_short_ends e h = (
    rw (eq-eqb (log_refusal n (length log)) 0 (sym same_refusal ∙ e), lt-ltb (length ends) 16 h),
    written_not 9 (forecast_call n log).ends ends (λ x. absurd (omega arith)),
    written_not 9 (forecast_call n log).last last (λ x. absurd (omega arith)),
  )

  pub into_short_last : a.refusal ≡ 0 → 16 ≤ length ends → length last < 16
      → (9 ≡ forecast_into_refusal n log ends last)
      × (ends ≡ written_into 9 (forecast_call n log).ends ends)
      × (last ≡ written_into 9 (forecast_call n log).last last)
  unfolding forecast_into_refusal
  into_short_last e h l = (
    rw (eq-eqb (log_refusal n (length log)) 0 (sym same_refusal ∙ e), le-ltb (length ends) 16 h, lt-ltb (length last) 16 l),
    written_not 9 (forecast_call n log).ends ends (λ x. absurd (omega arith)),
    written_not 9 (forecast_call n log).last last (λ x. absurd (omega arith)),
  )

  pub into_done : (ends' last' : List ℕ) → a.refusal ≡ 0 → 16 ≤ length ends → 16 ≤ length last
      → ends' ≡ set_below 16 (λ k. get_or a.ends k 0) ends → last' ≡ set_below 16 (λ k. get_or a.last k 0) last
      → (0 ≡ forecast_into_refusal n log ends last)
      × (ends' ≡ written_into 0 (forecast_call n log).ends ends)
      × (last' ≡ written_into 0 (forecast_call n log).last last)
  unfolding forecast_into_refusal
  into_done ends' last' e h l x y = (
    rw (eq-eqb (log_refusal n (length log)) 0 (sym same_refusal ∙ e), le-ltb (length ends) 16 h, le-ltb (length last) 16 l),
    x ∙ written_done a.ends ends ∙ ap (λ (b : ForecastAnswer). written_into 0 b.ends ends) is,
    y ∙ written_done a.last last ∙ ap (λ (b : ForecastAnswer). written_into 0 b.last last) is,
  )
