-- Document 02, A1: the forecast of a link log. Its ends are those of `links`, by relays alone.
use Rattle.std.specs.Prelude.{if◌then◌else◌, not, Result, Ok, Err, List, ◌≡◌, ℕ, ◌<◌, ◌≤◌, ◌==◌}
use Rattle.std.specs.Prelude.{nat_lt, slice_index, length, replicate}
use Rattle.bodies.specs.declared.refusals.Refusal.{Refusal}
use Rattle.bodies.specs.Refusals.{done, short_buffer, number, refuse_number}
use Rattle.links.specs.Forecast.{end_count, last_end, ForecastByRelays}
use Rattle.lists.specs.Below.{set_below}
use Rattle.planning_spec.specs.declared.ForecastTable.{ForecastTable}
use Rattle.planning_spec.specs.LinkLog.{rounds_of, links_of, log_refusal}

-- sixteen entries: f of each station below n, and 0 from n up
abbrev pub per_station : ℕ → (ℕ → ℕ) → List ℕ
per_station n f = set_below n f (replicate 16 0)

-- what a call of the forecast answers: done or its refusal, and sixteen entries of each kind
pub record ForecastAnswer : Type 0 where
  pub refusal : ℕ
  pub ends : List ℕ
  pub last : List ℕ

-- the answer that a result stands for
abbrev pub forecast_answer : Result ForecastTable Refusal → ForecastAnswer
forecast_answer (Ok told) = record { refusal = done; ends = told.ends; last = told.last }
forecast_answer (Err refusal) = record { refusal = number refusal; ends = replicate 16 0; last = replicate 16 0 }

-- forecast: 1, 12; a refused call has zeros
unfoldable pub forecast_call : ℕ → List ℕ → ForecastAnswer
forecast_call n log =
    if log_refusal n (length log) == done
    then record {
      refusal = done;
      ends = per_station n (λ s. end_count (links_of n log) (rounds_of n log) s);
      last = per_station n (λ s. last_end (links_of n log) (rounds_of n log) s);
    }
    else record { refusal = log_refusal n (length log); ends = replicate 16 0; last = replicate 16 0 }

-- The same answer said by relays and the end rule alone, without a count: a reader may believe
-- either. `forecast_relays` shows that the call's answer is such a one, and `forecast_only` that no
-- other is.
pub record RelayForecast (n : ℕ) (log : List ℕ) (a : ForecastAnswer) : Type 0 where
  pub refusal : a.refusal ≡ log_refusal n (length log)
  pub size_ends : length a.ends ≡ 16
  pub size_last : length a.last ≡ 16
  -- of a log that is not refused, each station's entries are those of the end rule
  pub each :
      a.refusal ≡ done → (s : ℕ) → s < n
      → ForecastByRelays (links_of n log) (rounds_of n log) s (slice_index a.ends s) (slice_index a.last s)
  -- and entries from n up are 0
  pub above : a.refusal ≡ done → (s : ℕ) → n ≤ s → (slice_index a.ends s ≡ 0) × (slice_index a.last s ≡ 0)
  -- a refused call has zeros
  pub refused : (a.refusal ≡ done → ⊥) → (s : ℕ) → (slice_index a.ends s ≡ 0) × (slice_index a.last s ≡ 0)

-- forecast into two lent buffers: 1, 12, and 9 where one of them has no room for sixteen entries
unfoldable pub forecast_into_refusal : ℕ → List ℕ → List ℕ → List ℕ → ℕ
forecast_into_refusal n log ends last =
    refuse_number (not (log_refusal n (length log) == done)) (log_refusal n (length log))
    (refuse_number (nat_lt (length ends) 16) short_buffer
    (refuse_number (nat_lt (length last) 16) short_buffer done))

-- a lent buffer afterwards: the answer's sixteen entries and then what stood there; all of it as it
-- was where the call was refused
unfoldable pub written_into : ℕ → List ℕ → List ℕ → List ℕ
written_into refusal entries buffer =
    if refusal == done then set_below 16 (λ k. slice_index entries k) buffer else buffer
