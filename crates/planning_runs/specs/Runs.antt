-- The ends that the rounds of a list of calls report, and the link log that those rounds have or
-- follow.
use Rattle.std.specs.Prelude.{ℕ, zero, suc, ◌+◌, ◌*◌, ◌<◌, ◌≤◌, true, if◌then◌else◌, List, [], ◌≡◌}
use Rattle.std.specs.Prelude.{slice_index, slice_index_or, length}
use Rattle.bodies.specs.Refusals.{done}
use Rattle.station_spec.specs.declared.Setup.{Setup}
use Rattle.group_spec.specs.Calls.{group_fresh_refusal}
use Rattle.group_spec.specs.History.{History, ends_at}

-- what a fresh group of n stations may be given, whatever else is in it
pub record FreshOf (n : ℕ) (setup : Setup) : Type 0 where
  pub size : setup.n ≡ n
  pub taken : group_fresh_refusal setup ≡ done

-- how many ends s reports in the rounds up to u
unfoldable pub ends_reported : History → ℕ → ℕ → ℕ
ends_reported H s zero = 0
ends_reported H s (suc u) = if ends_at H s (suc u) then suc (ends_reported H s u) else ends_reported H s u

-- the last round up to u in which s reports an end; 0 where it reports none
unfoldable pub last_reported : History → ℕ → ℕ → ℕ
last_reported H s zero = 0
last_reported H s (suc u) = if ends_at H s (suc u) then suc u else last_reported H s u

-- the rounds of a list of calls have this log: it is as many rounds, and each round was given its
-- masks for the stations below n
pub record RoundsHave (n : ℕ) (H : History) (log : List ℕ) : Type 0 where
  pub whole : length log ≡ length H.rounds * n
  pub masks :
      (u p : ℕ) → u < length H.rounds → p < n → slice_index (slice_index_or H.log u []) p ≡ slice_index log (u * n + p)

-- the k-th end that s reports is in round u
pub record EndReported (H : History) (s k u : ℕ) : Type 0 where
  pub within : u ≤ length H.rounds
  pub reported : ends_at H s u ≡ true
  pub number : ends_reported H s u ≡ k

-- it is in round u or in an earlier one
pub record EndReportedBy (H : History) (s k u : ℕ) : Type 0 where
  pub round : ℕ
  pub by : round ≤ u
  pub reports : EndReported H s k round

-- the rounds of a list of calls, however many, were given the masks of this log; past its end
-- nobody heard anybody
pub record RoundsFollow (n : ℕ) (H : History) (log : List ℕ) : Type 0 where
  pub masks :
      (v p : ℕ) → v < length H.rounds → p < n → slice_index (slice_index_or H.log v []) p ≡ slice_index log (v * n + p)
