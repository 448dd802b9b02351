-- The advances of one station's label for another, in the rounds of a list of calls (document 02,
-- A11).
use Rattle.std.specs.Prelude.{Bool, true, false, if◌then◌else◌, ◌≡◌, ℕ, zero, suc, ◌≤◌, ◌==◌, slice_index_or, length}
use Rattle.std.proofs.Math.Option.{Option, none, some}
use Rattle.labels.specs.Label.{successor}
use Rattle.station_spec.specs.declared.Setup.{Setup}
use Rattle.station_spec.specs.State.{label_of}
use Rattle.group_spec.specs.State.{station_at, fresh_group}
use Rattle.group_spec.specs.History.{History, no_round}
use Rattle.planning_spec.specs.Arrival.{Arrival}
use Rattle.planning_spec.specs.Questions.{arrival_of}

-- the label that r has for s as round u left it; round 0 is the fresh group
unfoldable pub label_after : Setup → History → ℕ → ℕ → ℕ → ℕ
label_after setup H r s zero = label_of (station_at (fresh_group setup) r) s
label_after setup H r s (suc u) = label_of (station_at (slice_index_or H.rounds u no_round).group r) s

-- in round u it becomes its successor
unfoldable pub advances : Setup → History → ℕ → ℕ → ℕ → Bool
advances setup H r s zero = false
advances setup H r s (suc u) = label_after setup H r s (suc u) == successor (label_after setup H r s u)

-- how often it does so in the rounds up to u
unfoldable pub advances_by : Setup → History → ℕ → ℕ → ℕ → ℕ
advances_by setup H r s zero = 0
advances_by setup H r s (suc u) =
    if advances setup H r s (suc u) then suc (advances_by setup H r s u) else advances_by setup H r s u

-- it advances for the k-th time in round u
pub record AdvancesIn (setup : Setup) (H : History) (r s k u : ℕ) : Type 0 where
  pub within : u ≤ length H.rounds
  pub advance : advances setup H r s u ≡ true
  pub number : advances_by setup H r s u ≡ k

-- the round of the k-th advance, or none where there is no such advance in the rounds done
pub data AnsweredBy (setup : Setup) (H : History) (r s k : ℕ) : Option ℕ → Type 0 where
  advanced : {u : ℕ} → AdvancesIn setup H r s k u → AnsweredBy setup H r s k (some u)
  not_yet : ((u : ℕ) → AdvancesIn setup H r s k u → ⊥) → AnsweredBy setup H r s k none

-- an answer of a page is that round, or never
pub record RunAnswer (setup : Setup) (H : History) (r s k : ℕ) (a : Arrival) : Type 0 where
  pub round : Option ℕ
  pub given : a ≡ arrival_of round
  pub by_rounds : AnsweredBy setup H r s k round
