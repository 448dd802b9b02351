-- Document 02, A10: two link logs merged. A hearing is there in a round if either log has it.
use Rattle.std.specs.Prelude.{Bool, Result, Ok, Err, if◌then◌else◌, not, ◌||◌, List, ◌++◌, ◌≡◌, ℕ}
use Rattle.std.specs.Prelude.{zero, suc, max, ◌+◌, ◌*◌, ◌/◌, ◌%◌, ◌≤◌, ◌==◌}
use Rattle.std.specs.Prelude.{nat_lt, slice_index, length, drop}
use Rattle.bodies.specs.declared.refusals.Refusal.{Refusal}
use Rattle.bodies.specs.Refusals.{done, short_buffer, number, refuse_number}
use Rattle.lists.specs.Below.{tabulate}
use Rattle.planning_spec.specs.LinkLog.{links_of, log_refusal}
use Rattle.planning_spec.specs.Forecast.{forecast_call}

-- the mask whose bit j is 1 where the test holds at j, for j below n; its other bits are 0
unfoldable pub mask_of : ℕ → (ℕ → Bool) → ℕ
mask_of zero test = 0
mask_of (suc n) test = mask_of n (λ j. test (suc j)) * 2 + (if test 0 then 1 else 0)

-- The mask at place x: station x % n hears in round x / n + 1 whom it hears there by either log. A
-- log is silent past its end.
unfoldable pub merged_mask : ℕ → List ℕ → List ℕ → ℕ → ℕ
merged_mask n first second x =
    mask_of n (λ j. (links_of n first).hears (suc (x / n)) (x % n) j
    || (links_of n second).hears (suc (x / n)) (x % n) j)

-- the merged log, as long as the longer one
unfoldable pub merged_log : ℕ → List ℕ → List ℕ → List ℕ
merged_log n first second = tabulate (max (length first) (length second)) (merged_mask n first second)

-- the refusals of two logs of so many masks: 1, 12
unfoldable pub logs_refusal : ℕ → ℕ → ℕ → ℕ
logs_refusal n first second =
    refuse_number (not (log_refusal n first == done)) (log_refusal n first)
    (refuse_number (not (log_refusal n second == done)) (log_refusal n second) done)

-- and of a buffer that has room for so many masks: 1, 12, 9
unfoldable pub merge_refusal : ℕ → ℕ → ℕ → ℕ → ℕ
merge_refusal n first second room =
    refuse_number (not (logs_refusal n first second == done)) (logs_refusal n first second)
    (refuse_number (nat_lt room (max first second)) short_buffer done)

-- what a call of merge answers: done or its refusal, and how many masks the merged log has
pub record MergeAnswer : Type 0 where
  pub refusal : ℕ
  pub masks : ℕ

-- the answer that a result stands for
abbrev pub merge_answer : Result ℕ Refusal → MergeAnswer
merge_answer (Ok masks) = record { refusal = done; masks = masks }
merge_answer (Err refusal) = record { refusal = number refusal; masks = 0 }

-- merge into a buffer that has room for so many masks: the number of masks of the merged log; 0
-- where it is refused
unfoldable pub merge_call : ℕ → List ℕ → List ℕ → ℕ → MergeAnswer
merge_call n first second room =
    if merge_refusal n (length first) (length second) room == done
    then record { refusal = done; masks = length (merged_log n first second) }
    else record { refusal = merge_refusal n (length first) (length second) room; masks = 0 }

-- a lent buffer afterwards: the entries and then what stood past them; all of it as it was where
-- the call was refused
unfoldable pub front_written : ℕ → List ℕ → List ℕ → List ℕ
front_written refusal entries buffer = if refusal == done then entries ++ drop (length entries) buffer else buffer

-- the call from C, which also needs room for the number of masks: 1, 12, 9
unfoldable pub merge_into_refusal : ℕ → List ℕ → List ℕ → List ℕ → List ℕ → ℕ
merge_into_refusal n first second merged masks =
    refuse_number (not (merge_refusal n (length first) (length second) (length merged) == done))
    (merge_refusal n (length first) (length second) (length merged))
    (refuse_number (nat_lt (length masks) 1) short_buffer done)

-- What planners rely on, said of the forecasts of two logs: at station s the second has as many
-- ends or more, and where there are as many, the last comes no later. `forecast_first` and
-- `forecast_second` show it of either log and the merged one.
pub record NoLater (n : ℕ) (log more : List ℕ) (s : ℕ) : Type 0 where
  pub ends : slice_index (forecast_call n log).ends s ≤ slice_index (forecast_call n more).ends s
  pub last :
      slice_index (forecast_call n log).ends s ≡ slice_index (forecast_call n more).ends s
      → slice_index (forecast_call n more).last s ≤ slice_index (forecast_call n log).last s
