-- What the frame writer counts.
use Rattle.std.specs.Prelude.{ℕ, zero, suc, ◌+◌, Bool, false, if◌then◌else◌, List, slice_index_or}

-- how many records a table holds of the first stations
unfoldable pub held_count : ℕ → List Bool → ℕ
held_count zero held = 0
held_count (suc k) held = held_count k held + (if slice_index_or held k false then 1 else 0)
