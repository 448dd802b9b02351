-- Document 01, "A station and its calls": the bodies that a station holds, wherever they stand.
-- Entries from N up, places past a length, and the record of a station of which none is held are no
-- part of it.
use Rattle.std.specs.Prelude.{ℕ, ◌<◌, true, ◌≡◌}
use Rattle.bodies.specs.declared.Body.{Body}
use Rattle.queues.specs.Waiting.{desk_count, waiting_at}
use Rattle.station_spec.specs.declared.Station.{Station}
use Rattle.station_spec.specs.State.{held_of, record_of, lane_at}

-- the body is the one broadcast now, one of the waiting edits, that of a held record, or in a lane
pub data Holds (s : Station) : Body → Type 0 where
  present : Holds s s.body
  waiting : (desk i : ℕ) → i < desk_count s.waiting desk → Holds s (waiting_at s.waiting desk i)
  recorded : (k : ℕ) → k < s.n → held_of s k ≡ true → Holds s (record_of s k).body
  lane_first : (k : ℕ) → k < s.n → 0 < (lane_at s k).len → Holds s (lane_at s k).first
  lane_second : (k : ℕ) → k < s.n → 1 < (lane_at s k).len → Holds s (lane_at s k).second
