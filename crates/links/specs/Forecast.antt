-- How many broadcasts of a station end within so many rounds, and the round of the last end
-- (document 02, A1): of links alone.
use Rattle.std.specs.Prelude.{if◌then◌else◌, ℕ, zero, suc, ◌≤◌, ◌<◌}
use Rattle.links.specs.Relay.{Links}
use Rattle.links.specs.EndRule.{EndsIn, Starts}
use Rattle.links.specs.Inner.Number.{ends}

-- How many broadcasts of s end in the rounds up to u.
unfoldable pub end_count : Links → ℕ → ℕ → ℕ
end_count L zero s = 0
end_count L (suc u) s = if ends L (suc u) s then suc (end_count L u s) else end_count L u s

-- The last of these rounds in which one ends; 0 where none ends.
unfoldable pub last_end : Links → ℕ → ℕ → ℕ
last_end L zero s = 0
last_end L (suc u) s = if ends L (suc u) s then suc u else last_end L u s

-- The same by relays alone, as the end rule has them: within so many rounds `count` broadcasts of s
-- end, the last of them in round `last`, or 0 where none ends. So the broadcast after these starts
-- in that round, and does not end within these rounds.
pub record ForecastByRelays (L : Links) (rounds s count last : ℕ) : Type 0 where
  pub starts : Starts L s (suc count) last
  pub within : last ≤ rounds
  pub goes_on : (v : ℕ) → EndsIn L s last v → rounds < v
