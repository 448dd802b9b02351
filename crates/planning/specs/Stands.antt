-- The sets, the counts of ends and the rounds of the last ends are those of some links after round
-- u. Every loop over the rounds of a log keeps this.
use Rattle.std.specs.Prelude.{List, ◌≡◌, ℕ, ◌<◌, ◌≤◌, length, slice_index}
use Rattle.links.specs.Log.{bit}
use Rattle.links.specs.Relay.{Links}
use Rattle.links.specs.Inner.Know.{knows}
use Rattle.links.specs.Forecast.{end_count, last_end}
use Rattle.planning.specs.Sets.{cell, set_count}

pub record Stands (L : Links) (u : ℕ) (sets ends last : List ℕ) : Type 0 where
  pub size : length sets ≡ set_count
  pub size_ends : length ends ≡ 16
  pub size_last : length last ≡ 16
  pub each : (p s r : ℕ) → p < L.size → s < L.size → r < L.size → bit (cell sets p s) r ≡ knows L u s p r
  pub count : (s : ℕ) → s < L.size → slice_index ends s ≡ end_count L u s
  pub round_of : (s : ℕ) → s < L.size → slice_index last s ≡ last_end L u s
  pub count_rest : (s : ℕ) → L.size ≤ s → slice_index ends s ≡ 0
  pub round_rest : (s : ℕ) → L.size ≤ s → slice_index last s ≡ 0
