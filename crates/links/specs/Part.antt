-- Links whose hearings are all among those of other links, and the k-th end of a station (document
-- 02, A10).
use Rattle.std.specs.Prelude.{true, ◌≡◌, ℕ, ◌≤◌}
use Rattle.links.specs.Relay.{Links}
use Rattle.links.specs.EndRule.{EndsIn, Starts}

-- L and M have the same stations, and up to a round each hearing of L is one of M.
pub record Part (L M : Links) (last : ℕ) : Type 0 where
  pub sizes : L.size ≡ M.size
  pub hearings : (u p j : ℕ) → u ≤ last → L.hears u p j ≡ true → M.hears u p j ≡ true

-- The k-th end of s, from 1 on, comes in round u: its broadcast number k ends there.
pub record EndComes (L : Links) (s k u : ℕ) : Type 0 where
  pub started : ℕ
  pub starts : Starts L s k started
  pub ends_in : EndsIn L s started u

-- The k-th end of s comes in round u or in an earlier one.
pub record EndComesBy (L : Links) (s k u : ℕ) : Type 0 where
  pub round : ℕ
  pub by : round ≤ u
  pub comes : EndComes L s k round
