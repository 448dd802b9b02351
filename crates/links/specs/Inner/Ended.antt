-- Ends without their starts.
use Rattle.std.specs.Prelude.{ℕ}
use Rattle.links.specs.Relay.{Links}
use Rattle.links.specs.EndRule.{EndsIn, Starts}

-- In round u s ends a broadcast: one that it started in some earlier round.
pub record Ended (L : Links) (s u : ℕ) : Type 0 where
  pub number : ℕ
  pub started : ℕ
  pub starts : Starts L s number started
  pub ends_in : EndsIn L s started u
