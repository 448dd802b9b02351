-- When a broadcast ends, by relays alone (document 01, A group and its rounds).
use Rattle.std.specs.Prelude.{◌≡◌, ℕ, suc, ◌<◌, ◌≤◌}
use Rattle.links.specs.Relay.{Links, Relay}

-- Some relay from a, later than round t, has come to b by round v.
pub record RelayBy (L : Links) (a t b v : ℕ) : Type 0 where
  pub arrival : ℕ
  pub by : arrival ≤ v
  pub relay : Relay L a t b arrival

-- There and back: r was reached from s after round t by some round, and after that round s was
-- reached from r, by round u.
pub record Returned (L : Links) (s t r u : ℕ) : Type 0 where
  pub turning : ℕ
  pub out : RelayBy L s t r turning
  pub back : RelayBy L r turning s u

-- Each other station has been reached and has been heard back from.
pub record AllReturned (L : Links) (s t u : ℕ) : Type 0 where
  pub each : (r : ℕ) → r < L.size → (r ≡ s → ⊥) → Returned L s t r u

-- The broadcast that s started in round t ends in round u: the first round later than t by which
-- that is so.
pub record EndsIn (L : Links) (s t u : ℕ) : Type 0 where
  pub later : t < u
  pub returned : AllReturned L s t u
  pub first : (v : ℕ) → t < v → AllReturned L s t v → u ≤ v

-- Broadcast number k of s, from 1 on, starts in round t: the first in round 0, each other in the
-- round in which the one before it ends.
pub data Starts (L : Links) (s : ℕ) : ℕ → ℕ → Type 0 where
  at_first : Starts L s 1 0
  after : {k t u : ℕ} → Starts L s k t → EndsIn L s t u → Starts L s (suc k) u
