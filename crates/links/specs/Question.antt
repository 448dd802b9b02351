-- Document 02, A11: by which round a station has received a broadcast.
use Rattle.std.specs.Prelude.{if◌then◌else◌, ◌⊎◌, ◌≡◌, ℕ, zero, suc, ◌<◌, ◌≤◌, nat_le}
use Rattle.std.proofs.Math.Option.{Option, none, some}
use Rattle.links.specs.Relay.{Links}
use Rattle.links.specs.EndRule.{RelayBy, Starts}
use Rattle.links.specs.Inner.Number.{got}

-- By round u station r has broadcast number k of s: s itself from the round on in which it starts
-- it, another where a relay after that start has come.
pub record HasBy (L : Links) (r s k u : ℕ) : Type 0 where
  pub started : ℕ
  pub starts : Starts L s k started
  pub there : ((r ≡ s) × (started ≤ u)) ⊎ ((r ≡ s → ⊥) × RelayBy L s started r u)

-- Round u is the first by which it has.
pub record BroughtIn (L : Links) (r s k u : ℕ) : Type 0 where
  pub has : HasBy L r s k u
  pub first : (v : ℕ) → HasBy L r s k v → u ≤ v

-- The answer within so many rounds, by relays alone: the first round by which r has it, or never,
-- `none`, where these rounds do not bring it.
pub data Answered (L : Links) (r s k last : ℕ) : Option ℕ → Type 0 where
  in_round : {u : ℕ} → u ≤ last → BroughtIn L r s k u → Answered L r s k last (some u)
  in_none : (HasBy L r s k last → ⊥) → Answered L r s k last none

-- What rounds added at the end make of an answer: a round stays, and never stays or becomes one of
-- the rounds added.
pub data Extends (last more : ℕ) : Option ℕ → Option ℕ → Type 0 where
  kept : {u : ℕ} → Extends last more (some u) (some u)
  still : Extends last more none none
  now : {u : ℕ} → last < u → u ≤ more → Extends last more none (some u)

-- What was answered before round u stays; else u is the answer, if it brings the broadcast.
unfoldable pub otherwise : Option ℕ → ℕ → ℕ → ℕ → Option ℕ
otherwise none k have u = if nat_le k have then some u else none
otherwise (some v) k have u = some v

-- The answer by the numbers of broadcasts that r has: the first round from 0 on in which it has k
-- of s. `answer_relays` and `answer_only` (proofs/Question) say that this, and nothing else, is the
-- answer by relays.
unfoldable pub answer_in : Links → ℕ → ℕ → ℕ → ℕ → Option ℕ
answer_in L r s k zero = otherwise none k (got L 0 r s) 0
answer_in L r s k (suc u) = otherwise (answer_in L r s k u) k (got L (suc u) r s) (suc u)
