-- Relays by themselves: inductions over the chain of hearings.
use mathlib.Core.Bool.{true}
use mathlib.Core.Path.{◌≡◌}
use Prim.Native.Nat.{ℕ, ◌<◌, ◌≤◌}
use native.Mathlib.Omega.{arith}
use Rattle.links.specs.Relay.{Links, Relay, direct, onward}

-- A relay arrives later than the round that it is after.
pub relay_after : {L : Links} {a t b k : ℕ} → Relay L a t b k → t < k
relay_after (direct l h) = l
relay_after (onward before l h) = omega (arith, relay_after before)

-- A relay after a round is one after each earlier round.
pub relay_earlier : {L : Links} {a t b k : ℕ} (t' : ℕ) → t' ≤ t → Relay L a t b k → Relay L a t' b k
relay_earlier t' e (direct {k = k} l h) = direct {k = k} (omega arith) h
relay_earlier t' e (onward before l h) = onward (relay_earlier t' e before) l h

-- Two relays, the second after the arrival of the first, make one.
pub relay_join : {L : Links} {a t b k c m : ℕ} → Relay L a t b k → Relay L b k c m → Relay L a t c m
relay_join first (direct l h) = onward first l h
relay_join first (onward before l h) = onward (relay_join first before) l h

-- A relay stays one under links that have all its hearings.
pub relay_keeps : {L M : Links} {a t b k : ℕ}
    → ((u p j : ℕ) → u ≤ k → L.hears u p j ≡ true → M.hears u p j ≡ true)
    → Relay L a t b k
    → Relay M a t b k
relay_keeps {k = k} more (direct {b = b} l h) = direct l (more k b _ (omega arith) h)
relay_keeps {k = k} more (onward {c = c} {b = b} before l h) =
    onward (relay_keeps (λ u p j e. more u p j (omega arith)) before) l (more k b c (omega arith) h)

-- Where b hears nobody no relay reaches it.
pub relay_heard : {L : Links} {a t b k : ℕ} → Relay L a t b k → (j : ℕ) × (L.hears k b j ≡ true)
relay_heard {a = a} (direct l h) = (a, h)
relay_heard (onward {c = c} before l h) = (c, h)
