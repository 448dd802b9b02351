-- Clocks: how old the latest news of one station is at another. A means of proof; no statement
-- about the group names them.
use Rattle.std.specs.Prelude.{Bool, if◌then◌else◌, ℕ, zero, suc, max, ◌==◌}
use Rattle.links.specs.Relay.{Links}

-- The largest of x and of f j for each j below n that is heard.
unfoldable pub latest : ℕ → (ℕ → Bool) → (ℕ → ℕ) → ℕ → ℕ
latest zero heard f x = x
latest (suc n) heard f x = if heard n then max (latest n heard f x) (f n) else latest n heard f x

-- What p knows of q after round u: 0 where it has no news of q, t + 1 where its latest news is q as
-- round t left it. Round 0 is the fresh group.
unfoldable pub news : Links → ℕ → ℕ → ℕ → ℕ
news L zero p q = if p == q then 1 else 0
news L (suc u) p q =
    if p == q then suc (suc u) else latest L.size (λ j. L.hears (suc u) p j) (λ j. news L u j q) (news L u p q)

-- What p knows of q in the middle of round u + 1, when it has heard the senders below k among those
-- that it hears.
unfoldable pub hearing : Links → ℕ → ℕ → ℕ → ℕ → ℕ
hearing L u p q k = latest k (λ j. L.hears (suc u) p j) (λ j. news L u j q) (news L u p q)
