-- What a station knows of a broadcast: sets without a history. A means of proof and of code; no
-- statement about ends names them.
use Rattle.std.specs.Prelude.{Bool, if◌then◌else◌, ◌&&◌, ◌||◌, ℕ, zero, suc, ◌==◌}
use Rattle.links.specs.Relay.{Links}
use Rattle.links.specs.Inner.Clock.{news}
use Rattle.links.specs.Inner.Number.{answers, start}

-- After round u p knows that r has the present broadcast of s. Of s itself that means that p has
-- it.
unfoldable pub knows : Links → ℕ → ℕ → ℕ → ℕ → Bool
knows L u s p r = answers L s (start L u s) r (news L u p r)

-- x, or f j for some j below n that is heard.
unfoldable pub either : ℕ → (ℕ → Bool) → (ℕ → Bool) → Bool → Bool
either zero heard f x = x
either (suc n) heard f x = if heard n then either n heard f x || f n else either n heard f x

-- What p knows of r in round u + 1 by those that it hears, as they were before the round.
unfoldable pub brought : Links → ℕ → ℕ → ℕ → ℕ → Bool
brought L u s p r = either L.size (λ j. L.hears (suc u) p j) (λ j. knows L u s j r) (knows L u s p r)

-- The same with p itself, where p now has the broadcast.
unfoldable pub learnt : Links → ℕ → ℕ → ℕ → ℕ → Bool
learnt L u s p r = brought L u s p r || (p == r && brought L u s p s)

-- What is known when a broadcast of s begins: s has it.
unfoldable pub newly : ℕ → ℕ → ℕ → Bool
newly s p r = p == s && r == s
