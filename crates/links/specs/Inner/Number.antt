-- Broadcast numbers, as the clocks decide them. A means of proof; no statement about the group
-- names them.
use Rattle.std.specs.Prelude.{Bool, false, if◌then◌else◌, ◌||◌, ℕ, zero, suc, ◌-◌, ◌==◌, nat_le}
use Rattle.lists.specs.Below.{all_below}
use Rattle.lists.specs.Inner.Total.{total}
use Rattle.links.specs.Relay.{Links}
use Rattle.links.specs.Inner.Clock.{news}

-- Is the version v of r, 0 for none and w + 1 for r as round w left it, one in which r has news of
-- s from after round t?
unfoldable pub answers : Links → ℕ → ℕ → ℕ → ℕ → Bool
answers L s t r zero = false
answers L s t r (suc w) = nat_le (suc t) (news L w r s)

-- After round u s has an answer of each other station to what it started in round t.
unfoldable pub full : Links → ℕ → ℕ → ℕ → Bool
full L u s t = all_below L.size (λ r. r == s || answers L s t r (news L u s r))

-- The round in which the broadcast that s has after round u started.
unfoldable pub start : Links → ℕ → ℕ → ℕ
start L zero s = 0
start L (suc u) s = if full L (suc u) s (start L u s) then suc u else start L u s

-- In round u s ends a broadcast and starts the next.
unfoldable pub ends : Links → ℕ → ℕ → Bool
ends L zero s = false
ends L (suc u) s = full L (suc u) s (start L u s)

-- The number of the broadcast that s has after round u; its first is number 1.
unfoldable pub num : Links → ℕ → ℕ → ℕ
num L zero s = 1
num L (suc u) s = if ends L (suc u) s then suc (num L u s) else num L u s

-- The number that version v of s shows: 0 for none.
unfoldable pub num_of : Links → ℕ → ℕ → ℕ
num_of L s zero = 0
num_of L s (suc w) = num L w s

-- The number of the last broadcast of s that r has after round u; 0 for none.
unfoldable pub got : Links → ℕ → ℕ → ℕ → ℕ
got L u r s = num_of L s (news L u r s)

-- What version v of q had of s: 0 for none.
unfoldable pub got_of : Links → ℕ → ℕ → ℕ → ℕ
got_of L q s zero = 0
got_of L q s (suc w) = got L w q s

-- What r added since: nothing where it is p.
unfoldable pub added : ℕ → (ℕ → ℕ) → (ℕ → ℕ) → ℕ → ℕ
added p now before r = if r == p then 0 else now r - before r

-- How much has been added since, at the first n stations but p.
unfoldable pub tally : ℕ → ℕ → (ℕ → ℕ) → (ℕ → ℕ) → ℕ
tally n p now before = total n (added p now before)

-- How many broadcasts of other stations came to p within the present broadcast of p, up to round u:
-- what document 01 has p keep as its count.
unfoldable pub counted : Links → ℕ → ℕ → ℕ
counted L u p = tally L.size p (λ r. got L u p r) (λ r. got L (start L u p) p r)
