-- Hearings by round, and relays (document 01, A group and its rounds).
use Rattle.std.specs.Prelude.{Bool, true, List, ◌≡◌, ℕ, ◌<◌}
use Rattle.links.specs.Log.{hears_in, masks_in}
use Rattle.links.specs.Inner.Inside.{hears_in_inside}

-- All that is known of the links: how many stations there are, and for each round, from 1 on, who
-- hears whom. A station hears only others, and only stations below the size hear and are heard. The
-- bound 16 on N plays no part, and a size of 0 is a group of nobody.
pub record Links : Type 0 where
  pub size : ℕ
  pub hears : ℕ → ℕ → ℕ → Bool
  pub inside : (u p j : ℕ) → hears u p j ≡ true → (p < size) × (j < size) × (p ≡ j → ⊥)

-- The links of n stations whose masks are given for each round.
abbrev pub of_masks : ℕ → (ℕ → List ℕ) → Links
of_masks n masks =
    record {
      size = n;
      hears = λ u p j. hears_in n (masks u) p j;
      inside = λ u p j h. hears_in_inside n (masks u) p j h;
    }

-- The links that a log is about.
abbrev pub of_log : ℕ → List (List ℕ) → Links
of_log n log = of_masks n (masks_in log)

-- The term "relay", from a, after round t: to b, arriving in round k. It is one hearing of a by b
-- in round k, later than t; or a relay to some c that has arrived in an earlier round i, and a
-- hearing of c by b in round k.
pub data Relay (L : Links) (a t : ℕ) : ℕ → ℕ → Type 0 where
  direct : {b k : ℕ} → t < k → L.hears k b a ≡ true → Relay L a t b k
  onward : {c b i k : ℕ} → Relay L a t c i → i < k → L.hears k b c ≡ true → Relay L a t b k
