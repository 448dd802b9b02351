-- The link log: who hears whom, round after round (document 01, A group and its rounds). A log is a
-- list of rounds, the first round first; a round is a list of masks, one a station from station 0
-- on. A round's list may be longer or shorter than N: masks from N up are ignored, and a mask that
-- is not there hears nobody. So the sixteen masks that a round call is given, and the N masks of a
-- script's line, are both rounds as they stand; `cut` makes a log of one long list of masks, N to a
-- round.
use Rattle.std.specs.Prelude.{Bool, ◌&&◌, not, List, [], ◌∷◌, ℕ, zero, suc, ◌/◌, ◌%◌, ◌^◌}
use Rattle.std.specs.Prelude.{◌==◌, nat_lt, slice_index, slice_index_or, take, drop}

-- Bit j of a mask.
unfoldable pub bit : ℕ → ℕ → Bool
bit mask j = (mask / (2 ^ j)) % 2 == 1

-- Station i of a group of n hears j in a round with these masks: its mask has bit j. Its own bit
-- says nothing, nor does a bit or a mask from n up.
unfoldable pub hears_in : ℕ → List ℕ → ℕ → ℕ → Bool
hears_in n masks i j = nat_lt i n && (nat_lt j n && (not (i == j) && bit (slice_index masks i) j))

-- The masks of round u, rounds being numbered from 1. There is no round 0, and past its end a log
-- is silent.
unfoldable pub masks_in : List (List ℕ) → ℕ → List ℕ
masks_in log zero = []
masks_in log (suc u) = slice_index_or log u []

-- The log of so many rounds whose masks stand in one list, n masks a round.
unfoldable pub cut : ℕ → ℕ → List ℕ → List (List ℕ)
cut n zero masks = []
cut n (suc rounds) masks = take n masks ∷ cut n rounds (drop n masks)
