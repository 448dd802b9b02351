-- Links to try the definitions on.
use Rattle.std.specs.Prelude.{List, [], ◌∷◌, ℕ}
use Rattle.links.specs.Relay.{Links, of_masks, of_log}

-- Five stations, each hearing all others in every round.
abbrev pub all_five : List ℕ
all_five = 31 ∷ 31 ∷ 31 ∷ 31 ∷ 31 ∷ []

abbrev pub mesh : Links
mesh = of_masks 5 (λ u. all_five)

-- Three stations: 1 hears 0 in round 1, and 2 hears 1 in round 2.
abbrev pub two_rounds : Links
two_rounds = of_log 3 ((0 ∷ 1 ∷ 0 ∷ []) ∷ (0 ∷ 0 ∷ 2 ∷ []) ∷ [])

-- The same two hearings in one round.
abbrev pub one_round : Links
one_round = of_log 3 ((0 ∷ 1 ∷ 2 ∷ []) ∷ [])

-- Two stations: in every round 1 hears 0, and 0 hears nobody.
abbrev pub one_way : Links
one_way = of_masks 2 (λ u. 0 ∷ 1 ∷ [])

-- The three rounds of document 01's listing: two stations that hear each other, the masks as a
-- script has them, and as a round call is given them.
abbrev pub listing : Links
listing = of_log 2 ((2 ∷ 1 ∷ []) ∷ (2 ∷ 1 ∷ []) ∷ (2 ∷ 1 ∷ []) ∷ [])

abbrev pub listing_sixteen : List ℕ
listing_sixteen = 2 ∷ 1 ∷ 9 ∷ 9 ∷ 9 ∷ 9 ∷ 9 ∷ 9 ∷ 9 ∷ 9 ∷ 9 ∷ 9 ∷ 9 ∷ 9 ∷ 9 ∷ 9 ∷ []
