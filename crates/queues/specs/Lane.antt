-- Document 01, "A station and its calls": a lane, at most two bodies, oldest first. What stands
-- past its length is no part of it.
use Rattle.std.specs.Prelude.{List, [], ◌∷◌, ◌++◌, take, drop}
use Rattle.bodies.specs.declared.Body.{Body}
use Rattle.bodies.specs.declared.Body.TheVariants.{Empty}
use Rattle.queues.specs.declared.Lane.{Lane}

-- the bodies of a lane
unfoldable pub bodies : Lane → List Body
bodies l = take l.len (l.first ∷ l.second ∷ [])

-- the lane with the first two of these bodies; unused places are Empty
unfoldable pub lane_of : List Body → Lane
lane_of [] = record { len = 0; first = Empty; second = Empty }
lane_of (a ∷ []) = record { len = 1; first = a; second = Empty }
lane_of (a ∷ b ∷ rest) = record { len = 2; first = a; second = b }

-- a body put last
abbrev pub pushed : Lane → Body → Lane
pushed l b = lane_of (bodies l ++ (b ∷ []))

-- the oldest removed
abbrev pub popped : Lane → Lane
popped l = lane_of (drop 1 (bodies l))

abbrev pub no_lane : Lane
no_lane = record { len = 0; first = Empty; second = Empty }
