-- The lists of demand 3 by time: what a station started, took and aired by the end of round u of a
-- run, each round adding at the end.
use mathlib.Core.Bool.{cond}
use mathlib.Core.List.{List, [], ◌++◌}
use Prim.Native.Nat.{ℕ, zero, suc}
use lib.Dec.{eqb}
use lib.ListN.{length}
use Rattle.bodies.specs.declared.Body.{Body}
use Rattle.station_spec.specs.declared.Taking.{Taking}
use Rattle.station_spec.specs.declared.TurnReport.{TurnReport}
use Rattle.station_spec.specs.Turn.{turn_report}
use Rattle.group_spec.specs.History.{takings_of, unless_empty, edits_of}
use Rattle.group_spec.proofs.Run.{Run, hearing_in}

-- what the turn of station p reports in round u + 1
abbrev pub turn_in : Run → ℕ → ℕ → TurnReport
turn_in R u p = turn_report (hearing_in R u p).station

-- the bodies that s started, Empty left out
unfoldable pub started_by : Run → ℕ → ℕ → List Body
started_by R zero s = []
started_by R (suc u) s = started_by R u s ++ unless_empty (turn_in R u s).started_body

-- what p heard of s and took
unfoldable pub heard_by : Run → ℕ → ℕ → ℕ → List Body
heard_by R zero p s = []
heard_by R (suc u) p s = heard_by R u p s ++ takings_of s (hearing_in R u p).takings

-- what p took of s; of itself, what it started
unfoldable pub taken_by : Run → ℕ → ℕ → ℕ → List Body
taken_by R u p s = cond (eqb p s) (started_by R u s) (heard_by R u p s)

-- the edits that p aired, each with its source
unfoldable pub aired_by : Run → ℕ → ℕ → List Taking
aired_by R zero p = []
aired_by R (suc u) p = aired_by R u p ++ cond (turn_in R u p).aired (edits_of R.n (turn_in R u p).row) []

-- how many rows p aired
unfoldable pub rows_by : Run → ℕ → ℕ → ℕ
rows_by R zero p = 0
rows_by R (suc u) p = cond (turn_in R u p).aired (suc (rows_by R u p)) (rows_by R u p)

-- how many bodies s started
abbrev pub made_by : Run → ℕ → ℕ → ℕ
made_by R u s = length (started_by R u s)

-- what s had started as a version of it shows
unfoldable pub started_at : Run → ℕ → ℕ → List Body
started_at R s zero = []
started_at R s (suc w) = started_by R w s
