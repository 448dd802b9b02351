-- By which round a station has received a broadcast, as an answer gives it: the round, or never.
use Rattle.std.specs.Prelude.{Option, ℕ}

abbrev pub Arrival : Type 0
Arrival = Option ℕ
