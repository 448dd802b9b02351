-- What the calls on a station that lies as bytes share: what is written of an answer, and how long
-- the bytes are.
use mathlib.Core.Path.{◌≡◌}
use mathlib.Core.Bool.{true}
use mathlib.Core.List.{List}
use Prim.Native.Nat.{ℕ}
use lib.Dec.{eqb}
use lib.ListN.{length}
use borrow.Author.Tests.{eqb-true}
use Rattle.lists.proofs.Laws.{and_left}
use Rattle.station_spec.specs.declared.StationAnswer.{StationAnswer}
use Rattle.station_bytes_spec.specs.Station.{station_width, encode_station, is_station_at, is_station}

-- what an answer is refused with, and what is written of it
abbrev pub refusal : StationAnswer → ℕ
refusal x = x.refusal

abbrev pub encoded : StationAnswer → List ℕ
encoded x = encode_station x.station

-- ---- bytes that are a station

pub station_long : (b : List ℕ) → is_station b ≡ true → length b ≡ station_width
unfolding is_station
station_long b h = eqb-true (length b) station_width (and_left (eqb (length b) station_width) (is_station_at b 0) h)
