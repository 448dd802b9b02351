-- What the calls on a group that lies as bytes share: what is written of an answer, and how long
-- the bytes are.
use mathlib.Core.Path.{◌≡◌}
use mathlib.Core.Bool.{true}
use mathlib.Core.List.{List}
use Prim.Native.Nat.{ℕ, ◌*◌}
use lib.Dec.{eqb}
use lib.ListN.{length}
use borrow.Author.Tests.{eqb-true}
use Rattle.lists.specs.Below.{all_below}
use Rattle.lists.proofs.Laws.{and_left}
use Rattle.group_spec.specs.declared.GroupAnswer.{GroupAnswer}
use Rattle.station_bytes_spec.specs.Station.{station_width, is_station_at}
use Rattle.station_bytes_spec.specs.Group.{group_width, encode_group, is_group}

-- what an answer is refused with, and what is written of it
abbrev pub refusal : GroupAnswer → ℕ
refusal x = x.refusal

abbrev pub encoded : GroupAnswer → List ℕ
encoded x = encode_group x.group

-- ---- bytes that are a group

pub group_long : (b : List ℕ) → is_group b ≡ true → length b ≡ group_width
unfolding is_group
group_long b h = eqb-true (length b) group_width (and_left (eqb (length b) group_width) (all_below 16 (λ k. is_station_at b (station_width * k))) h)
