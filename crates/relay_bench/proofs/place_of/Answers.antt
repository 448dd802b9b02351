-- `relay_bench::place_of` meets its contract.
use native.Mathlib.Nat.{mod-lt}
use Rattle.relay_bench.proofs.place_of.Goals as goal

pub returns : goal.returns
returns c = mod-lt _ c.requires
