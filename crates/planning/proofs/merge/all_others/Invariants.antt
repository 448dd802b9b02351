use Rattle.std.proofs.Common.{◌≡◌, ◌-◌, ◌^◌, replicate}
use lib.Bits.{bit_xor}
use Rattle.lists.specs.Below.{set_below}
use Rattle.planning.proofs.merge.all_others.Given as goal

abbrev pub invariant-loop-p : goal.invariant-loop-p
invariant-loop-p l = l.table ≡ set_below l.p (λ q. bit_xor (2 ^ l.n - 1) (2 ^ q)) (replicate 16 0)
