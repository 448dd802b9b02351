use Rattle.std.proofs.Common.{◌≡◌, eqb}
use Rattle.lists.specs.Below.{set_below}
use Rattle.turns.proofs.parts.keep_own.Given as goal

abbrev pub invariant-loop-k : goal.invariant-loop-k
invariant-loop-k l = l.acked ≡ set_below l.k (λ k. eqb k l.own) l.initial.acked
