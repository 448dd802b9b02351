use Rattle.std.proofs.Common.{◌≡◌, true, ◌+◌, ◌*◌}
use Rattle.lists.specs.Below.{all_below}
use Rattle.bulletins_spec.specs.State.{other_tag, issuer_of}
use Rattle.bulletins.proofs.limits.alone.Given as goal

abbrev pub invariant-loop-k : goal.invariant-loop-k
invariant-loop-k l = all_below l.k (λ j. other_tag l.b l.s (4 * issuer_of l.s + j)) ≡ true
