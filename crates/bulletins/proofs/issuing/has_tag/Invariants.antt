use Rattle.std.proofs.Common.{◌≡◌, false, ◌&&◌, ◌==◌, ◌+◌, ◌*◌}
use Rattle.lists.specs.Below.{any_below}
use Rattle.bulletins_spec.specs.State.{stands, tag_at}
use Rattle.bulletins.proofs.issuing.has_tag.Given as goal

abbrev pub invariant-loop-k : goal.invariant-loop-k
invariant-loop-k l = any_below l.k (λ j. stands l.b (4 * l.issuer + j) && tag_at l.b (4 * l.issuer + j) == l.tag) ≡ false
