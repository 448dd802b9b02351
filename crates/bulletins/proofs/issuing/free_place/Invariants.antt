use Rattle.std.proofs.Common.{◌≡◌, ◌+◌, ◌-◌, ◌*◌}
use Rattle.bulletins_spec.specs.Calls.{free_place, free_from}
use Rattle.bulletins.proofs.issuing.free_place.Given as goal

abbrev pub invariant-loop-s : goal.invariant-loop-s
invariant-loop-s l = free_place l.b l.issuer ≡ free_from l.b (4 * l.issuer + 4 - l.s) l.s
