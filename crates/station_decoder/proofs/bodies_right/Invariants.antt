use Rattle.std.proofs.Common.{◌≡◌, true, ◌+◌, ◌*◌}
use Rattle.lists.specs.Below.{all_below}
use Rattle.station_bytes_spec.specs.Body.{body_width, is_body}
use Rattle.station_decoder.proofs.bodies_right.Given as goal

abbrev pub invariant-loop-i : goal.invariant-loop-i
invariant-loop-i l = all_below l.i (λ j. is_body l.bytes (l.at + body_width * j)) ≡ true
