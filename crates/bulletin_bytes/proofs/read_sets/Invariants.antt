use Rattle.std.proofs.Common.{◌+◌, ◌*◌}
use Rattle.station_bytes_spec.proofs.Bytes.{NumbersRead}
use Rattle.bulletin_bytes.specs.Bulletins.{set_at, sets_place}
use Rattle.bulletin_bytes.proofs.read_sets.Given as goal

abbrev pub invariant-loop-p : goal.invariant-loop-p
invariant-loop-p l = NumbersRead 16 (λ j. set_at l.bytes (sets_place + 8 * j)) l.p l.held
