use Rattle.std.proofs.Common.{◌≡◌, ℕ, ◌+◌, ◌<◌}
use Rattle.station_bytes_spec.specs.Bytes.{byte_at}
use Rattle.station_decoder.proofs.all_zero.Given as goal

abbrev pub invariant-loop-byte : goal.invariant-loop-byte
invariant-loop-byte l = l.joined ≡ 0 → (j : ℕ) → j < l.byte-index → byte_at l.bytes (l.at + j) ≡ 0
