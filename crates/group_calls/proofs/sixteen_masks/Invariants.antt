use Rattle.std.proofs.Common.{slice_index}
use Rattle.station_bytes_spec.proofs.Bytes.{NumbersRead}
use Rattle.group_calls.proofs.sixteen_masks.Given as goal

abbrev pub invariant-loop-k : goal.invariant-loop-k
invariant-loop-k l = NumbersRead 16 (slice_index l.masks) l.k l.sixteen
