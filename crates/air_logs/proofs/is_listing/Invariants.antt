-- What is left is a listing exactly if all of it is, and the last line stands at its end.
use Rattle.std.proofs.Common.{◌≡◌, ◌-◌, ◌%◌, length, drop}
use Rattle.std.specs.Slice.Iter.{chunks_exact_rest, chunks_exact_size}
use Rattle.air_logs_spec.specs.Form.{is_listing}
use Rattle.air_logs.proofs.is_listing.Given as goal

abbrev pub invariant-loop-line : goal.invariant-loop-line
invariant-loop-line l =
    let left = chunks_exact_rest l.line-iterator in
    record {
      size : chunks_exact_size l.line-iterator ≡ 35;
      same : is_listing left ≡ is_listing l.bytes;
      last : l.last ≡ drop (length left - length left % 35) left;
    }
