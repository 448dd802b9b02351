use Rattle.std.proofs.Common.{◌+◌, ◌*◌}
use Rattle.frame_spec.specs.Words.{word_at}
use Rattle.station_bytes_spec.proofs.Bytes.{NumbersRead}
use Rattle.bulletin_bytes.proofs.read_words.Given as goal

abbrev pub invariant-loop-s : goal.invariant-loop-s
invariant-loop-s l = NumbersRead 64 (λ j. word_at l.bytes (l.at + 4 * j)) l.s l.words
