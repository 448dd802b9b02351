use Rattle.std.proofs.Common.{◌+◌, ◌*◌, ◌≤◌}
use Rattle.listing_lines.specs.Lines.{Put, line_length}
use Rattle.listing_lines.specs.Reports.{joined, edit_text}
use Rattle.listing_lines.proofs.rounds.put_aired.Given as goal

abbrev pub invariant-loop-k : goal.invariant-loop-k
invariant-loop-k l =
    (l.end ≤ l.at + line_length * l.k)
    × Put l.initial.out l.out l.at l.end (joined l.k (edit_text l.round l.p l.turn.aired l.turn.row))
