use Rattle.std.proofs.Common.{◌+◌, ◌*◌, ◌≤◌}
use Rattle.listing_lines.specs.Lines.{Put, line_length}
use Rattle.listing_lines.specs.Reports.{joined, taking_text}
use Rattle.listing_lines.proofs.rounds.put_takings.Given as goal

abbrev pub invariant-loop-k : goal.invariant-loop-k
invariant-loop-k l =
    (l.end ≤ l.at + line_length * l.k)
    × Put l.initial.out l.out l.at l.end (joined l.k (taking_text l.round l.p l.report.takings_len l.report.takings))
