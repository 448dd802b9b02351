use Rattle.std.proofs.Common.{◌*◌, ◌≤◌, slice_index_or}
use Rattle.listing_lines.specs.Lines.{Put}
use Rattle.listing_lines.specs.Reports.{joined, absent, report_room, report_text}
use Rattle.listing_lines.proofs.rounds.put_round.Given as goal

abbrev pub invariant-loop-p : goal.invariant-loop-p
invariant-loop-p l =
    (l.end ≤ report_room * l.p)
    × Put l.initial.out l.out 0 l.end (joined l.p (λ k. report_text l.n l.round k (slice_index_or l.reports k absent)))
