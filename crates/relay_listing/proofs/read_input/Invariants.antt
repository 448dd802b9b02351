use Rattle.std.proofs.Common.{◌≤◌, length}
use Rattle.listing_lines.specs.Reports.{round_room}
use Rattle.listing_spec.specs.Remaining.{kept_bytes}
use Rattle.relay_listing.specs.Passing.{Reads}
use Rattle.relay_listing.proofs.read_input.Given as goal

abbrev pub invariant-loop : goal.invariant-loop
invariant-loop g l =
    (l.reader.len ≤ kept_bytes) × (round_room ≤ length l.out)
    × Reads l.reader (g.I.Read.remaining l.initial.input) (g.I.Read.remaining l.input) (g.W.Write.contents l.initial.to) (g.W.Write.contents l.to)
