-- `listing_lines::rounds::put_report` puts the takings, the row and the turn one behind the other.
use Rattle.std.proofs.Common.{arith}
use Rattle.listing_lines.specs.Reports.{report_text}
use Rattle.listing_lines.proofs.Placed.{put_more}
use Rattle.listing_lines.proofs.rounds.put_report.Goals as goal

pub returns-clause-text : goal.returns-clause-text
unfolding report_text
returns-clause-text c =
    put_more _ _ _ c.args.at _ _ _ _ (omega arith)
    (put_more _ _ _ c.args.at _ _ _ _ (omega arith) c.put_takings-taken.ensures.text c.put_aired-aired.ensures.text)
    c.put_turn.ensures.text
