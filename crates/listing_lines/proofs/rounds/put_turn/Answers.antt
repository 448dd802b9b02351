-- `listing_lines::rounds::put_turn` puts the ended body's line and the started body's behind it.
use Rattle.std.proofs.Common.{arith}
use Rattle.listing_lines.specs.Reports.{turn_text}
use Rattle.listing_lines.proofs.Placed.{put_more}
use Rattle.listing_lines.proofs.rounds.put_turn.Goals as goal

pub returns-clause-text : goal.returns-clause-text
unfolding turn_text
returns-clause-text c =
    put_more _ _ _ c.args.at _ _ _ _ (omega (arith, c.requires)) c.put_if-end.ensures.text
    (rw c.is_empty.ensures at c.put_if.ensures.text)
