-- `listing_lines::Line::put` puts the head and the body one behind the other.
use Rattle.std.proofs.Common.{arith, ◌+◌}
use Rattle.listing_lines.specs.Lines.{body_bytes, line_bytes}
use Rattle.listing_lines.proofs.Placed.{placed_then}
use Rattle.listing_lines.proofs.Columns.{length_head, length_line}
use Rattle.listing_lines.proofs.Line.put.Goals as goal

pub returns : goal.returns
unfolding line_bytes
returns c =
    let l = c.args.self in
    let at = c.args.at in
    record {
      holds =
          placed_then _ _ _ at (at + 14) _ (body_bytes l.body) (omega (arith, c.requires))
          (omega (arith, length_head l.round l.letter l.station l.source)) c.put_head.ensures c.put_body.ensures;
      behind = omega (arith, length_line l.round l.letter l.station l.source l.body);
    }
