-- `listing_lines::Line::put_head` puts five texts one behind the other.
use Rattle.std.proofs.Common.{arith, length, ◌+◌, ◌<◌}
use lib.ListN.{length-set}
use Rattle.listing_lines.proofs.Placed.{placed_byte}
use Rattle.listing_lines.proofs.Columns.{head_made}
use Rattle.listing_lines.proofs.Line.put_head.Goals as goal

pub returns : goal.returns
returns c =
    let first = c.put_natural in
    let at = c.args.at in
    let one : at + 6 < length first.new.out = omega (arith, c.requires, first.auto.out) in
    let two : at + 7 < length first.new.out = omega (arith, c.requires, first.auto.out) in
    head_made _ _ _ _ _ _ at _ _ _ _ (omega (arith, c.requires)) first.ensures (placed_byte _ _ _ one) (placed_byte _ _ _ (simp length-set two))
    c.put_natural-2.ensures c.put_natural-3.ensures
