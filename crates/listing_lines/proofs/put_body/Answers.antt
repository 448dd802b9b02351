-- `listing_lines::put_body` puts three numbers and the line end one behind the other.
use Rattle.std.proofs.Common.{arith, length, ◌+◌, ◌<◌, ◌∙◌}
use mir.Syntax.{w32}
use mir.ValLaws.{to_z-of_z}
use Rattle.listing_lines.proofs.Placed.{placed_byte}
use Rattle.listing_lines.proofs.Columns.{body_made}
use Rattle.listing_lines.proofs.put_body.Goals as goal

pub returns : goal.returns
returns c =
    let same = to_z-of_z w32 c.argument.result (record { sfits = c.argument.type_inv }) in
    let room : c.args.at + 20 < length c.put_whole.new.out =
    omega (arith, c.requires, c.put_whole.auto.out, c.put_natural-2.auto.out, c.put_natural.auto.out) in
    body_made _ _ _ _ _ c.args.at c.args.body _ _ _ (omega (arith, c.requires)) c.kind.ensures c.event.ensures
    (same ∙ c.argument.ensures) c.put_natural.ensures c.put_natural-2.ensures c.put_whole.ensures (placed_byte _ _ _ room)
