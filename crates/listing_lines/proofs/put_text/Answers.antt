-- `listing_lines::put_text` copies the text into its part of the buffer.
use Rattle.std.proofs.Common.{refl, arith, length, ◌+◌, ◌-◌}
use Rattle.listing_lines.proofs.Placed.{placed_part}
use Rattle.listing_lines.proofs.put_text.Goals as goal

pub returns : goal.returns
returns c =
    let a = c.args in
    let text = a.text.now in
    record {
      holds = placed_part a.out.now a.at (a.at + length text - a.at) c.copy_from_slice.new.self text
          (rw c.copy_from_slice.ensures.after (omega arith)) c.copy_from_slice.ensures.after;
      behind = refl;
    }
