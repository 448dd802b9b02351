-- `listing_lines::put_natural` lends the part to the writer of columns.
use mathlib.Core.Path.{ap, ◌∙◌}
use Prim.Native.Nat.{ℕ, ◌-◌}
use Rattle.columns.specs.Writing.{nat_columns}
use Rattle.listing_lines.proofs.Placed.{part_length, placed_part}
use Rattle.listing_lines.proofs.put_natural.Goals as goal

pub returns : goal.returns
returns c =
    let a = c.args in
    let size = part_length a.out.now a.at a.end c.requires.room in
    placed_part a.out.now a.at (a.end - a.at) c.write_columns.new.part _ (c.write_columns.auto.part ∙ size)
    (c.write_columns.ensures ∙ ap (λ (w : ℕ). nat_columns w a.value) size)
