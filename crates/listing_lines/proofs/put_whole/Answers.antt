-- `listing_lines::put_whole` lends the part to the writer of columns.
use lib.IntN.{ℤ}
use mir.Syntax.{w32}
use mir.ValLaws.{to_z-of_z}
use mathlib.Core.Path.{ap, ◌∙◌}
use Prim.Native.Nat.{ℕ, ◌-◌}
use lib.ListN.{length, take, drop}
use Rattle.columns.specs.Writing.{int_columns}
use Rattle.listing_lines.proofs.Placed.{part_length, placed_part}
use Rattle.listing_lines.proofs.put_whole.Goals as goal

pub returns : goal.returns
returns c =
    let a = c.args in
    let size = part_length a.out.now a.at a.end c.requires.room in
    placed_part a.out.now a.at (a.end - a.at) c.write_whole.new.part _ (c.write_whole.auto.part ∙ size)
    (c.write_whole.ensures
    ∙ ap (λ (z : ℤ). int_columns (length (take (a.end - a.at) (drop a.at a.out.now))) z) (to_z-of_z w32 a.value c.ranges.value)
    ∙ ap (λ (w : ℕ). int_columns w a.value) size)
