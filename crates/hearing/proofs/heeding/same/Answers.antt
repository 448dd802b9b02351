-- `hearing::heeding::same` meets its contract: equal numbers have equal bytes, and the reverse.
use Rattle.std.proofs.Common.{◌∙◌, sym}
use Rattle.hearing.proofs.SameBytes.{same_then, same_else}
use Rattle.hearing.proofs.heeding.same.Goals as goal

pub returns-then-long_at : goal.returns-then-long_at
returns-then-long_at c =
    let a = c.args in
    rw (c.long_at-then-long_at.ensures, c.long_at-then-long_at-2.ensures)
    (same_then a.a.now a.b.now (λ i. (c.type_inv.a i).fits) (λ i. (c.type_inv.b i).fits) c.requires.first c.requires.second
    (sym c.long_at.ensures ∙ c.if-long_at.true ∙ c.long_at-2.ensures))

pub returns-else-long_at : goal.returns-else-long_at
returns-else-long_at c =
    let a = c.args in
    rw (c.long_at.ensures, c.long_at-2.ensures)
    (same_else a.a.now a.b.now (λ i. (c.type_inv.a i).fits) (λ i. (c.type_inv.b i).fits) c.requires.first c.requires.second
    (λ z. c.if-long_at.false (c.long_at.ensures ∙ z ∙ sym c.long_at-2.ensures)))
