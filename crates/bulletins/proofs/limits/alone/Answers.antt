use Rattle.std.proofs.Common.{◌≡◌, sym, ◌∙◌, ◌+◌, ◌*◌, arith}
use Rattle.lists.proofs.Laws.{all_below_fails}
use Rattle.bulletins_spec.specs.State.{other_tag, issuer_of}
use Rattle.bulletins.proofs.limits.alone.Goals as goal

pub returns-then-not-other_tag : goal.returns-then-not-other_tag
returns-then-not-other_tag c =
    let a = c.args in
    sym
    (all_below_fails 4 (λ j. other_tag a.b.now a.s (4 * issuer_of a.s + j)) c.loop-k.k (omega arith)
    (sym c.other_tag.ensures ∙ c.if-not-other_tag.true))

pub returns : goal.returns
returns c =
    let e : c.loop-k.k ≡ 4 = omega arith in
    sym (rw e at c.loop-k.invariant)
