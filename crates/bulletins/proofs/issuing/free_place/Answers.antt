use Rattle.std.proofs.Common.{◌≡◌, sym, ◌∙◌, ◌+◌, ◌-◌, ◌*◌, arith}
use Rattle.bulletins.proofs.Free.{free_none, free_here, free_next}
use Rattle.bulletins.proofs.issuing.free_place.Goals as goal

pub returns-then-not-stands-clause-first : goal.returns-then-not-stands-clause-first
returns-then-not-stands-clause-first c =
    let l = c.loop-s in
    free_here c.args.b.now (4 * c.args.issuer + 4 - l.s) l.s (omega arith) (sym c.stands.ensures ∙ c.if-not-stands.true) ∙ sym l.invariant

pub loop-s-preserved : goal.loop-s-preserved
loop-s-preserved c =
    let i = c.args.issuer in
    let l = c.loop-s in
    l.invariant ∙ free_next c.args.b.now (4 * i + 4 - l.s) l.s (4 * i + 4 - (l.s + 1)) (omega arith) (sym c.stands.ensures ∙ c.if-not-stands.false)

pub returns-clause-first : goal.returns-clause-first
returns-clause-first c =
    let i = c.args.issuer in
    let l = c.loop-s in
    let e : 4 * i + 4 ≡ l.s = omega arith in
    e ∙ free_none c.args.b.now (4 * i + 4 - l.s) l.s (omega arith) ∙ sym l.invariant
