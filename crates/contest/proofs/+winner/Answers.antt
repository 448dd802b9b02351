-- The recursion falls with the rounds left. Its loop keeps: no pick below i settles the result for
-- the side that picks; `Deciding` turns that into the definition, at a pick that does and after the
-- last.
use Rattle.std.proofs.Common.{rules, ◌≡◌, ℕ, ◌-◌, not, List, sym, ap, ◌∙◌, arith}
use Rattle.contest.specs.Inner.KnownSets.{is_keeper, wins_from}
use Rattle.contest.proofs.Deciding.{wins_over, wins_none, wins_hit, wins_not}
use Rattle.contest.proofs.+winner.Goals as goal

pub returns-then-is_full : goal.returns-then-is_full
returns-then-is_full t c =
    let a = c.args in
    sym (wins_over a.n a.s a.count a.masks.now a.left (is_keeper a.picker) a.know (sym c.is_full.ensures ∙ c.if-is_full.true))

pub returns-then-left-eq0 : goal.returns-then-left-eq0
returns-then-left-eq0 t c =
    let a = c.args in
    sym (wins_none a.n a.s a.count a.masks.now a.left (is_keeper a.picker) a.know c.if-left-eq0.true ∙ sym c.is_full.ensures ∙ c.if-is_full.false)

pub returns-then-eq : goal.returns-then-eq
returns-then-eq t c =
    let a = c.args in
    let won : c.winner.result ≡ a.picker = search rules in
    sym (wins_hit a.n a.s a.count a.masks.now a.left (is_keeper a.picker) a.know c.loop-i.i c.if-left-eq0.false
    (sym c.is_full.ensures ∙ c.if-is_full.false) c.loop-i-test.true
    (ap (λ (k : List ℕ). wins_from a.n a.s a.count a.masks.now (a.left - 1) (not (is_keeper a.picker)) k) (sym c.learn-next.ensures)
    ∙ ap (λ b. wins_from a.n a.s a.count a.masks.now (a.left - 1) b c.learn-next.result) (sym c.other.ensures)
    ∙ sym c.winner.ensures
    ∙ ap is_keeper won))

pub returns : goal.returns
returns t c =
    let a = c.args in
    c.other-2.ensures
    ∙ sym (wins_not a.n a.s a.count a.masks.now a.left (is_keeper a.picker) a.know c.if-left-eq0.false (sym c.is_full.ensures ∙ c.if-is_full.false)
    (λ k l h. c.loop-i.invariant k (omega arith) h))
