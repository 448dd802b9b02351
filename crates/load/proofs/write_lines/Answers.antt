-- `load::write_lines` judges its numbers, and then does what is asked for: the `N` line, nothing,
-- or a round.
use Rattle.std.proofs.Common.{◌≡◌, sym, refl, ◌∙◌, arith}
use Rattle.listing_lines.proofs.Placed.{placed_none}
use Rattle.load_spec.proofs.Answers.{outside, inside, written, fit_size}
use Rattle.load_spec.proofs.WholeScript.{size_text, size_state, no_text, no_state, round_text, round_state}
use Rattle.load.proofs.write_lines.Goals as goal

pub returns-then-not-numbers_fit : goal.returns-then-not-numbers_fit
returns-then-not-numbers_fit c =
    let a = c.args in
    let unfit = sym c.numbers_fit.ensures ∙ c.if-not-numbers_fit.true in
    let out = outside a.state a.n a.due a.head a.out.now unfit in
    record { answer = sym out.0; buffer = sym out.1 }

pub returns-then-head : goal.returns-then-head
returns-then-head c =
    let a = c.args in
    let fit = sym c.numbers_fit.ensures ∙ c.if-not-numbers_fit.false in
    rw c.if-head.true
    (let all =
    inside a.state a.n a.due _ _ _ a.out.now _ _ fit (size_text a.state a.n a.due) (size_state a.state a.n a.due)
    c.write_size.ensures in
    record { answer = all.0; buffer = all.1 })

pub returns-then-due-eq0 : goal.returns-then-due-eq0
returns-then-due-eq0 c =
    let a = c.args in
    let fit = sym c.numbers_fit.ensures ∙ c.if-not-numbers_fit.false in
    let none : a.due ≡ 0 = c.if-due-eq0.true in
    rw (c.if-head.false, none)
    (let all =
    inside a.state a.n 0 _ _ _ a.out.now _ _ (rw none at fit) (no_text a.state a.n) (no_state a.state a.n)
    (written _ a.state a.state a.out.now _ 0 a.state (omega arith) refl refl (placed_none a.out.now 0)) in
    record { answer = all.0; buffer = all.1 })

pub write_round-requires : goal.write_round-requires
write_round-requires c = fit_size c.args.n c.args.due (sym c.numbers_fit.ensures ∙ c.if-not-numbers_fit.false)

pub returns : goal.returns
returns c =
    let a = c.args in
    let fit = sym c.numbers_fit.ensures ∙ c.if-not-numbers_fit.false in
    let some : a.due ≡ 0 → ⊥ = c.if-due-eq0.false in
    rw c.if-head.false
    (let all =
    inside a.state a.n a.due _ _ _ a.out.now _ _ fit (round_text a.state a.n a.due some) (round_state a.state a.n a.due some)
    c.write_round.ensures in
    record { answer = all.0; buffer = all.1 })
