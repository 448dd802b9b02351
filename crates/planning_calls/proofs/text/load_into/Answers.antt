-- `load_into` judges its numbers and the two places, and then is the generator's call.
use mathlib.Core.Path.{sym, ap, ◌∙◌}
use mathlib.Core.Bool.{not}
use native.Mathlib.Omega.{arith}
use lib.Dec.{eqb}
use Rattle.load_spec.specs.declared.Generated.{Generated}
use Rattle.load_spec.proofs.Host.{host_outside, host_short, length_small, host_refused, host_done}
use Rattle.planning_calls.proofs.text.load_into.Goals as goal

pub returns-then-not-numbers_fit : goal.returns-then-not-numbers_fit
returns-then-not-numbers_fit c =
    let a = c.args in
    let out = sym c.numbers_fit.ensures ∙ c.if-not-numbers_fit.true in
    let left = host_outside a.state a.n a.due (not (eqb a.head 0)) a.buffer.now a.next.now out in
    record { returned = c.number.ensures ∙ left.refusal; buffer = left.buffered; next = left.placed }

pub returns-then-next-lt2 : goal.returns-then-next-lt2
returns-then-next-lt2 c =
    let a = c.args in
    let fit = sym c.numbers_fit.ensures ∙ c.if-not-numbers_fit.false in
    let left = host_short a.state a.n a.due (not (eqb a.head 0)) a.buffer.now a.next.now fit (omega (arith, c.if-next-lt2.true)) in
    record { returned = c.number-then-next-lt2.ensures ∙ left.refusal; buffer = left.buffered; next = left.placed }

pub returns-then-made-ne-DONE : goal.returns-then-made-ne-DONE
returns-then-made-ne-DONE c =
    let numbers_fit = c.numbers_fit in
    let first_if = c.if-not-numbers_fit in
    let a = c.args in
    let fit = sym numbers_fit.ensures ∙ first_if.false in
    let made = c.generate-made in
    let left = host_refused a.state a.n a.due (not (eqb a.head 0)) a.buffer.now a.next.now fit (omega (arith, c.if-next-lt2.false)) made.result _
    made.ensures.0 made.ensures.1 c.if-made-ne-DONE.true in
    record { returned = left.refusal; buffer = left.buffered; next = left.placed }

pub overflow_cast-next : goal.overflow_cast-next
overflow_cast-next c =
    let numbers_fit = c.numbers_fit in
    let first_if = c.if-not-numbers_fit in
    let a = c.args in
    let fit = sym numbers_fit.ensures ∙ first_if.false in
    let len = ap (λ (g : Generated). g.len) c.generate-made.ensures.0 in
    omega (arith, len, length_small a.state a.n a.due (not (eqb a.head 0)) a.buffer.now a.next.now fit)

pub returns : goal.returns
returns c =
    let numbers_fit = c.numbers_fit in
    let first_if = c.if-not-numbers_fit in
    let second_if = c.if-next-lt2 in
    let a = c.args in
    let fit = sym numbers_fit.ensures ∙ first_if.false in
    let made = c.generate-made in
    let left = host_done a.state a.n a.due (not (eqb a.head 0)) a.buffer.now a.next.now fit (omega (arith, second_if.false)) made.result _
    made.ensures.0 made.ensures.1 c.if-made-ne-DONE.false in
    record { returned = left.refusal; buffer = left.buffered; next = left.placed }
