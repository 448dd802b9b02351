-- Each return cites its law of `Answers`. A contest that gets past its refusal is inside its
-- limits, which the first pick asks for.
use Rattle.std.proofs.Common.{◌<◌, sym, length, arith}
use Rattle.contest.proofs.Meaning.{unrefused_inside}
use Rattle.contest.proofs.Answers.{answer_none, answer_keeper, answer_breaker}
use Rattle.contest.proofs.contest.Goals as goal

pub returns-then-rounds-eq0 : goal.returns-then-rounds-eq0
returns-then-rounds-eq0 c =
    let a = c.args in
    let free = sym c.in_ok-judge.ensures in
    answer_none a.n a.s a.masks.now a.rounds (unrefused_inside a.n a.s (length a.masks.now) a.rounds free) free c.if-rounds-eq0.true

pub nonzero_div-masks : goal.nonzero_div-masks
nonzero_div-masks c =
    let a = c.args in
    (unrefused_inside a.n a.s (length a.masks.now) a.rounds (sym c.in_ok-judge.ensures)).stations

pub first_pick-requires : goal.first_pick-requires
first_pick-requires c =
    let a = c.args in
    let inside = unrefused_inside a.n a.s (length a.masks.now) a.rounds (sym c.in_ok-judge.ensures) in
    record { few = inside.few; sender = inside.own; whole = inside.whole }

pub overflow_cast-result : goal.overflow_cast-result
overflow_cast-result c =
    let a = c.args in
    let inside = unrefused_inside a.n a.s (length a.masks.now) a.rounds (sym c.in_ok-judge.ensures) in
    record { fits = omega (arith, inside.few_sets, c.in-Some.ensures.below) }

pub returns-in-Some : goal.returns-in-Some
returns-in-Some c =
    let a = c.args in
    let free = sym c.in_ok-judge.ensures in
    let room : 0 < a.rounds = omega (arith, c.if-rounds-eq0.false) in
    answer_keeper a.n a.s a.masks.now a.rounds (unrefused_inside a.n a.s (length a.masks.now) a.rounds free) free _ room c.in-Some.ensures.lowest
    c.in-Some.ensures.below

pub returns-in-None : goal.returns-in-None
returns-in-None c =
    let a = c.args in
    let free = sym c.in_ok-judge.ensures in
    let room : 0 < a.rounds = omega (arith, c.if-rounds-eq0.false) in
    answer_breaker a.n a.s a.masks.now a.rounds (unrefused_inside a.n a.s (length a.masks.now) a.rounds free) free _ room c.in-None.ensures.lowest
    (omega arith)
