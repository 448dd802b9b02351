-- Each return is a case of the definition, and every buffer is what it says; read back, the state
-- is what the call was given.
use Rattle.std.proofs.Common.{sym, arith, ◌∙◌}
use Rattle.group_calls.proofs.Group.{group_long}
use Rattle.group_calls.proofs.Bulletins.{bulletins_long, both_small, both_no_group, both_no_state, both_refused, both_few, both_short, both_unshown, both_done}
use Rattle.group_calls.proofs.bulletin_calls.round.Goals as goal

pub returns-then-not-is_group : goal.returns-then-not-is_group
returns-then-not-is_group c =
    let s = c.args in
    let l =
    both_no_group s.group.now s.state.now s.masks.now s.reports.now s.shown.now (sym c.is_group.ensures ∙ c.if-not-is_group.true) _ c.number.ensures in
    record { returned = l.0; group = l.1; state = l.2; reports = l.3; shown = l.4 }

pub returns-then-not-is_bulletins : goal.returns-then-not-is_bulletins
returns-then-not-is_bulletins c =
    let s = c.args in
    let h = sym c.is_group.ensures ∙ c.if-not-is_group.false in
    let l =
    both_no_state s.group.now s.state.now s.masks.now s.reports.now s.shown.now h (sym c.is_bulletins.ensures ∙ c.if-not-is_bulletins.true) _
    c.number-then-not-is_bulletins.ensures in
    record { returned = l.0; group = l.1; state = l.2; reports = l.3; shown = l.4 }

pub both_round-done-requires : goal.both_round-done-requires
both_round-done-requires c =
    let h = sym c.is_group.ensures ∙ c.if-not-is_group.false in
    let q = sym c.is_bulletins.ensures ∙ c.if-not-is_bulletins.false in
    record { group = omega (arith, group_long _ h); state = omega (arith, bulletins_long _ q) }

pub overflow_cast-refusal : goal.overflow_cast-refusal
overflow_cast-refusal c = record { fits = omega (arith, both_small _ _ _ _ c.both_round-done.ensures) }

pub returns-then-refusal-ne-DONE : goal.returns-then-refusal-ne-DONE
returns-then-refusal-ne-DONE c =
    let s = c.args in
    let h = sym c.is_group.ensures ∙ c.if-not-is_group.false in
    let q = sym c.is_bulletins.ensures ∙ c.if-not-is_bulletins.false in
    let l = both_refused s.group.now s.state.now s.masks.now s.reports.now s.shown.now h q _ c.both_round-done.ensures c.if-refusal-ne-DONE.true in
    record { returned = l.0; group = l.1; state = l.2; reports = l.3; shown = l.4 }

pub returns-then-masks-lt16 : goal.returns-then-masks-lt16
returns-then-masks-lt16 c =
    let s = c.args in
    let h = sym c.is_group.ensures ∙ c.if-not-is_group.false in
    let q = sym c.is_bulletins.ensures ∙ c.if-not-is_bulletins.false in
    let l =
    both_few s.group.now s.state.now s.masks.now s.reports.now s.shown.now h q _ c.both_round-done.ensures c.if-refusal-ne-DONE.false
    c.if-masks-lt16.true _ c.number-then-masks-lt16.ensures in
    record { returned = l.0; group = l.1; state = l.2; reports = l.3; shown = l.4 }

pub returns-then-reports-lt-REPORTS_WIDTH : goal.returns-then-reports-lt-REPORTS_WIDTH
returns-then-reports-lt-REPORTS_WIDTH c =
    let s = c.args in
    let h = sym c.is_group.ensures ∙ c.if-not-is_group.false in
    let q = sym c.is_bulletins.ensures ∙ c.if-not-is_bulletins.false in
    let l =
    both_short s.group.now s.state.now s.masks.now s.reports.now s.shown.now h q _ c.both_round-done.ensures c.if-refusal-ne-DONE.false
    c.if-masks-lt16.false c.if-reports-lt-REPORTS_WIDTH.true _ c.number-then-reports-lt-REPORTS_WIDTH.ensures in
    record { returned = l.0; group = l.1; state = l.2; reports = l.3; shown = l.4 }

pub returns-then-shown-lt-SHOWN_WIDTH : goal.returns-then-shown-lt-SHOWN_WIDTH
returns-then-shown-lt-SHOWN_WIDTH c =
    let s = c.args in
    let h = sym c.is_group.ensures ∙ c.if-not-is_group.false in
    let q = sym c.is_bulletins.ensures ∙ c.if-not-is_bulletins.false in
    let l =
    both_unshown s.group.now s.state.now s.masks.now s.reports.now s.shown.now h q _ c.both_round-done.ensures c.if-refusal-ne-DONE.false
    c.if-masks-lt16.false c.if-reports-lt-REPORTS_WIDTH.false c.if-shown-lt-SHOWN_WIDTH.true _ c.number-then-shown-lt-SHOWN_WIDTH.ensures in
    record { returned = l.0; group = l.1; state = l.2; reports = l.3; shown = l.4 }

pub put_both-requires : goal.put_both-requires
put_both-requires c =
    let h = sym c.is_group.ensures ∙ c.if-not-is_group.false in
    let q = sym c.is_bulletins.ensures ∙ c.if-not-is_bulletins.false in
    record {
      group = omega (arith, group_long _ h);
      state = omega (arith, bulletins_long _ q);
      reports = c.if-reports-lt-REPORTS_WIDTH.false;
      shown = c.if-shown-lt-SHOWN_WIDTH.false;
    }

pub returns : goal.returns
returns c =
    let put = c.put_both.ensures in
    let s = c.args in
    let h = sym c.is_group.ensures ∙ c.if-not-is_group.false in
    let q = sym c.is_bulletins.ensures ∙ c.if-not-is_bulletins.false in
    let l =
    both_done s.group.now s.state.now s.masks.now s.reports.now s.shown.now h q _ c.both_round-done.ensures c.if-refusal-ne-DONE.false
    c.if-masks-lt16.false c.if-reports-lt-REPORTS_WIDTH.false c.if-shown-lt-SHOWN_WIDTH.false _ _ _ _ put.group put.state put.reports put.shown in
    record { returned = l.0; group = l.1; state = l.2; reports = l.3; shown = l.4 }
