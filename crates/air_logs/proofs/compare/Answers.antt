use Rattle.std.proofs.Common.{sym, ◌∙◌}
use Rattle.air_logs.proofs.Logs.{passed, compared, refused}
use Rattle.air_logs.proofs.compare.Goals as goal

pub invariant_of-compare_logs : goal.invariant_of-compare_logs
invariant_of-compare_logs c =
    let a = c.args in
    let all = passed a.first.now a.p a.second.now a.q c.in-Ok.ensures in
    record { form = all.first_listing; numbered = all.first_station }

pub invariant_of-compare_logs-in-Ok : goal.invariant_of-compare_logs-in-Ok
invariant_of-compare_logs-in-Ok c =
    let a = c.args in
    let all = passed a.first.now a.p a.second.now a.q c.in-Ok.ensures in
    record { form = all.second_listing; numbered = all.second_station }

pub returns-in-Ok : goal.returns-in-Ok
returns-in-Ok c =
    let a = c.args in c.compare_logs.ensures ∙ sym (compared a.first.now a.p a.second.now a.q c.in-Ok.ensures)

pub returns-in-Err : goal.returns-in-Err
returns-in-Err c =
    let a = c.args in
    rw c.number.ensures (sym (refused a.first.now a.p a.second.now a.q c.in-Err.refusal c.in-Err.ensures))
