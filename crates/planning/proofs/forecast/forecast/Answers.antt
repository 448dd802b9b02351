-- The rounds of a log that is not refused are whole.
use Rattle.std.proofs.Common.{sym}
use Rattle.planning_spec.proofs.LinkLog.{accepted}
use Rattle.planning.proofs.forecast.forecast.Goals as goal

pub nonzero_div-log : goal.nonzero_div-log
nonzero_div-log c = (accepted _ _ (sym c.in_ok-judge_log.ensures)).some
