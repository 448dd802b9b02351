use Rattle.std.proofs.Common.{arith, length-take}
use Rattle.air_logs.proofs.is_ended_line.Goals as goal

pub slice_bounds-is_line-end : goal.slice_bounds-is_line-end
slice_bounds-is_line-end c = omega (arith, length-take 34 c.args.line.now)
