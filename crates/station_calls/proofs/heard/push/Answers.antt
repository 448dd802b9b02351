-- `station_calls::heard::push` meets its contract, by how many bodies the lane has.
use Rattle.std.proofs.Common.{arith}
use Rattle.station_calls.proofs.HeardSteps.{pushed_first, pushed_second, pushed_none}
use Rattle.station_calls.proofs.heard.push.Goals as goal

pub returns-then-len-eq0 : goal.returns-then-len-eq0
returns-then-len-eq0 c =
    pushed_first _ c.args.k c.requires.among c.args.body c.if-len-eq0.true _ _ c.put_body.ensures c.put_body-then-len-eq0.ensures

pub returns-then-len-eq1 : goal.returns-then-len-eq1
returns-then-len-eq1 c = pushed_second _ c.args.k c.requires.among c.args.body c.if-len-eq1.true _ c.put_body-then-len-eq1.ensures

pub returns-else-len-eq1 : goal.returns-else-len-eq1
returns-else-len-eq1 c = pushed_none _ c.args.k c.requires.among c.args.body (omega (arith, c.if-len-eq0.false, c.if-len-eq1.false))
