-- `turns::airing::all_full` meets its contract: what holds of each of the first lanes holds at
-- every place.
use Rattle.std.proofs.Common.{rules, nat_lt, sym, ◌∙◌, take, arith, tests}
use Rattle.std.proofs.lemmas.Iterator.Search.{all_from_yields_List}
use Rattle.std.proofs.lemmas.Iterator.{YieldsList-from_slice}
use Rattle.queues.specs.declared.Lane.{Lane}
use Rattle.queues.specs.Lane.{no_lane}
use Rattle.queues.proofs.AllBelow.{all_below_take}
use Rattle.turns.proofs.airing.all_full.Goals as goal

pub returns : goal.returns
returns c =
    let n = c.args.n in
    let lanes = c.args.lanes.now in
    let test = λ (lane : Lane). nat_lt 0 lane.len in
    all_from_yields_List test _ _ c.all.result c.all.ensures.ran (YieldsList-from_slice (take n lanes) cc) (λ x b r k. search (rules, tests))
    ∙ sym (all_below_take test no_lane lanes n (omega arith))
