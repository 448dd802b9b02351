-- `turns::parts::all_acked` meets its contract: what holds of each of the first holds at every
-- place.
use Rattle.std.proofs.Common.{rules, Bool, false, sym, ◌∙◌, take, arith, tests}
use Rattle.std.proofs.lemmas.Iterator.Search.{all_from_yields_List}
use Rattle.std.proofs.lemmas.Iterator.{YieldsList-from_slice}
use Rattle.queues.proofs.AllBelow.{all_below_take}
use Rattle.turns.proofs.parts.all_acked.Goals as goal

pub returns : goal.returns
returns c =
    let n = c.args.n in
    let acked = c.args.acked.now in
    all_from_yields_List (λ (b : Bool). b) _ _ c.all.result c.all.ensures.ran (YieldsList-from_slice (take n acked) cc) (λ x b r k. search (rules, tests))
    ∙ sym (all_below_take (λ (b : Bool). b) false acked n (omega arith))
