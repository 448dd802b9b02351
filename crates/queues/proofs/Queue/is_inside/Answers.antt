-- `Queue::is_inside` meets its contract: what holds of each of the first slots holds at every
-- place.
use Rattle.std.proofs.Common.{rules, sym, ◌∙◌, take, arith, tests}
use borrow.Author.Tests.{le-leb}
use Rattle.std.proofs.lemmas.Iterator.Search.{all_from_yields_List}
use Rattle.std.proofs.lemmas.Iterator.{YieldsList-from_slice}
use Rattle.bodies.specs.Limits.{body_inside, may_wait}
use Rattle.queues.specs.declared.Slot.{Slot}
use Rattle.queues.specs.Queue.{queue_inside, no_slot}
use Rattle.queues.proofs.AllBelow.{all_below_take}
use Rattle.queues.proofs.Queue.is_inside.Goals as goal

pub returns-then-self-limit : goal.returns-then-self-limit
unfolding queue_inside
returns-then-self-limit c =
    let q = c.args.self.now in
    let test = λ (slot : Slot). may_wait (body_inside c.args.edition) slot.body in
    rw (le-leb _ _ c.if-self-limit.true)
    (all_from_yields_List test _ _ c.all.result c.all.ensures.ran (YieldsList-from_slice (take q.len q.slots) cc) (λ x b r k. search (rules, tests))
    ∙ sym (all_below_take test no_slot q.slots q.len (omega arith)))
