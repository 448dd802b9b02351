-- `Queue::pop` meets its contract: the slots behind the first are copied to the front.
use Rattle.std.proofs.Common.{arith}
use Rattle.queues.proofs.QueueSteps.{moved_up}
use Rattle.queues.specs.Queue.{no_slot, unqueued}
use Rattle.queues.proofs.Queue.pop.Goals as goal

pub returns : goal.returns
unfolding unqueued
returns c =
    let q = c.args.self.now in
    rw (c.copy_within.ensures.after, moved_up no_slot q.slots q.len (omega arith) (omega arith) no_slot)
