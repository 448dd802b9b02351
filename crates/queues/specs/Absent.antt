-- What stands for the waiting edits of a station that is not there.
use Rattle.std.specs.Prelude.{false, []}
use Rattle.queues.specs.declared.Queue.{Queue}
use Rattle.queues.specs.declared.Waiting.{Waiting}

abbrev pub absent_waiting : Waiting
absent_waiting =
    let absent : Queue = record { len = 0; slots = [] } in
    record { limit = 0; queue0 = absent; queue1 = absent; one_first = false }
