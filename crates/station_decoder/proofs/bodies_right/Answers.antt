-- `station_decoder::bodies_right` meets its contract: a body that is not right ends it.
use Rattle.std.proofs.Common.{arith, sym, ◌∙◌}
use Rattle.lists.proofs.Laws.{all_below_fails}
use Rattle.station_decoder.proofs.bodies_right.Goals as goal

pub returns-then-not-body_right : goal.returns-then-not-body_right
returns-then-not-body_right c = sym (all_below_fails 32 _ c.loop-i.i (omega arith) (sym c.body_right.ensures ∙ c.if-not-body_right.true))
