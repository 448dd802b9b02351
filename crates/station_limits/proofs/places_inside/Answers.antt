use Rattle.std.proofs.Common.{sym, ◌∙◌, arith}
use Rattle.lists.proofs.Laws.{all_below_fails}
use Rattle.station_limits.proofs.places_inside.Goals as goal

pub returns-then-not-place_inside : goal.returns-then-not-place_inside
returns-then-not-place_inside c =
    sym (all_below_fails _ _ c.loop-k.k (omega arith) (sym c.place_inside.ensures ∙ c.if-not-place_inside.true))
