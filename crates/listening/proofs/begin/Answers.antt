-- `listening::begin` meets its contract: the places of the own records are put twice, as what is
-- held and as what was heard last.
use Rattle.std.proofs.Common.{ap, length, refl, rules}
use Rattle.station_spec.proofs.Setters.{Shaped}
use Rattle.station_spec.proofs.Shape.{shaped}
use Rattle.listening.proofs.Begins.{may_put, begins}
use Rattle.listening.proofs.begin.Goals as goal

pub own_places-requires : goal.own_places-requires
own_places-requires c =
    let may = c.requires.listens in
    record { long = ap length c.requires.silent; high = may_put _ _ _ may; short = may.short; frame = may.own_room }

pub own_places-requires-2 : goal.own_places-requires-2
own_places-requires-2 c =
    let may = c.requires.listens in
    record { long = refl; high = may_put _ _ _ may; short = may.short; frame = may.own_room }

pub returns-clause-begins : goal.returns-clause-begins
returns-clause-begins c =
    let s = c.args.s.now in
    let shape : Shaped s = shaped s (search rules) (search rules) (search rules) (search rules depth 9) (search rules depth 9) (search rules depth 9) (search rules depth 9) in
    begins c.requires.listens shape c.requires.silent c.own_places.ensures c.own_places-2.ensures c.lane_lens-lens.ensures refl
