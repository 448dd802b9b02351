-- A7's theorem, put together: order, alternation and fairness over every list of calls from a fresh
-- group.
use Rattle.group_spec.specs.Desks.{TwoDesks}
use Rattle.group_spec.proofs.Setups.{accepts}
use Rattle.group_spec.proofs.PostsAccounted.{starts_interleaved}
use Rattle.group_spec.proofs.DemandThree.{free}
use Rattle.group_spec.proofs.AiredOrder.{aired_begin_starts}
use Rattle.group_spec.proofs.DeskTurns.{desks_alternate}
use Rattle.group_spec.proofs.Fairness.{desks_fair}

pub two_desks : TwoDesks
two_desks setup fresh calls =
    let ok = accepts setup fresh in
    record {
      starts_interleaved = λ p l. starts_interleaved setup ok calls p;
      aired_begin_starts = aired_begin_starts setup ok calls (free setup fresh calls);
      desks_alternate = desks_alternate setup ok calls;
      desks_fair = desks_fair setup ok calls;
    }
