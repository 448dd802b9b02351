-- The loop keeps `Stands`: after u rounds of the log, the sets are what is known in its links, and
-- counts and rounds are those of the ends so far.
use Prim.Native.Nat.{ℕ, ◌<◌, ◌≤◌}
use native.Mathlib.Omega.{arith}
use mathlib.Core.Path.{◌≡◌}
use lib.ListN.{length-replicate}
use Rattle.planning_spec.specs.LinkLog.{rounds_of}
use Rattle.planning_spec.proofs.LinkLog.{accepted, round_inside}
use Rattle.planning.proofs.Stands.{stands_start, stands_small, round_more, zeros_at}
use Rattle.planning.proofs.ForecastAnswer.{answered}
use Rattle.planning.proofs.forecast.of_rounds.Goals as goal

pub begin_all-requires : goal.begin_all-requires
begin_all-requires c = (accepted _ _ c.requires.accepted).few

pub loop-u-init : goal.loop-u-init
loop-u-init c =
    stands_start _ (accepted _ _ c.requires.accepted).few _ _ _ c.begin_all.ensures (length-replicate {A = ℕ} 16 0)
    (length-replicate {A = ℕ} 16 0) (zeros_at 16) (zeros_at 16)

pub overflow_mul-u : goal.overflow_mul-u
overflow_mul-u c =
    let l = c.loop-u in
    let a = accepted _ _ c.requires.accepted in
    let h : l.u < rounds_of c.args.n c.args.log.now = omega (arith, c.loop-u-test.true, c.requires.whole) in
    record { fits = omega (arith, round_inside l.u (rounds_of c.args.n c.args.log.now) c.args.n h, a.whole, c.well_formed.0) }

pub learn-requires : goal.learn-requires
learn-requires c =
    let l = c.loop-u in
    let a = accepted _ _ c.requires.accepted in
    let h : l.u < rounds_of c.args.n c.args.log.now = omega (arith, c.loop-u-test.true, c.requires.whole) in
    record { few = a.few; inside = omega (arith, round_inside l.u (rounds_of c.args.n c.args.log.now) c.args.n h, a.whole) }

pub overflow_cast-u : goal.overflow_cast-u
overflow_cast-u c =
    record { fits = omega (arith, c.loop-u-test.true, c.requires.whole, (accepted _ _ c.requires.accepted).rounds) }

pub close-requires : goal.close-requires
close-requires c =
    let l = c.loop-u in
    let a = accepted _ _ c.requires.accepted in
    let t : l.u ≤ 2048 = omega (arith, c.loop-u-test.true, c.requires.whole, a.rounds) in
    record { few = a.few; room = stands_small _ l.u _ _ _ t l.invariant }

pub loop-u-preserved : goal.loop-u-preserved
loop-u-preserved c =
    let l = c.loop-u in
    round_more c.args.n c.args.log.now l.u (accepted _ _ c.requires.accepted).few (omega (arith, c.loop-u-test.true, c.requires.whole)) _ _ _ _ _ _ _
    l.invariant c.learn.ensures c.close.ensures

pub returns : goal.returns
returns c =
    let l = c.loop-u in
    let e : l.u ≡ rounds_of c.args.n c.args.log.now = omega (arith, c.loop-u-test.false, c.requires.whole) in
    answered _ _ _ _ _ c.requires.accepted (rw e at l.invariant)
