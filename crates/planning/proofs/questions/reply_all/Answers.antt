-- The loop keeps `Stands`, as the forecast's does, and `Replied`: after u rounds of the log the
-- replies are those of the answers within them.
use Prim.Native.Nat.{ℕ, ◌+◌, ◌<◌, ◌≤◌}
use native.Mathlib.Omega.{arith}
use mathlib.Core.Path.{◌≡◌}
use lib.ListN.{length-replicate}
use Rattle.planning_spec.specs.LinkLog.{rounds_of, links_of}
use Rattle.planning_spec.proofs.LinkLog.{accepted, round_inside}
use Rattle.planning_spec.specs.Arrival.{Arrival}
use Rattle.planning_spec.specs.Questions.{never}
use Rattle.planning_spec.proofs.Questions.{nevers_at}
use Rattle.planning.proofs.Stands.{stands_start, stands_small, round_more, zeros_at}
use Rattle.planning.proofs.QuestionPage.{replied_start, replied_more}
use Rattle.planning.proofs.questions.reply_all.Goals as goal

pub begin_all-requires : goal.begin_all-requires
begin_all-requires c = (accepted _ _ c.requires.accepted).few

pub settle_all-requires : goal.settle_all-requires
settle_all-requires c =
    record {
      asked = c.requires.asked;
      few = (accepted _ _ c.requires.accepted).few;
      size = length-replicate {A = Arrival} 64 never;
      room = λ s h. omega (arith, zeros_at 16 s);
    }

pub loop-u-init : goal.loop-u-init
loop-u-init c =
    let k =
    stands_start (links_of c.args.n c.args.log.now) (accepted _ _ c.requires.accepted).few _ _ _ c.begin_all.ensures
    (length-replicate {A = ℕ} 16 0) (length-replicate {A = ℕ} 16 0) (zeros_at 16) (zeros_at 16) in
    record {
      stands = k;
      replied =
          replied_start (links_of c.args.n c.args.log.now) _ _ c.requires.asked _ _ _ _ _ (length-replicate {A = Arrival} 64 never) (nevers_at 64) k
          c.settle_all.ensures;
    }

pub overflow_cast-round : goal.overflow_cast-round
overflow_cast-round c =
    record { fits = omega (arith, c.loop-u-test.true, c.requires.whole, (accepted _ _ c.requires.accepted).rounds) }

pub overflow_mul-u : goal.overflow_mul-u
overflow_mul-u c =
    let l = c.loop-u in
    let a = accepted _ _ c.requires.accepted in
    let h : l.u < rounds_of c.args.n c.args.log.now = omega (arith, c.loop-u-test.true, c.requires.whole) in
    record { fits = omega (arith, round_inside l.u (rounds_of c.args.n c.args.log.now) c.args.n h, a.whole, c.well_formed.0) }

pub learn-requires : goal.learn-requires
learn-requires c =
    let l = c.loop-u in
    let a = accepted _ _ c.requires.accepted in
    let h : l.u < rounds_of c.args.n c.args.log.now = omega (arith, c.loop-u-test.true, c.requires.whole) in
    record { few = a.few; inside = omega (arith, round_inside l.u (rounds_of c.args.n c.args.log.now) c.args.n h, a.whole) }

pub close-requires : goal.close-requires
close-requires c =
    let l = c.loop-u in
    let a = accepted _ _ c.requires.accepted in
    let t : l.u ≤ 2048 = omega (arith, c.loop-u-test.true, c.requires.whole, a.rounds) in
    record { few = a.few; room = stands_small _ l.u _ _ _ t l.invariant.stands }

pub settle_all-requires-in-loop-u : goal.settle_all-requires-in-loop-u
settle_all-requires-in-loop-u c =
    let l = c.loop-u in
    let a = accepted _ _ c.requires.accepted in
    let t : l.u + 1 ≤ 2048 = omega (arith, c.loop-u-test.true, c.requires.whole, a.rounds) in
    let k =
    round_more c.args.n c.args.log.now l.u a.few (omega (arith, c.loop-u-test.true, c.requires.whole)) _ _ _ _ _ _ _ l.invariant.stands
    c.learn.ensures c.close.ensures in
    record { asked = c.requires.asked; few = a.few; size = l.invariant.replied.size; room = stands_small _ (l.u + 1) _ _ _ t k }

pub loop-u-preserved : goal.loop-u-preserved
loop-u-preserved c =
    let l = c.loop-u in
    let k =
    round_more c.args.n c.args.log.now l.u (accepted _ _ c.requires.accepted).few (omega (arith, c.loop-u-test.true, c.requires.whole)) _ _ _ _ _ _ _
    l.invariant.stands c.learn.ensures c.close.ensures in
    record {
      stands = k;
      replied = replied_more (links_of c.args.n c.args.log.now) _ _ c.requires.asked l.u _ _ _ _ _ k l.invariant.replied c.settle_all-in-loop-u.ensures;
    }

pub returns : goal.returns
returns c =
    let l = c.loop-u in
    let e : l.u ≡ rounds_of c.args.n c.args.log.now = omega (arith, c.loop-u-test.false, c.requires.whole) in
    (rw e at l.invariant).replied
