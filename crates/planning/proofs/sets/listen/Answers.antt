-- The loop keeps `Heard`: what is left of the mask is what has not been heard. It ends because a
-- mask without its lowest bit is less.
use Prim.Native.Nat.{◌-◌}
use native.Mathlib.Omega.{arith}
use lib.Bits.{and_le_r}
use lib.Count.{trailing_le}
use Rattle.planning.proofs.Listening.{heard_none, next_below, heard_next, heard_all}
use Rattle.planning.proofs.sets.listen.Goals as goal

pub loop-rest-init : goal.loop-rest-init
loop-rest-init c = let a = c.args in rw c.below-rest.ensures (heard_none a.n a.mask a.before.now a.row.now (omega arith))

pub overflow_cast-rest : goal.overflow_cast-rest
overflow_cast-rest c = record { fits = omega (arith, trailing_le 16 c.loop-rest.rest) }

pub unite-requires : goal.unite-requires
unite-requires c =
    omega (arith, next_below _ _ _ _ _ _ c.loop-rest.invariant (omega (arith, c.loop-rest-test.true)), c.requires)

pub overflow_sub-rest : goal.overflow_sub-rest
overflow_sub-rest c = omega (arith, c.loop-rest-test.true)

pub loop-rest-smaller : goal.loop-rest-smaller
loop-rest-smaller c =
    let r = c.loop-rest.rest in
    omega (arith, and_le_r r (r - 1), c.loop-rest-test.true)

pub loop-rest-preserved : goal.loop-rest-preserved
loop-rest-preserved c =
    heard_next _ _ _ _ _ _ c.loop-rest.invariant (omega (arith, c.loop-rest-test.true)) _ c.unite.ensures

pub returns : goal.returns
returns c =
    let a = c.args in
    heard_all a.n a.mask a.before.now a.row.now _ (rw c.loop-rest-test.false at c.loop-rest.invariant)
