-- The shifts give 2 ^ n and 2 ^ p, and nothing is lost: n is at most 16, and p is less.
use Prim.Native.Nat.{◌^◌, ◌<◌, ◌≤◌}
use native.Mathlib.Nat.{pow-le-pow_right}
use native.Mathlib.Omega.{arith}
use lib.Pow.{pow_pos}
use Rattle.planning.proofs.Bits.{shifted16, shifted32}
use Rattle.planning.proofs.merge.others.Goals as goal

pub overflow_sub-result : goal.overflow_sub-result
overflow_sub-result c = rw (shifted32 c.args.n c.requires.few) (pow_pos c.args.n)

pub overflow_cast-result-2 : goal.overflow_cast-result-2
overflow_cast-result-2 c =
    let h = c.requires.few in
    let p : 2 ^ c.args.n ≤ 2 ^ 16 = pow-le-pow_right (omega arith) h in
    let q = pow_pos c.args.n in
    record { fits = rw (shifted32 c.args.n h) (omega arith) }

pub returns : goal.returns
returns c =
    let p : c.args.p < 16 = omega (arith, c.requires.few, c.requires.station) in
    rw (shifted32 c.args.n c.requires.few, shifted16 c.args.p p)
