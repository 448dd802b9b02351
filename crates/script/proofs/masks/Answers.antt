-- `script::masks` fills sixteen places. The invariant: the places below k hold their masks.
use Rattle.std.proofs.Common.{◌≡◌, refl, sym, ◌∙◌, arith}
use lib.ListN.{length-set}
use lib.Seq.{take_all}
use Rattle.lists.specs.Below.{tabulate}
use Rattle.script.specs.Line.{masks_of}
use Rattle.script.proofs.Rounds.{mask_more}
use Rattle.script.proofs.masks.Goals as goal

pub loop-k-init : goal.loop-k-init
unfolding tabulate
loop-k-init c = (refl, refl)

pub loop-k-preserved : goal.loop-k-preserved
loop-k-preserved c = (
  simp length-set c.loop-k.invariant.0,
  rw c.mask_at.ensures (mask_more _ _ c.loop-k.k c.loop-k.made (omega arith) c.loop-k.invariant.1),
)

pub returns : goal.returns
unfolding masks_of
returns c =
    let e : c.loop-k.k ≡ 16 = omega arith in
    sym (take_all 16 c.loop-k.made (omega arith)) ∙ rw e at c.loop-k.invariant.1
