-- `group_calls::sixteen_masks` meets its contract: the masks before k are read.
use Rattle.std.proofs.Common.{ℕ, Option, ap, arith, unwrap_or, ◌∙◌}
use Rattle.station_bytes_spec.proofs.Bytes.{numbers_none, numbers_more, numbers_all}
use Rattle.group_calls.specs.Group.{sixteen_masks}
use Rattle.group_calls.proofs.sixteen_masks.Goals as goal

pub loop-k-init : goal.loop-k-init
loop-k-init c = numbers_none

pub loop-k-preserved : goal.loop-k-preserved
loop-k-preserved c =
    let mask = c.unwrap_or.ensures ∙ ap (λ (o : Option ℕ). unwrap_or o 0) c.copied.ensures ∙ c.get.ensures.lookup.4 (omega arith) 0 in
    numbers_more c.loop-k.invariant (omega arith) mask

pub returns : goal.returns
unfolding sixteen_masks
returns c = numbers_all c.loop-k.invariant (omega arith)
