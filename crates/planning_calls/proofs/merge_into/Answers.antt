-- The number of masks fits, for a log has at most 2,048 rounds of sixteen.
use Rattle.std.proofs.Common.{ap, sym, arith}
use Rattle.planning_spec.specs.Merge.{MergeAnswer}
use Rattle.planning_spec.proofs.MergeInto.{masks_small}
use Rattle.planning_calls.proofs.merge_into.Goals as goal

pub overflow_cast-masks : goal.overflow_cast-masks
overflow_cast-masks c =
    let a = c.args in
    let e = c.in-Ok-merge.ensures.answer in
    record {
      fits =
          omega (
            arith,
            ap (λ (x : MergeAnswer). x.masks) e,
            masks_small a.n a.first.now a.second.now a.merged.now (sym (ap (λ (x : MergeAnswer). x.refusal) e)),
          );
    }
