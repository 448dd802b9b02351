-- What is put in front of the buffer is the entries, place by place.
use Rattle.std.proofs.Common.{ℕ, List, ◌≡◌, ◌++◌, get_or, drop, sym, ap, ◌∙◌, arith}
use lib.Seq.{ext_get_or}
use Rattle.lists.specs.Below.{tabulate}
use Rattle.lists.proofs.Laws.{length-tabulate, tabulate_at}
use Rattle.planning_spec.proofs.MergeInto.{set_below_front}
use Rattle.planning_calls.proofs.write_entries.Goals as goal

pub returns : goal.returns
returns c =
    let entries = c.args.entries.now in
    let buffer = c.args.buffer.now in
    let f = λ (k : ℕ). get_or entries k 0 in
    let same : entries ≡ tabulate 16 f =
    ext_get_or 0 entries (tabulate 16 f) (omega (arith, length-tabulate 16 f)) (λ i h. sym (tabulate_at 16 f i 0 (omega arith))) in
    ap (λ (l : List ℕ). l ++ drop 16 buffer) (c.copy_from_slice.ensures.after ∙ same) ∙ sym (set_below_front 16 f buffer c.requires)
