-- The loop keeps `Learnt` up to its counter: the rows before it are what a round makes of the sets
-- as they stood, for `before` is never written.
use Prim.Native.Nat.{ℕ, ◌+◌}
use mathlib.Core.Path.{ap, ◌∙◌}
use lib.ListN.{get_or}
use Rattle.links.specs.Log.{bit}
use Rattle.planning.specs.Sets.{cell, united, with_receiver}
use Rattle.planning.proofs.Rows.{row_ext, learnt_start, learnt_more}
use Rattle.planning.proofs.sets.learn.Goals as goal

pub loop-p-init : goal.loop-p-init
loop-p-init c = learnt_start _ _ _

-- What each step does to a set is composed.
pub loop-p-preserved : goal.loop-p-preserved
loop-p-preserved c =
    let a = c.args in
    let l = c.loop-p in
    let mask = get_or a.log.now (a.at + l.p) 0 in
    learnt_more _ _ _ _ _ _ l.invariant
    (row_ext _ _ _ _ _ c.store.ensures
    (λ s h.
    c.add_receiver.ensures.first s h
    ∙ ap (λ (x : ℕ). with_receiver l.p s x)
    (c.listen.ensures.first s h
    ∙ ap (λ (x : ℕ). united a.n (bit mask) (λ j. cell a.sets.now j s) x) (c.row_of-row.ensures s h))))
