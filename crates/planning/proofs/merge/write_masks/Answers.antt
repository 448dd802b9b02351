-- The rounds that both logs have hold the merged masks, and then so do those of the longer one.
use Rattle.std.proofs.Common.{◌≡◌, length, refl, arith}
use Rattle.lists.specs.Below.{set_below}
use Rattle.planning_spec.specs.Merge.{merged_mask}
use Rattle.planning_spec.proofs.Merge.{both_accepted}
use Rattle.planning.proofs.MergedWritten.{both_united, first_united, second_united, whole_ends}
use Rattle.planning.proofs.merge.write_masks.Goals as goal

pub all_others-others-requires : goal.all_others-others-requires
all_others-others-requires c = (both_accepted _ _ _ c.requires.accepted).one.few

pub unite_rounds-requires-clause-some : goal.unite_rounds-requires-clause-some
unite_rounds-requires-clause-some c = (both_accepted _ _ _ c.requires.accepted).one.some

pub unite_rounds-requires-clause-few : goal.unite_rounds-requires-clause-few
unite_rounds-requires-clause-few c = (both_accepted _ _ _ c.requires.accepted).one.few

pub unite_rounds-requires-clause-ends : goal.unite_rounds-requires-clause-ends
unite_rounds-requires-clause-ends c = whole_ends _ _ (both_accepted _ _ _ c.requires.accepted).one

pub unite_rounds-requires-then-first-second-clause-some : goal.unite_rounds-requires-then-first-second-clause-some
unite_rounds-requires-then-first-second-clause-some c = (both_accepted _ _ _ c.requires.accepted).one.some

pub unite_rounds-requires-then-first-second-clause-few : goal.unite_rounds-requires-then-first-second-clause-few
unite_rounds-requires-then-first-second-clause-few c = (both_accepted _ _ _ c.requires.accepted).one.few

pub unite_rounds-requires-then-first-second-clause-begins : goal.unite_rounds-requires-then-first-second-clause-begins
unite_rounds-requires-then-first-second-clause-begins c = whole_ends _ _ (both_accepted _ _ _ c.requires.accepted).one

pub unite_rounds-requires-then-first-second-clause-ends : goal.unite_rounds-requires-then-first-second-clause-ends
unite_rounds-requires-then-first-second-clause-ends c =
    let e : c.args.count ≡ length c.args.second.now = omega (arith, c.requires.longer, c.if-first-second.true) in
    rw e (whole_ends _ _ (both_accepted _ _ _ c.requires.accepted).two)

pub unite_rounds-requires-else-first-second-clause-some : goal.unite_rounds-requires-else-first-second-clause-some
unite_rounds-requires-else-first-second-clause-some c = (both_accepted _ _ _ c.requires.accepted).one.some

pub unite_rounds-requires-else-first-second-clause-few : goal.unite_rounds-requires-else-first-second-clause-few
unite_rounds-requires-else-first-second-clause-few c = (both_accepted _ _ _ c.requires.accepted).one.few

pub unite_rounds-requires-else-first-second-clause-ends : goal.unite_rounds-requires-else-first-second-clause-ends
unite_rounds-requires-else-first-second-clause-ends c = whole_ends _ _ (both_accepted _ _ _ c.requires.accepted).two

pub unite_rounds-requires-else-first-second-2-clause-some : goal.unite_rounds-requires-else-first-second-2-clause-some
unite_rounds-requires-else-first-second-2-clause-some c = (both_accepted _ _ _ c.requires.accepted).one.some

pub unite_rounds-requires-else-first-second-2-clause-few : goal.unite_rounds-requires-else-first-second-2-clause-few
unite_rounds-requires-else-first-second-2-clause-few c = (both_accepted _ _ _ c.requires.accepted).one.few

pub unite_rounds-requires-else-first-second-2-clause-begins : goal.unite_rounds-requires-else-first-second-2-clause-begins
unite_rounds-requires-else-first-second-2-clause-begins c = whole_ends _ _ (both_accepted _ _ _ c.requires.accepted).two

pub unite_rounds-requires-else-first-second-2-clause-ends : goal.unite_rounds-requires-else-first-second-2-clause-ends
unite_rounds-requires-else-first-second-2-clause-ends c =
    let e : c.args.count ≡ length c.args.first.now = omega (arith, c.requires.longer, c.if-first-second.false) in
    rw e (whole_ends _ _ (both_accepted _ _ _ c.requires.accepted).one)

pub returns-then-first-second : goal.returns-then-first-second
unfolding set_below
returns-then-first-second c =
    let a = c.args in
    let t = c.all_others-others.ensures in
    let f = merged_mask a.n a.first.now a.second.now in
    c.unite_rounds-then-first-second.ensures f a.merged.now
    (λ i from to. second_united a.n a.first.now a.second.now _ c.requires.accepted t i from)
    (c.unite_rounds.ensures f a.merged.now (λ i from to. both_united a.n a.first.now a.second.now _ c.requires.accepted t i) refl)

pub returns-else-first-second : goal.returns-else-first-second
unfolding set_below
returns-else-first-second c =
    let a = c.args in
    let t = c.all_others-others.ensures in
    let f = merged_mask a.n a.first.now a.second.now in
    c.unite_rounds-else-first-second-2.ensures f a.merged.now
    (λ i from to. first_united a.n a.first.now a.second.now _ c.requires.accepted t i from)
    (c.unite_rounds-else-first-second.ensures f a.merged.now (λ i from to. both_united a.n a.first.now a.second.now _ c.requires.accepted t i) refl)
