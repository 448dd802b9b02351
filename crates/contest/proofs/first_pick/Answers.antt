-- The loop keeps: from no pick below i can the keeper force the end. The pick it leaves with is
-- then the lowest of the definition.
use Rattle.std.proofs.Common.{rules, ◌≡◌, false, ℕ, [], ◌∷◌, set, refl, ap, ◌∙◌, arith}
use borrow.Author.Count.{below_more}
use Rattle.contest.specs.declared.Player.TheVariants.{Keeper}
use Rattle.contest.specs.Inner.KnownSets.{begun, is_keeper, opening}
use Rattle.contest.proofs.Lowest.{lowest_found, lowest_missing}
use Rattle.contest.proofs.Deciding.{breaker_is, opening_is}
use Rattle.contest.proofs.first_pick.Goals as goal

pub returns-then-eq-clause-lowest : goal.returns-then-eq-clause-lowest
unfolding begun
returns-then-eq-clause-lowest c =
    let a = c.args in
    let i = c.loop-i.i in
    let won : c.winner.result ≡ Keeper = search rules in
    let first = ap (λ (x : ℕ). set (0 ∷ 0 ∷ 0 ∷ 0 ∷ []) a.s x) c.first_set.ensures in
    lowest_found a.count (opening a.n a.s a.count a.masks.now a.left) i c.loop-i-test.true
    (opening_is a.n a.s a.count a.masks.now a.left i _ c.learn-next.result (is_keeper c.winner.result) first c.learn-next.ensures c.winner.ensures
    ∙ ap is_keeper won)
    c.loop-i.invariant

pub loop-i-preserved : goal.loop-i-preserved
unfolding begun
loop-i-preserved c =
    let a = c.args in
    let i = c.loop-i.i in
    let first = ap (λ (x : ℕ). set (0 ∷ 0 ∷ 0 ∷ 0 ∷ []) a.s x) c.first_set.ensures in
    let lost : is_keeper c.winner.result ≡ false = breaker_is _ (search rules) in
    below_more _ _ c.loop-i.invariant
    (opening_is a.n a.s a.count a.masks.now a.left i _ c.learn-next.result (is_keeper c.winner.result) first c.learn-next.ensures c.winner.ensures
    ∙ lost)

pub returns-clause-lowest : goal.returns-clause-lowest
returns-clause-lowest c =
    let a = c.args in
    lowest_missing a.count (opening a.n a.s a.count a.masks.now a.left) a.count refl (λ j l. c.loop-i.invariant j (omega arith))
