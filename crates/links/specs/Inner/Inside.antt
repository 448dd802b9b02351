-- Who hears in a round, and who is heard, are two stations below n. Each of the four tests of
-- `hears_in` is passed.
use Rattle.std.specs.Prelude.{true, not, List, ◌≡◌, ℕ, ◌<◌, ◌==◌, nat_lt}
use Rattle.std.proofs.Math.Bool.{and-eq-true_iff}
use Rattle.std.proofs.Common.{ltb-true}
use Rattle.std.proofs.lemmas.Bool.{eqb-false, not-true}
use Rattle.links.specs.Log.{hears_in}

pub hears_in_inside : (n : ℕ) (masks : List ℕ) (i j : ℕ) → hears_in n masks i j ≡ true → (i < n) × (j < n) × (i ≡ j → ⊥)
unfolding hears_in
hears_in_inside n masks i j h =
    let a = (and-eq-true_iff (nat_lt i n) _).0 h in
    let b = (and-eq-true_iff (nat_lt j n) _).0 a.1 in
    let c = (and-eq-true_iff (not (i == j)) _).0 b.1 in
    (ltb-true i n a.0, ltb-true j n b.0, eqb-false i j (not-true (i == j) c.0))
