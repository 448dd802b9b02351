-- Any contest over picks: where the keeper can still force it, it has a strategy, and else the
-- breaker has one.
use mathlib.Core.Bool.{Bool, true, false, cond, not}
use mathlib.Core.List.{List, [], ◌∷◌, ◌++◌}
use mathlib.Core.Path.{◌≡◌, refl, sym, ap, ◌∙◌}
use Prim.Native.Nat.{ℕ, zero, suc, ◌-◌, ◌<◌, ◌≤◌}
use native.Mathlib.Omega.{arith}
use lib.Dec.{eqb}
use lib.ListN.{length, length-append}
use Rattle.lists.specs.Below.{all_below, any_below}
use Rattle.lists.proofs.Laws.{all_below_at, any_below_at}
use Rattle.lists.proofs.Later.{from_on}
use Rattle.contest.specs.Contest.{Strategy, keeper's, play}
use Rattle.contest.specs.Winner.{decided, still}
use Rattle.contest.proofs.Lowest.{chosen, chosen_below, chosen_hit, chosen_miss}

pub play-length : {count : ℕ} (k b : Strategy count) (r : ℕ) → length (play k b r) ≡ r
unfolding play
play-length k b zero = refl
play-length k b (suc r) =
    length-append (play k b r) (cond (keeper's r) (k.pick (play k b r)) (b.pick (play k b r)) ∷ [])
    ∙ omega (arith, play-length k b r)

pub still_step : (won : List ℕ → Bool) (count left : ℕ) (picks : List ℕ)
    → still won count (suc left) picks ≡ decided (keeper's (length picks)) count (λ i. still won count left (picks ++ (i ∷ [])))
unfolding still
still_step won count left picks = refl

pub still_end : (won : List ℕ → Bool) (count : ℕ) (picks : List ℕ) → still won count 0 picks ≡ won picks
unfolding still
still_end won count picks = refl

play_step : {count : ℕ} (k b : Strategy count) (r : ℕ)
    → play k b (suc r) ≡ play k b r ++ (cond (keeper's r) (k.pick (play k b r)) (b.pick (play k b r)) ∷ [])
unfolding play
play_step k b r = refl

module _ (won : List ℕ → Bool) (count : ℕ) (rounds : ℕ) where
  -- With this pick the keeper can still force it.
  abbrev next : List ℕ → ℕ → Bool
  next picks i = still won count (rounds - suc (length picks)) (picks ++ (i ∷ []))

  abbrev best : List ℕ → ℕ
  best picks = chosen count (next picks)

  abbrev worst : List ℕ → ℕ
  worst picks = chosen count (λ i. not (next picks i))

  step : (picks : List ℕ) → length picks < rounds → still won count (rounds - length picks) picks ≡ decided (keeper's (length picks)) count (next picks)
  step picks l =
      let e : rounds - length picks ≡ suc (rounds - suc (length picks)) = omega arith in
      rw e (still_step won count (rounds - suc (length picks)) picks)

  -- A keeper that picks its best keeps what it can force.
  kept : (picks : List ℕ) (k b : ℕ) → length picks < rounds → k ≡ best picks → b < count
      → still won count (rounds - length picks) picks ≡ true
      → next picks (cond (keeper's (length picks)) k b) ≡ true
  unfolding decided
  kept picks k b l ek lb h = go (keeper's (length picks)) (sym (step picks l) ∙ h)
    where
      go : (t : Bool) → cond t (any_below count (next picks)) (all_below count (next picks)) ≡ true → next picks (cond t k b) ≡ true
      go true d = ap (next picks) ek ∙ chosen_hit count (next picks) d
      go false d = all_below_at count (next picks) d b lb

  -- A breaker that picks the keeper's worst keeps it from it.
  barred : (picks : List ℕ) (k b : ℕ) → length picks < rounds → b ≡ worst picks → k < count
      → still won count (rounds - length picks) picks ≡ false
      → next picks (cond (keeper's (length picks)) k b) ≡ false
  unfolding decided
  barred picks k b l eb lk h = go (keeper's (length picks)) (sym (step picks l) ∙ h)
    where
      go : (t : Bool) → cond t (any_below count (next picks)) (all_below count (next picks)) ≡ false → next picks (cond t k b) ≡ false
      go true d = any_below_at count (next picks) d k lk
      go false d = ap (next picks) eb ∙ chosen_miss count (next picks) d

  module _ (k b : Strategy count) where
    after : (r : ℕ) (v : Bool) → next (play k b r) (cond (keeper's (length (play k b r))) (k.pick (play k b r)) (b.pick (play k b r))) ≡ v
        → still won count (rounds - suc r) (play k b (suc r)) ≡ v
    after r v h = rw (play_step k b r) (rw (play-length k b r) at h)

    pub keeper_holds : (from : ℕ) → ((picks : List ℕ) → from ≤ length picks → k.pick picks ≡ best picks)
        → still won count (rounds - from) (play k b from) ≡ true
        → (r : ℕ) → from ≤ r → r ≤ rounds → still won count (rounds - r) (play k b r) ≡ true
    keeper_holds from same base =
        from_on (λ r. r ≤ rounds → still won count (rounds - r) (play k b r) ≡ true) from (λ l. base)
        (λ w l before m.
        after w true
        (kept (play k b w) (k.pick (play k b w)) (b.pick (play k b w)) (omega (arith, play-length k b w))
        (same (play k b w) (omega (arith, play-length k b w))) (b.below (play k b w))
        (ap (λ (x : ℕ). still won count (rounds - x) (play k b w)) (play-length k b w) ∙ before (omega arith))))

    pub breaker_holds : (from : ℕ) → ((picks : List ℕ) → from ≤ length picks → b.pick picks ≡ worst picks)
        → still won count (rounds - from) (play k b from) ≡ false
        → (r : ℕ) → from ≤ r → r ≤ rounds → still won count (rounds - r) (play k b r) ≡ false
    breaker_holds from same base =
        from_on (λ r. r ≤ rounds → still won count (rounds - r) (play k b r) ≡ false) from (λ l. base)
        (λ w l before m.
        after w false
        (barred (play k b w) (k.pick (play k b w)) (b.pick (play k b w)) (omega (arith, play-length k b w))
        (same (play k b w) (omega (arith, play-length k b w))) (k.below (play k b w))
        (ap (λ (x : ℕ). still won count (rounds - x) (play k b w)) (play-length k b w) ∙ before (omega arith))))

  module _ (some : 0 < count) where
    unfoldable pub best_of : Strategy count
    best_of = record { pick = best; below = λ picks. chosen_below count (next picks) some }

    unfoldable pub worst_of : Strategy count
    worst_of = record { pick = worst; below = λ picks. chosen_below count (λ i. not (next picks i)) some }

    -- The best, but for the first pick.
    unfoldable pub best_from : (i : ℕ) → i < count → Strategy count
    best_from i l =
        record {
          pick = λ picks. cond (eqb (length picks) 0) i (best picks);
          below = λ picks. go picks (eqb (length picks) 0);
        }
      where
        go : (picks : List ℕ) (t : Bool) → cond t i (best picks) < count
        go picks true = l
        go picks false = chosen_below count (next picks) some
