-- Exactly one of the two can force the result, and the recursion tells which; and the lowest first
-- pick.
use mathlib.Core.Bool.{Bool, true, false, true≢false}
use mathlib.Core.List.{List, [], ◌∷◌}
use mathlib.Core.Logic.{◌⊎◌, inl, inr, ⊎_elim, ◌↔◌}
use mathlib.Core.Path.{◌≡◌, refl, sym, ap, ◌∙◌}
use Prim.Native.Nat.{ℕ, zero, suc, ◌-◌, ◌<◌, ◌≤◌}
use native.Mathlib.Decide.{dec_le}
use native.Mathlib.Nat.{sub-zero}
use native.Mathlib.Omega.{arith}
use borrow.Author.Tests.{lt-ltb, le-ltb, ltb-true, ne_eqb}
use lib.ListN.{length}
use Rattle.lists.specs.Below.{any_below}
use Rattle.lists.proofs.Laws.{any_below_hit, any_below_none}
use Rattle.links.specs.Relay.{Links, of_log}
use Rattle.links.specs.EndRule.{EndsIn, at_first, after}
use Rattle.links.specs.Inner.Number.{start, ends, num}
use Rattle.links.proofs.Number.{step, num_mono, num_positive, num_zero, start_zero, same_start}
use Rattle.links.proofs.EndRule.{ends_rule, num-starts, alone}
use Rattle.contest.specs.Contest.{log_of, EndsFirst, Strategy, play, KeeperForces, KeeperForcesBy, BreakerForces}
use Rattle.contest.specs.Winner.{decided, still, won, keeper_wins, first_pick}
use Rattle.contest.proofs.Lowest.{Lowest, lowest_is}
use Rattle.contest.proofs.Forcing.{play-length, still_step, still_end, keeper_holds, breaker_holds, best_of, worst_of, best_from}

-- Beyond the first broadcast: it has ended.
beyond : (L : Links) (u s : ℕ) → 1 < num L u s → (v : ℕ) × (v ≤ u) × EndsIn L s 0 v
beyond L zero s h = absurd (omega (arith, num_zero L s))
beyond L (suc u) s h =
    ⊎_elim
    (λ (c : (ends L (suc u) s ≡ true) × (start L (suc u) s ≡ suc u) × (num L (suc u) s ≡ suc (num L u s))).
    elim (dec_le 2 (num L u s)) [
      | yes l ↦ (let b = beyond L u s l in (b.0, omega (arith, b.1), b.2))
      | no g ↦
          (let one : num L u s ≡ num L 0 s = omega (arith, num_positive L u s, num_zero L s) in
          let z : start L u s ≡ 0 = same_start L u 0 s one ∙ start_zero L s in
          (suc u, omega arith, rw z at ((ends_rule L u s).0 c.0)))
    ])
    (λ (c : (ends L (suc u) s ≡ false) × (start L (suc u) s ≡ start L u s) × (num L (suc u) s ≡ num L u s)).
    let b = beyond L u s (omega arith) in (b.0, omega (arith, b.1), b.2))
    (step L u s)

pub won_ends : (n : ℕ) (sets : List (List ℕ)) (s : ℕ) (picks : List ℕ) → (won n sets s picks ≡ true) ↔ EndsFirst n sets s picks
unfolding won
won_ends n sets s picks =
    let L = of_log n (log_of sets picks) in (
      λ h.
          (let b = beyond L (length picks) s (ltb-true 1 (num L (length picks) s) h) in
          record { round = b.0; within = b.1; ends_in = b.2 }),
      λ e.
          lt-ltb 1 (num L (length picks) s)
          (omega (arith, (num-starts L s 2 e.round (after at_first e.ends_in)).0, num_mono L e.round (length picks) s e.within)),
    )

apart : (b : Bool) → b ≡ true → b ≡ false → ⊥
apart b e f = true≢false (sym e ∙ f)

decide : (b : Bool) → (b ≡ true) ⊎ (b ≡ false)
decide true = inl refl
decide false = inr refl

module _ (n : ℕ) (sets : List (List ℕ)) (s rounds : ℕ) where
  abbrev W : ℕ → List ℕ → Bool
  W left picks = still (won n sets s) (length sets) left picks

  last : (picks : List ℕ) (v : Bool) → W (rounds - rounds) picks ≡ v → won n sets s picks ≡ v
  last picks v h =
      let e : rounds - rounds ≡ 0 = omega arith in
      sym (still_end (won n sets s) (length sets) picks) ∙ (rw e at h)

  -- Never both.
  pub never_both : KeeperForces n sets s rounds → BreakerForces n sets s rounds → ⊥
  never_both k b = b.forces k.keeper (k.forces b.breaker)

  module _ (some : 0 < length sets) where
    pub keeper_can : keeper_wins n sets s rounds ≡ true → KeeperForces n sets s rounds
    unfolding keeper_wins play best_of
    keeper_can h =
        let k = best_of (won n sets s) (length sets) rounds some in
        record {
          keeper = k;
          forces =
              λ b.
              (won_ends n sets s (play k b rounds)).0
              (last (play k b rounds) true
              (keeper_holds (won n sets s) (length sets) rounds k b 0 (λ picks l. refl) (rw (sub-zero rounds) h) rounds (omega arith) (omega arith)));
        }

    pub breaker_can : keeper_wins n sets s rounds ≡ false → BreakerForces n sets s rounds
    unfolding keeper_wins play worst_of
    breaker_can h =
        let b = worst_of (won n sets s) (length sets) rounds some in
        record {
          breaker = b;
          forces =
              λ k e.
              apart (won n sets s (play k b rounds)) ((won_ends n sets s (play k b rounds)).1 e)
              (last (play k b rounds) false
              (breaker_holds (won n sets s) (length sets) rounds k b 0 (λ picks l. refl) (rw (sub-zero rounds) h) rounds (omega arith) (omega arith)));
        }

    -- Exactly one, and which.
    pub one_can : KeeperForces n sets s rounds ⊎ BreakerForces n sets s rounds
    one_can = ⊎_elim (λ h. inl (keeper_can h)) (λ h. inr (breaker_can h)) (decide (keeper_wins n sets s rounds))

    pub keeper_wins_lem : (keeper_wins n sets s rounds ≡ true) ↔ KeeperForces n sets s rounds
    keeper_wins_lem =
        (keeper_can, λ k. ⊎_elim (λ h. h) (λ h. absurd (never_both k (breaker_can h))) (decide (keeper_wins n sets s rounds)))

    pub breaker_wins : (keeper_wins n sets s rounds ≡ false) ↔ BreakerForces n sets s rounds
    breaker_wins =
        (breaker_can, λ b. ⊎_elim (λ h. absurd (never_both (keeper_can h) b)) (λ h. h) (decide (keeper_wins n sets s rounds)))

    -- The keeper's first pick.
    module _ (room : 0 < rounds) where
      pub by_pick : (i : ℕ) → i < length sets → W (rounds - 1) (i ∷ []) ≡ true → KeeperForcesBy n sets s rounds i
      unfolding play best_from
      by_pick i l h =
          let k = best_from (won n sets s) (length sets) rounds some i l in
          record {
            way =
                record {
                  keeper = k;
                  forces =
                      λ b.
                      (won_ends n sets s (play k b rounds)).0
                      (last (play k b rounds) true
                      (keeper_holds (won n sets s) (length sets) rounds k b 1 (λ picks l. rw (ne_eqb (length picks) 0 (λ e. omega arith))) h rounds (omega arith) (omega arith)));
                };
            first = refl;
          }

      pub pick_by : (i : ℕ) → KeeperForcesBy n sets s rounds i → W (rounds - 1) (i ∷ []) ≡ true
      unfolding play worst_of
      pick_by i f =
          let k = f.way.keeper in
          let b = worst_of (won n sets s) (length sets) rounds some in
          ⊎_elim
          (λ h. h)
          (λ (h : W (rounds - 1) (i ∷ []) ≡ false).
          absurd (apart (won n sets s (play k b rounds)) ((won_ends n sets s (play k b rounds)).1 (f.way.forces b))
          (last (play k b rounds) false
          (breaker_holds (won n sets s) (length sets) rounds k b 1 (λ picks l. refl) (rw f.first h) rounds (omega arith) (omega arith)))))
          (decide (W (rounds - 1) (i ∷ [])))

      wins_any : keeper_wins n sets s rounds ≡ any_below (length sets) (λ i. W (rounds - 1) (i ∷ []))
      unfolding keeper_wins decided
      wins_any =
          let e : rounds ≡ suc (rounds - 1) = omega arith in
          ap (λ (r : ℕ). W r []) e ∙ still_step (won n sets s) (length sets) (rounds - 1) []

      found : Lowest (length sets) 0 (λ i. W (rounds - 1) (i ∷ [])) (first_pick n sets s rounds)
      unfolding first_pick
      found = lowest_is (length sets) 0 (λ i. W (rounds - 1) (i ∷ []))

      -- A pick is given exactly if the keeper can force it.
      pub pick_wins : (first_pick n sets s rounds < length sets) ↔ (keeper_wins n sets s rounds ≡ true)
      pick_wins = (
        λ l. wins_any ∙ any_below_hit (length sets) (λ i. W (rounds - 1) (i ∷ [])) (first_pick n sets s rounds) l (found.hit (omega arith)),
        λ h.
            elim (dec_le (suc (first_pick n sets s rounds)) (length sets)) [
              | yes l ↦ l
              | no g ↦
                  absurd (apart (keeper_wins n sets s rounds) h
                  (wins_any ∙ any_below_none (length sets) (λ i. W (rounds - 1) (i ∷ [])) (λ j l. found.before j (omega arith) (omega arith))))
            ],
      )

      -- It is the lowest from which the keeper still can.
      pub pick_forces : first_pick n sets s rounds < length sets → KeeperForcesBy n sets s rounds (first_pick n sets s rounds)
      pick_forces l = by_pick (first_pick n sets s rounds) l (found.hit (omega arith))

      pub pick_lowest : (i : ℕ) → KeeperForcesBy n sets s rounds i → first_pick n sets s rounds ≤ i
      pick_lowest i f =
          elim (dec_le (first_pick n sets s rounds) i) [
            | yes l ↦ l
            | no g ↦ absurd (apart (W (rounds - 1) (i ∷ [])) (pick_by i f) (found.before i (omega arith) (omega arith)))
          ]

-- With no rounds the breaker wins.
pub no_rounds : (n : ℕ) (sets : List (List ℕ)) (s : ℕ) → keeper_wins n sets s 0 ≡ false
unfolding keeper_wins won
no_rounds n sets s = still_end (won n sets s) (length sets) [] ∙ le-ltb 1 (num (of_log n (log_of sets [])) 0 s) (omega (arith, num_zero (of_log n (log_of sets [])) s))

-- A station alone ends its broadcast in round 1, whatever is picked.
pub alone_wins : (sets : List (List ℕ)) (s rounds : ℕ) → s < 1 → 0 < rounds → (keeper : Strategy (length sets)) → KeeperForcesBy 1 sets s rounds (keeper.pick [])
alone_wins sets s rounds l room keeper =
    record {
      way =
          record {
            keeper = keeper;
            forces =
                λ b.
                record {
                  round = 1;
                  within = omega (arith, play-length keeper b rounds);
                  ends_in = alone (of_log 1 (log_of sets (play keeper b rounds))) s 0 refl l;
                };
          };
      first = refl;
    }
