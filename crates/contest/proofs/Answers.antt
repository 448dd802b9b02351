-- Each return of the call is its definition. The first pick found over the sets is the lowest of
-- the contest over plays, since the sets after a pick stand for its play (`Bridge`).
use mathlib.Core.Bool.{Bool, true, false, cond}
use mathlib.Core.List.{List, [], ◌∷◌}
use mathlib.Core.Path.{◌≡◌, refl, sym, ap, ◌∙◌}
use Prim.Native.Nat.{ℕ, ◌-◌, ◌*◌, ◌/◌, ◌<◌, ◌≤◌}
use native.Mathlib.Omega.{arith}
use borrow.Author.Tests.{eq-eqb, ne_eqb}
use lib.ListN.{length}
use Rattle.bodies.specs.Refusals.{done}
use Rattle.contest.specs.Answer.{Refused, Breaker, Keeper}
use Rattle.contest.specs.Winner.{still, lowest, won, keeper_wins, first_pick}
use Rattle.contest.specs.Answer.{contest_refusal, sets_of, contest_call}
use Rattle.contest.proofs.Lowest.{lowest_ext}
use Rattle.contest.proofs.Forces.{pick_wins, no_rounds}
use Rattle.contest.proofs.Meaning.{InsideLimits, sets_length, sets_some}
use Rattle.contest.specs.Inner.KnownSets.{after, mask_of, begun, opening}
use Rattle.contest.proofs.Bridge.{behind_step, begun-bits, begun_won, wins_still}

module _ (n s : ℕ) (masks : List ℕ) (rounds : ℕ) (inside : InsideLimits n s (length masks) rounds) where
  abbrev count : ℕ
  count = length masks / n

  opens : (i : ℕ) → i < count → opening n s count masks (rounds - 1) i ≡ still (won n (sets_of n masks) s) count (rounds - 1) (i ∷ [])
  unfolding opening
  opens i l =
      wins_still n s count masks inside.few inside.own inside.some (rounds - 1) (i ∷ []) (after n s (mask_of masks (i * n)) (begun s))
      (behind_step n s count masks inside.few inside.own [] i l (begun s)
      (begun-bits n s count masks inside.few inside.own) (begun_won n s count masks inside.few inside.own))

  pick_is : lowest count 0 (opening n s count masks (rounds - 1)) ≡ first_pick n (sets_of n masks) s rounds
  unfolding first_pick
  pick_is =
      lowest_ext count 0 (opening n s count masks (rounds - 1)) (λ i. still (won n (sets_of n masks) s) count (rounds - 1) (i ∷ []))
      (λ i l m. opens i (omega arith))
      ∙ ap (λ (k : ℕ). lowest k 0 (λ i. still (won n (sets_of n masks) s) k (rounds - 1) (i ∷ []))) (sym (sets_length n masks))

  module _ (free : contest_refusal n s (length masks) rounds ≡ done) where
    pub answer_none : rounds ≡ 0 → Breaker ≡ contest_call n s masks rounds
    unfolding contest_call
    answer_none z =
        let e : keeper_wins n (sets_of n masks) s rounds ≡ false = ap (λ (r : ℕ). keeper_wins n (sets_of n masks) s r) z ∙ no_rounds n (sets_of n masks) s in
        rw (eq-eqb (contest_refusal n s (length masks) rounds) done free, e)

    module _ (pick : ℕ) (room : 0 < rounds) (e : pick ≡ lowest count 0 (opening n s count masks (rounds - 1))) where
      pub answer_keeper : pick < count → Keeper pick ≡ contest_call n s masks rounds
      unfolding contest_call
      answer_keeper l =
          let q : pick ≡ first_pick n (sets_of n masks) s rounds = e ∙ pick_is in
          let w : keeper_wins n (sets_of n masks) s rounds ≡ true =
          (pick_wins n (sets_of n masks) s rounds (sets_some n s masks rounds inside) room).0 (omega (arith, sets_length n masks)) in
          rw (eq-eqb (contest_refusal n s (length masks) rounds) done free, w, q)

      pub answer_breaker : count ≤ pick → Breaker ≡ contest_call n s masks rounds
      unfolding contest_call
      answer_breaker l =
          rw (eq-eqb (contest_refusal n s (length masks) rounds) done free) (go (keeper_wins n (sets_of n masks) s rounds) refl (e ∙ pick_is))
        where
          go : (b : Bool) → keeper_wins n (sets_of n masks) s rounds ≡ b → pick ≡ first_pick n (sets_of n masks) s rounds
              → Breaker ≡ cond b (Keeper (first_pick n (sets_of n masks) s rounds)) Breaker
          go true w q =
              absurd (omega (arith, (pick_wins n (sets_of n masks) s rounds (sets_some n s masks rounds inside) room).1 w, sets_length n masks))
          go false w q = refl

pub answer_refused : (n s : ℕ) (masks : List ℕ) (rounds number : ℕ) → number ≡ contest_refusal n s (length masks) rounds → (number ≡ 0 → ⊥)
    → Refused number ≡ contest_call n s masks rounds
unfolding contest_call
answer_refused n s masks rounds number e d =
    rw (ne_eqb (contest_refusal n s (length masks) rounds) done (λ z. d (e ∙ z))) (ap Refused e)
