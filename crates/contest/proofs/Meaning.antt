-- What the answer of a contest means. A contest that is not refused is inside its limits; then the
-- recursion decides, and `Forces` turns its decision into a strategy of the winner.
use mathlib.Core.Bool.{Bool, true, false, cond, not, ◌&&◌, true≢false}
use mathlib.Core.List.{List}
use mathlib.Core.Path.{◌≡◌, refl, sym, ap, ◌∙◌}
use Prim.Native.Nat.{ℕ, ◌*◌, ◌/◌, ◌%◌, ◌<◌, ◌≤◌}
use native.Mathlib.Decide.{ℕ_discrete}
use native.Mathlib.Nat.{div-add-mod'}
use native.Mathlib.Omega.{arith}
use borrow.Author.Tests.{eq-eqb, ne_eqb, eqb-true, ltb-false, leb-true, leb-false}
use lib.Dec.{eqb, ltb, leb}
use lib.ListN.{length}
use Rattle.lists.proofs.Laws.{both}
use Rattle.bodies.specs.Refusals.{done, bad_number, bad_contest}
use Rattle.links.proofs.Log.{cut-length}
use Rattle.contest.specs.Answer.{Breaker, Keeper}
use Rattle.contest.specs.Winner.{keeper_wins, first_pick}
use Rattle.contest.specs.Answer.{contest_refusal, sets_of, contest_call, Means}
use Rattle.contest.proofs.Forces.{breaker_can, pick_wins, pick_forces, pick_lowest, no_rounds}

-- the limits of a contest that is not refused
pub record InsideLimits (n s masks rounds : ℕ) : Type 0 where
  pub stations : 1 ≤ n
  pub few : n ≤ 4
  pub own : s < n
  pub whole : masks ≡ masks / n * n
  pub some : 1 ≤ masks / n
  pub few_sets : masks / n ≤ 4
  pub few_rounds : rounds ≤ 6

pub unrefused_inside : (n s masks rounds : ℕ) → contest_refusal n s masks rounds ≡ done → InsideLimits n s masks rounds
unfolding contest_refusal
unrefused_inside n s masks rounds =
    go (leb 1 n && leb n 16) refl (leb n s) refl (ltb 4 n) refl (eqb (masks % n) 0) refl (leb 1 (masks / n) && leb (masks / n) 4) refl
    (ltb 6 rounds) refl
  where
    go : (a : Bool) → (leb 1 n && leb n 16) ≡ a → (b : Bool) → leb n s ≡ b → (d : Bool) → ltb 4 n ≡ d → (e : Bool) → eqb (masks % n) 0 ≡ e
        → (f : Bool) → (leb 1 (masks / n) && leb (masks / n) 4) ≡ f → (g : Bool) → ltb 6 rounds ≡ g
        → cond (not a) bad_number (cond b bad_number (cond d bad_contest (cond (not e) bad_contest (cond (not f) bad_contest (cond g bad_contest done))))) ≡ done
        → InsideLimits n s masks rounds
    go false qa b qb d qd e qe f qf g qg z = absurd (omega arith)
    go true qa true qb d qd e qe f qf g qg z = absurd (omega arith)
    go true qa false qb true qd e qe f qf g qg z = absurd (omega arith)
    go true qa false qb false qd false qe f qf g qg z = absurd (omega arith)
    go true qa false qb false qd true qe false qf g qg z = absurd (omega arith)
    go true qa false qb false qd true qe true qf true qg z = absurd (omega arith)
    go true qa false qb false qd true qe true qf false qg z =
        record {
          stations = leb-true 1 n (both (leb 1 n) (leb n 16) qa).0;
          few = ltb-false 4 n qd;
          own = leb-false n s qb;
          whole = omega (arith, div-add-mod' masks n, eqb-true (masks % n) 0 qe);
          some = leb-true 1 (masks / n) (both (leb 1 (masks / n)) (leb (masks / n) 4) qf).0;
          few_sets = leb-true (masks / n) 4 (both (leb 1 (masks / n)) (leb (masks / n) 4) qf).1;
          few_rounds = ltb-false 6 rounds qg;
        }

-- as many sets as the masks hold
pub sets_length : (n : ℕ) (masks : List ℕ) → length (sets_of n masks) ≡ length masks / n
sets_length n masks = cut-length n (length masks / n) masks

pub sets_some : (n s : ℕ) (masks : List ℕ) (rounds : ℕ) → InsideLimits n s (length masks) rounds → 0 < length (sets_of n masks)
sets_some n s masks rounds inside = omega (arith, sets_length n masks, inside.some)

-- The theorem of the contest: the answer is the refusal that applies; or the breaker can prevent
-- the end; or the keeper can force it, and the pick told is the lowest with which it can.
pub answer_means : (n s : ℕ) (masks : List ℕ) (rounds : ℕ) → Means n s masks rounds (contest_call n s masks rounds)
unfolding contest_call Means
answer_means n s masks rounds =
    elim (ℕ_discrete (contest_refusal n s (length masks) rounds) done) [
      | no d ↦ rw (ne_eqb (contest_refusal n s (length masks) rounds) done d) (refl, d)
      | yes e ↦
          rw (eq-eqb (contest_refusal n s (length masks) rounds) done e)
          (go (unrefused_inside n s (length masks) rounds e) e (keeper_wins n (sets_of n masks) s rounds) refl)
    ]
  where
    go : InsideLimits n s (length masks) rounds → contest_refusal n s (length masks) rounds ≡ done → (b : Bool) → keeper_wins n (sets_of n masks) s rounds ≡ b
        → Means n s masks rounds (cond b (Keeper (first_pick n (sets_of n masks) s rounds)) Breaker)
    go inside e true w =
        elim (ℕ_discrete rounds 0) [
          | yes z ↦
              absurd (true≢false (sym w ∙ ap (λ (r : ℕ). keeper_wins n (sets_of n masks) s r) z ∙ no_rounds n (sets_of n masks) s))
          | no d ↦
              (let some = sets_some n s masks rounds inside in
              let room : 0 < rounds = omega arith in
              let l = (pick_wins n (sets_of n masks) s rounds some room).1 w in (
                e,
                record {
                  can = pick_forces n (sets_of n masks) s rounds some room l;
                  least = pick_lowest n (sets_of n masks) s rounds some room;
                },
              ))
        ]
    go inside e false w = (e, breaker_can n (sets_of n masks) s rounds (sets_some n s masks rounds inside) w)
