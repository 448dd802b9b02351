-- The sets without a history. News rises with time, so `answers` of the later of two versions is
-- the disjunction of the two: a round unites sets. The invariant is `knows` itself, and
-- `knows_step` is the round.
use mathlib.Core.Bool.{Bool, true, false, cond, ◌||◌, or-false}
use mathlib.Core.Path.{◌≡◌, refl, sym, ◌∙◌, ap}
use Prim.Native.Nat.{ℕ, zero, suc, max, ◌-◌, ◌≤◌}
use native.Mathlib.Decide.{ℕ_discrete, dec_le}
use native.Mathlib.Omega.{arith}
use borrow.Author.Tests.{eq-eqb, ne_eqb, le-leb, lt-leb, leb-true}
use lib.Dec.{eqb, leb}
use Rattle.lists.specs.Below.{all_below}
use Rattle.lists.proofs.Laws.{all_below_ext}
use Rattle.links.specs.Relay.{Links}
use Rattle.links.specs.Inner.Clock.{latest, news, hearing}
use Rattle.links.specs.Inner.Number.{answers, full, start, ends}
use Rattle.links.specs.Inner.Know.{knows, either, brought, learnt, newly}
use Rattle.links.proofs.Clock.{news_own, news_other, news_limit, news_keeps, news_mono}
use Rattle.links.proofs.Number.{answers_out, answers_in, start-ends, start_stays, ends-full, start_limit, start_zero}
use Rattle.links.proofs.Hearing.{hearing_all, hearing_own}

absorbed : (x y : Bool) → (x ≡ true → y ≡ true) → (x || y) ≡ y
absorbed true y h = sym (h refl)
absorbed false y h = refl

absorbs : (x y : Bool) → (y ≡ true → x ≡ true) → (x || y) ≡ x
absorbs true y h = refl
absorbs false true h = sym (h refl)
absorbs false false h = refl

not_true : (b : Bool) → (b ≡ true → ⊥) → b ≡ false
not_true true h = absurd (h refl)
not_true false h = refl

pub either_true : (n : ℕ) (heard f : ℕ → Bool) → either n heard f true ≡ true
unfolding either
either_true zero heard f = refl
either_true (suc n) heard f = rw (either_true n heard f) (go (heard n))
  where
    go : (b : Bool) → cond b true true ≡ true
    go true = refl
    go false = refl

module _ (L : Links) where
  module _ (s t r : ℕ) where
    answers_mono : (a b : ℕ) → a ≤ b → answers L s t r a ≡ true → answers L s t r b ≡ true
    answers_mono a b l h =
        let o = answers_out L s t r a h in
        answers_in L s t r b (b - 1) (omega (arith, o.1)) (omega (arith, o.2, news_mono L o.0 (b - 1) r s (omega (arith, o.1))))

    pub answers-max : (a b : ℕ) → answers L s t r (max a b) ≡ (answers L s t r a || answers L s t r b)
    answers-max a b =
        elim (dec_le a b) [
          | yes l ↦
              (let e : max a b ≡ b = omega arith in
              rw e (sym (absorbed (answers L s t r a) (answers L s t r b) (answers_mono a b l))))
          | no g ↦
              (let e : max a b ≡ a = omega arith in
              rw e (sym (absorbs (answers L s t r a) (answers L s t r b) (answers_mono b a (omega arith)))))
        ]

    pub answers-latest : (n : ℕ) (heard : ℕ → Bool) (f : ℕ → ℕ) (x : ℕ)
        → answers L s t r (latest n heard f x) ≡ either n heard (λ j. answers L s t r (f j)) (answers L s t r x)
    unfolding latest either
    answers-latest zero heard f x = refl
    answers-latest (suc n) heard f x = go (heard n) (answers-latest n heard f x)
      where
        go : (b : Bool)
            → answers L s t r (latest n heard f x) ≡ either n heard (λ j. answers L s t r (f j)) (answers L s t r x)
            → answers L s t r (cond b (max (latest n heard f x) (f n)) (latest n heard f x))
            ≡ cond b (either n heard (λ j. answers L s t r (f j)) (answers L s t r x) || answers L s t r (f n))
            (either n heard (λ j. answers L s t r (f j)) (answers L s t r x))
        go true e = answers-max (latest n heard f x) (f n) ∙ ap (λ (b : Bool). b || answers L s t r (f n)) e
        go false e = e

  answers_some : (s t r w : ℕ) → answers L s t r (suc w) ≡ leb (suc t) (news L w r s)
  unfolding answers
  answers_some s t r w = refl

  -- Of s itself: is the version one from the start on?
  answers_own : (s t v : ℕ) → answers L s t s v ≡ leb (suc t) v
  unfolding answers
  answers_own s t zero = sym (lt-leb (suc t) 0 (omega arith))
  answers_own s t (suc w) = rw (news_own L w s)

  knows-answers : (u s p r : ℕ) → knows L u s p r ≡ answers L s (start L u s) r (news L u p r)
  unfolding knows
  knows-answers u s p r = refl

  brought-hearing : (u s p r : ℕ) → brought L u s p r ≡ answers L s (start L u s) r (hearing L u p r L.size)
  unfolding brought knows hearing
  brought-hearing u s p r =
      sym (answers-latest s (start L u s) r L.size (λ j. L.hears (suc u) p j) (λ j. news L u j r) (news L u p r))

  -- A round before its end is looked at.
  pub learnt-answers : (u s p r : ℕ) → learnt L u s p r ≡ answers L s (start L u s) r (news L (suc u) p r)
  unfolding learnt
  learnt-answers u s p r =
      elim (ℕ_discrete p r) [
        | no d ↦
            rw (ne_eqb p r d)
            (or-false (brought L u s p r) ∙ brought-hearing u s p r ∙ ap (λ (v : ℕ). answers L s (start L u s) r v) (hearing_all L u p r d))
        | yes e ↦ rw (eq-eqb p r e) (rw (sym e) (own p))
      ]
    where
      t : ℕ
      t = start L u s

      own : (p : ℕ) → (brought L u s p p || brought L u s p s) ≡ answers L s (start L u s) p (news L (suc u) p p)
      own p =
          let here = brought-hearing u s p p ∙ ap (λ (v : ℕ). answers L s (start L u s) p v) (hearing_own L u p L.size) ∙ answers_some s (start L u s) p u in
          let goal = ap (λ (v : ℕ). answers L s (start L u s) p v) (news_own L (suc u) p) ∙ answers_some s (start L u s) p (suc u) in
          elim (ℕ_discrete p s) [
            | yes e ↦
                (let x : brought L u s p p ≡ true = here ∙ le-leb (suc (start L u s)) (news L u p s) (omega (arith, start_limit L u s, news_own L u s, ap (λ (i : ℕ). news L u i s) e)) in
                let y = goal ∙ le-leb (suc (start L u s)) (news L (suc u) p s) (omega (arith, start_limit L u s, news_own L (suc u) s, ap (λ (i : ℕ). news L (suc u) i s) e)) in
                rw x (sym y))
            | no d ↦
                (let x : brought L u s p s ≡ leb (suc (start L u s)) (news L (suc u) p s) =
                brought-hearing u s p s ∙ answers_own s (start L u s) (hearing L u p s L.size) ∙ ap (λ (v : ℕ). leb (suc (start L u s)) v) (hearing_all L u p s d) in
                absorbed (brought L u s p p) (brought L u s p s)
                (λ h.
                x ∙ le-leb (suc (start L u s)) (news L (suc u) p s) (omega (arith, leb-true (suc (start L u s)) (news L u p s) (sym here ∙ h), news_keeps L u p s)))
                ∙ x ∙ sym goal)
          ]

  -- What is known in the round of a start.
  begun : (u s p r : ℕ) → answers L s u r (news L u p r) ≡ newly s p r
  unfolding newly
  begun u s p r =
      elim (ℕ_discrete p s) [
        | no d ↦ rw (ne_eqb p s d) (not_true (answers L s u r (news L u p r)) (λ h. none h (λ a. d a)))
        | yes e ↦
            elim (ℕ_discrete r s) [
              | no d ↦ rw (eq-eqb p s e, ne_eqb r s d) (not_true (answers L s u r (news L u p r)) (λ h. other h d))
              | yes f ↦
                  rw (eq-eqb p s e, eq-eqb r s f)
                  (rw (e, f) (answers_own s u (news L u s s) ∙ le-leb (suc u) (news L u s s) (omega (arith, news_own L u s))))
            ]
      ]
    where
      other : answers L s u r (news L u p r) ≡ true → (r ≡ s → ⊥) → ⊥
      other h d =
          let o = answers_out L s u r (news L u p r) h in
          omega (arith, o.1, o.2, news_limit L u p r, news_other L o.0 r s d)

      none : answers L s u r (news L u p r) ≡ true → (p ≡ s → ⊥) → ⊥
      none h d =
          elim (ℕ_discrete r s) [
            | no k ↦ other h k
            | yes k ↦
                (let o = answers_out L s u r (news L u p r) h in
                omega (arith, o.1, o.2, news_limit L o.0 r s, news_other L u p s d, ap (λ (i : ℕ). news L u p i) k))
          ]

  -- A round ends the broadcast of s exactly if all are in the set of s at s.
  pub ends-learnt : (u s : ℕ) → ends L (suc u) s ≡ all_below L.size (λ r. learnt L u s s r)
  unfolding full
  ends-learnt u s =
      ends-full L u s
      ∙ all_below_ext L.size (λ r. eqb r s || answers L s (start L u s) r (news L (suc u) s r)) (λ r. learnt L u s s r)
      (λ r l. one r ∙ sym (learnt-answers u s s r))
    where
      one : (r : ℕ) → (eqb r s || answers L s (start L u s) r (news L (suc u) s r)) ≡ answers L s (start L u s) r (news L (suc u) s r)
      one r =
          elim (ℕ_discrete r s) [
            | no d ↦ rw (ne_eqb r s d)
            | yes e ↦
                rw (eq-eqb r s e)
                (rw e
                (sym (answers_own s (start L u s) (news L (suc u) s s)
                ∙ le-leb (suc (start L u s)) (news L (suc u) s s) (omega (arith, start_limit L u s, news_own L (suc u) s)))))
          ]

  -- The whole of it. Before round 1, and a round.
  pub knows_zero : (s p r : ℕ) → knows L 0 s p r ≡ newly s p r
  knows_zero s p r = knows-answers 0 s p r ∙ ap (λ (t : ℕ). answers L s t r (news L 0 p r)) (start_zero L s) ∙ begun 0 s p r

  pub knows_step : (u s p r : ℕ)
      → knows L (suc u) s p r ≡ cond (all_below L.size (λ i. learnt L u s s i)) (newly s p r) (learnt L u s p r)
  knows_step u s p r = go (ends L (suc u) s) refl
    where
      go : (b : Bool) → ends L (suc u) s ≡ b
          → knows L (suc u) s p r ≡ cond (all_below L.size (λ i. learnt L u s s i)) (newly s p r) (learnt L u s p r)
      go true e =
          let a : all_below L.size (λ i. learnt L u s s i) ≡ true = sym (ends-learnt u s) ∙ e in
          rw a
          (knows-answers (suc u) s p r ∙ ap (λ (t : ℕ). answers L s t r (news L (suc u) p r)) (start-ends L u s e) ∙ begun (suc u) s p r)
      go false e =
          let a : all_below L.size (λ i. learnt L u s s i) ≡ false = sym (ends-learnt u s) ∙ e in
          rw a
          (knows-answers (suc u) s p r
          ∙ ap (λ (t : ℕ). answers L s t r (news L (suc u) p r)) (start_stays L u s e)
          ∙ sym (learnt-answers u s p r))
