-- Broadcast numbers and starts. A number rises by one exactly where a broadcast ends, and the start
-- is the round of the last rise; so a state of s has the present number exactly from the present
-- start on. When s went to its present number each other station had answered the one before, so
-- everybody holds the present or the previous broadcast of everybody.
use mathlib.Core.Bool.{Bool, true, false, ◌||◌, false≢true}
use mathlib.Core.Logic.{◌⊎◌, inl, inr, ⊎_elim}
use mathlib.Core.Path.{◌≡◌, refl}
use Prim.Native.Nat.{ℕ, zero, suc, ◌<◌, ◌≤◌}
use native.Mathlib.Decide.{ℕ_discrete, dec_le}
use native.Mathlib.Nat.{le_refl}
use native.Mathlib.Omega.{arith}
use borrow.Author.Tests.{eq-eqb, ne_eqb, leb-true, le-leb}
use lib.Dec.{eqb}
use Rattle.lists.proofs.Laws.{all_below_at, all_below_make}
use Rattle.lists.proofs.Later.{from_on}
use Rattle.links.specs.Relay.{Links}
use Rattle.links.specs.Inner.Clock.{news}
use Rattle.links.specs.Inner.Number.{answers, full, start, ends, num}

module _ (L : Links) where
  -- An answer is news of a station in which it has news of s from after round t.
  pub record Answer (u s t r : ℕ) : Type 0 where
    pub then : ℕ
    pub known : news L u s r ≡ suc then
    pub had : t < news L then r s

  pub answers_out : (s t r v : ℕ) → answers L s t r v ≡ true → (w : ℕ) × (v ≡ suc w) × (t < news L w r s)
  unfolding answers
  answers_out s t r zero e = absurd (false≢true e)
  answers_out s t r (suc w) e = (w, refl, leb-true (suc t) (news L w r s) e)

  pub answers_in : (s t r v w : ℕ) → v ≡ suc w → t < news L w r s → answers L s t r v ≡ true
  unfolding answers
  answers_in s t r v w e h = rw e (le-leb (suc t) (news L w r s) h)

  pub full-answer : (u s t : ℕ) → full L u s t ≡ true → (r : ℕ) → r < L.size → (r ≡ s → ⊥) → Answer u s t r
  unfolding full
  full-answer u s t e r l d =
      let h = all_below_at L.size (λ i. eqb i s || answers L s t i (news L u s i)) e r l in
      let w = answers_out s t r (news L u s r) (rw (ne_eqb r s d) at h) in
      record { then = w.0; known = w.1; had = w.2 }

  pub answer-full : (u s t : ℕ) → ((r : ℕ) → r < L.size → (r ≡ s → ⊥) → Answer u s t r) → full L u s t ≡ true
  unfolding full
  answer-full u s t h = all_below_make L.size (λ i. eqb i s || answers L s t i (news L u s i)) (λ r l. go r l (ℕ_discrete r s))
    where
      go : (r : ℕ) → r < L.size → Dec (r ≡ s) → (eqb r s || answers L s t r (news L u s r)) ≡ true
      go r l (yes e) = rw (eq-eqb r s e)
      go r l (no d) = let a = h r l d in rw (ne_eqb r s d) (answers_in s t r (news L u s r) a.then a.known a.had)

  -- One round.
  pub start-ends : (u s : ℕ) → ends L (suc u) s ≡ true → start L (suc u) s ≡ suc u
  unfolding start ends
  start-ends u s e = rw e

  pub start_stays : (u s : ℕ) → ends L (suc u) s ≡ false → start L (suc u) s ≡ start L u s
  unfolding start ends
  start_stays u s e = rw e

  pub num-ends : (u s : ℕ) → ends L (suc u) s ≡ true → num L (suc u) s ≡ suc (num L u s)
  unfolding num
  num-ends u s e = rw e

  pub num_stays : (u s : ℕ) → ends L (suc u) s ≡ false → num L (suc u) s ≡ num L u s
  unfolding num
  num_stays u s e = rw e

  pub ends-full : (u s : ℕ) → ends L (suc u) s ≡ full L (suc u) s (start L u s)
  unfolding ends
  ends-full u s = refl

  pub ends_zero : (s : ℕ) → ends L 0 s ≡ false
  unfolding ends
  ends_zero s = refl

  pub num_zero : (s : ℕ) → num L 0 s ≡ 1
  unfolding num
  num_zero s = refl

  pub start_zero : (s : ℕ) → start L 0 s ≡ 0
  unfolding start
  start_zero s = refl

  -- A round either ends a broadcast or leaves number and start.
  abbrev Step : ℕ → ℕ → Type 0
  Step u s =
      ((ends L (suc u) s ≡ true) × (start L (suc u) s ≡ suc u) × (num L (suc u) s ≡ suc (num L u s)))
      ⊎ ((ends L (suc u) s ≡ false) × (start L (suc u) s ≡ start L u s) × (num L (suc u) s ≡ num L u s))

  pub step : (u s : ℕ) → Step u s
  step u s = go (ends L (suc u) s) refl
    where
      go : (b : Bool) → ends L (suc u) s ≡ b → Step u s
      go true e = inl (e, start-ends u s e, num-ends u s e)
      go false e = inr (e, start_stays u s e, num_stays u s e)

  -- Numbers and starts rise with the rounds.
  pub start_limit : (u s : ℕ) → start L u s ≤ u
  start_limit zero s = omega (arith, start_zero s)
  start_limit (suc u) s = ⊎_elim (λ e. omega arith) (λ e. omega (arith, start_limit u s)) (step u s)

  pub num_mono : (u w s : ℕ) → u ≤ w → num L u s ≤ num L w s
  num_mono u w s =
      from_on (λ v. num L u s ≤ num L v s) u (le_refl (num L u s)) (λ v l h. ⊎_elim (λ e. omega arith) (λ e. omega arith) (step v s)) w

  pub num_positive : (u s : ℕ) → 1 ≤ num L u s
  num_positive u s = omega (arith, num_zero s, num_mono 0 u s (omega arith))

  -- Of the states of s up to round u, those from the start on have the present number, and no
  -- earlier one has.
  pub num-start : (u s : ℕ) → num L (start L u s) s ≡ num L u s
  num-start zero s = rw (start_zero s)
  num-start (suc u) s = ⊎_elim (λ e. rw e.1) (λ e. rw (e.1, e.2) (num-start u s)) (step u s)

  pub num_before : (u w s : ℕ) → w < start L u s → num L w s < num L u s
  num_before zero w s h = absurd (omega (arith, start_zero s))
  num_before (suc u) w s h =
      ⊎_elim (λ e. omega (arith, num_mono w u s (omega arith))) (λ e. omega (arith, num_before u w s (omega arith))) (step u s)

  pub start-start : (u s : ℕ) → start L (start L u s) s ≡ start L u s
  start-start u s =
      let l = start_limit (start L u s) s in
      elim (dec_le (start L u s) (start L (start L u s) s)) [
        | yes h ↦ omega arith
        | no h ↦
            absurd (omega (arith, num_before u (start L (start L u s) s) s (omega arith), num-start (start L u s) s, num-start u s))
      ]

  -- The same number has the same start.
  pub same_start : (u w s : ℕ) → num L u s ≡ num L w s → start L u s ≡ start L w s
  same_start u w s e =
      elim (dec_le (start L w s) (start L u s)) [
        | yes h ↦
            elim (dec_le (start L u s) (start L w s)) [
              | yes k ↦ omega arith
              | no k ↦ absurd (omega (arith, num_before u (start L w s) s (omega arith), num-start w s))
            ]
        | no h ↦ absurd (omega (arith, num_before w (start L u s) s (omega arith), num-start u s))
      ]
