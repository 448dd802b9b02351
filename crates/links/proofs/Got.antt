-- What a station has of another's broadcasts. News of s from round w on has at least the number
-- that s had then, so what is had never falls. When s started its present broadcast it had
-- everybody's answer to the one before; so everybody has the present one or the one before, and two
-- behind is never seen.
use mathlib.Core.Bool.{true}
use mathlib.Core.Logic.{◌⊎◌, inl, inr, ⊎_elim, ◌↔◌}
use mathlib.Core.Path.{◌≡◌, refl, sym, ◌∙◌, ap}
use Prim.Native.Nat.{ℕ, zero, suc, ◌+◌, ◌-◌, ◌<◌, ◌≤◌}
use native.Mathlib.Decide.{ℕ_discrete, dec_le}
use native.Mathlib.Omega.{arith}
use Rattle.links.specs.Relay.{Links}
use Rattle.links.specs.Inner.Clock.{news}
use Rattle.links.specs.Inner.Number.{full, start, num, num_of, got}
use Rattle.links.proofs.Clock.{news_own, news_other, news_limit, news_mono}
use Rattle.links.proofs.Number.{full-answer, step, start_limit, num_mono, num_positive, num-start, num_before, start-start, ends-full, num_zero}

-- A version: none, or the state of a round.
abbrev Version : ℕ → Type 0
Version v = (v ≡ 0) ⊎ ((w : ℕ) × (v ≡ suc w))

pub version : (v : ℕ) → Version v
version zero = inl refl
version (suc w) = inr (w, refl)

module _ (L : Links) where
  pub num_of_none : (s v : ℕ) → v ≡ 0 → num_of L s v ≡ 0
  unfolding num_of
  num_of_none s v e = rw e

  pub num_of_some : (s v w : ℕ) → v ≡ suc w → num_of L s v ≡ num L w s
  unfolding num_of
  num_of_some s v w e = rw e

  pub num_of_mono : (s v v' : ℕ) → v ≤ v' → num_of L s v ≤ num_of L s v'
  num_of_mono s v v' h = go (version v) (version v')
    where
      go : Version v → Version v' → num_of L s v ≤ num_of L s v'
      go (inl e) b = omega (arith, num_of_none s v e)
      go (inr a) (inl e) = absurd (omega (arith, a.1))
      go (inr a) (inr b) =
          omega (arith, num_of_some s v a.0 a.1, num_of_some s v' b.0 b.1, num_mono L a.0 b.0 s (omega (arith, a.1, b.1)))

  pub got-num_of : (u r s : ℕ) → got L u r s ≡ num_of L s (news L u r s)
  unfolding got
  got-num_of u r s = refl

  pub got_none : (u r s : ℕ) → news L u r s ≡ 0 → got L u r s ≡ 0
  got_none u r s e = got-num_of u r s ∙ num_of_none s (news L u r s) e

  pub got_some : (u r s w : ℕ) → news L u r s ≡ suc w → got L u r s ≡ num L w s
  got_some u r s w e = got-num_of u r s ∙ num_of_some s (news L u r s) w e

  pub got_own : (u s : ℕ) → got L u s s ≡ num L u s
  got_own u s = got_some u s s u (news_own L u s)

  pub got_mono : (u w r s : ℕ) → u ≤ w → got L u r s ≤ got L w r s
  got_mono u w r s h =
      omega (arith, got-num_of u r s, got-num_of w r s, num_of_mono s (news L u r s) (news L w r s) (news_mono L u w r s h))

  -- Who has news of s from round w on has what s broadcast in round w.
  pub got-news : (u r s w : ℕ) → w < news L u r s → num L w s ≤ got L u r s
  got-news u r s w h =
      let e : news L u r s ≡ suc (news L u r s - 1) = omega arith in
      omega (arith, got_some u r s (news L u r s - 1) e, num_mono L w (news L u r s - 1) s (omega arith))

  -- The number of the present broadcast is had exactly where there is news from its start on.
  pub got-start : (u w r s : ℕ) → w ≤ u → (num L u s ≤ got L w r s) ↔ (start L u s < news L w r s)
  got-start u w r s l = (there, back)
    where
      there : num L u s ≤ got L w r s → start L u s < news L w r s
      there h =
          elim (dec_le (suc (start L u s)) (news L w r s)) [
            | yes k ↦ k
            | no k ↦
                ⊎_elim
                (λ (e : news L w r s ≡ 0). absurd (omega (arith, got_none w r s e, num_positive L u s)))
                (λ (e : (x : ℕ) × (news L w r s ≡ suc x)).
                absurd (omega (arith, got_some w r s e.0 e.1, num_before L u e.0 s (omega (arith, e.1)))))
                (version (news L w r s))
          ]

      back : start L u s < news L w r s → num L u s ≤ got L w r s
      back h = omega (arith, got-news w r s (start L u s) h, num-start L u s)

  -- A broadcast that is not the first started where the one before it ended.
  pub began : (u s a : ℕ) → start L u s ≡ suc a → (num L u s ≡ suc (num L a s)) × (full L (suc a) s (start L a s) ≡ true)
  began u s a e =
      let f : start L (suc a) s ≡ suc a = rw e at (start-start L u s) in
      let g : num L (suc a) s ≡ num L u s = rw e at (num-start L u s) in
      ⊎_elim
      (λ c. (omega arith, sym (ends-full L a s) ∙ c.0))
      (λ c. absurd (omega (arith, start_limit L a s)))
      (step L a s)

  pub first_number : (u s : ℕ) → start L u s ≡ 0 → num L u s ≡ 1
  first_number u s e = sym (num-start L u s) ∙ ap (λ (t : ℕ). num L t s) e ∙ num_zero L s

  -- Everybody has the present broadcast of s or the one before.
  pub got_limit : (u r s : ℕ) → got L u r s ≤ num L u s
  got_limit u r s =
      ⊎_elim
      (λ (e : news L u r s ≡ 0). omega (arith, got_none u r s e))
      (λ (e : (x : ℕ) × (news L u r s ≡ suc x)).
      omega (arith, got_some u r s e.0 e.1, num_mono L e.0 u s (omega (arith, e.1, news_limit L u r s))))
      (version (news L u r s))

  -- What r has of the broadcast before the present one: an answer to it that had come when the
  -- present one began.
  pub previous : (u r s a : ℕ) → r < L.size → start L u s ≡ suc a → start L a s < news L u r s
  previous u r s a l e =
      let b = start_limit L u s in
      let c = start_limit L a s in
      elim (ℕ_discrete r s) [
        | yes q ↦ rw q (omega (arith, news_own L u s))
        | no d ↦
            (let k = full-answer L (suc a) s (start L a s) (began u s a e).1 r l d in
            omega (arith, k.had, k.known, news_limit L (suc a) s r, news_mono L k.then u r s (omega (arith, k.known, news_limit L (suc a) s r))))
      ]

  pub num_limit : (u r s : ℕ) → r < L.size → num L u s ≤ got L u r s + 1
  num_limit u r s l =
      ⊎_elim
      (λ (e : start L u s ≡ 0). omega (arith, first_number u s e))
      (λ (e : (a : ℕ) × (start L u s ≡ suc a)).
      omega (arith, (began u s e.0 e.1).0, got-news u r s (start L e.0 s) (previous u r s e.0 l e.1), num-start L e.0 s))
      (version (start L u s))

  -- In one round at most one new broadcast of a station comes to another.
  pub got_step : (u r s : ℕ) → r < L.size → got L (suc u) r s ≤ got L u r s + 1
  got_step u r s l =
      elim (ℕ_discrete r s) [
        | yes e ↦ rw e (omega (arith, got_own u s, got_own (suc u) s, num_step u s))
        | no d ↦
            ⊎_elim
            (λ (e : news L (suc u) r s ≡ 0). omega (arith, got_none (suc u) r s e))
            (λ (e : (x : ℕ) × (news L (suc u) r s ≡ suc x)).
            omega (
              arith,
              got_some (suc u) r s e.0 e.1,
              num_limit u r s l,
              num_mono L e.0 u s (omega (arith, e.1, news_other L (suc u) r s d)),
            ))
            (version (news L (suc u) r s))
      ]
    where
      num_step : (u s : ℕ) → num L (suc u) s ≤ num L u s + 1
      num_step u s = ⊎_elim (λ e. omega arith) (λ e. omega arith) (step L u s)
