-- Clocks over rounds. Two facts about one round carry everything: where news comes from (it was
-- there, or a heard station had it), and that what was there, or what a heard station had, is not
-- lost. The laws of clocks are inductions over rounds from these two, and the definition is not
-- opened again.
use mathlib.Core.Bool.{Bool, true, false, cond, false≢true}
use mathlib.Core.Logic.{◌⊎◌, inl, inr}
use mathlib.Core.Path.{◌≡◌, refl, sym, ◌∙◌, ap}
use Prim.Native.Nat.{ℕ, zero, suc, max, ◌-◌, ◌<◌, ◌≤◌}
use native.Mathlib.Decide.{ℕ_discrete, dec_le}
use native.Mathlib.Nat.{le_refl}
use native.Mathlib.Omega.{arith}
use borrow.Author.Tests.{eq-eqb, ne_eqb}
use Rattle.lists.proofs.Later.{from_on}
use Rattle.links.specs.Relay.{Links, Relay, direct, onward}
use Rattle.links.specs.EndRule.{RelayBy}
use Rattle.links.specs.Inner.Clock.{latest, news}

-- The largest of several, over any test and any values.
module _ (heard : ℕ → Bool) (f : ℕ → ℕ) (x : ℕ) where
  pub latest_keeps : (n : ℕ) → x ≤ latest n heard f x
  unfolding latest
  latest_keeps zero = le_refl x
  latest_keeps (suc n) = go (heard n) (latest_keeps n)
    where
      go : (b : Bool) → x ≤ latest n heard f x → x ≤ cond b (max (latest n heard f x) (f n)) (latest n heard f x)
      go true h = omega arith
      go false h = h

  pub latest_hears : (n j : ℕ) → j < n → heard j ≡ true → f j ≤ latest n heard f x
  unfolding latest
  latest_hears zero j l h = absurd (omega arith)
  latest_hears (suc n) j l h = go (heard n) refl (λ m. latest_hears n j m h)
    where
      go : (b : Bool) → heard n ≡ b → (j < n → f j ≤ latest n heard f x) → f j ≤ cond b (max (latest n heard f x) (f n)) (latest n heard f x)
      go true e before = elim (ℕ_discrete j n) [ yes q ↦ rw q (omega arith) | no d ↦ let k : j < n = omega arith in omega (arith, before k) ]
      go false e before = elim (ℕ_discrete j n) [ yes q ↦ absurd (false≢true (sym e ∙ ap heard (sym q) ∙ h)) | no d ↦ before (omega arith) ]

  pub latest_from : (n : ℕ) → (latest n heard f x ≡ x) ⊎ ((j : ℕ) × (j < n) × (heard j ≡ true) × (latest n heard f x ≡ f j))
  unfolding latest
  latest_from zero = inl refl
  latest_from (suc n) = go (heard n) refl (latest_from n)
    where
      From : ℕ → ℕ → Type 0
      From k v = (v ≡ x) ⊎ ((j : ℕ) × (j < k) × (heard j ≡ true) × (v ≡ f j))

      wider : (v : ℕ) → From n v → From (suc n) v
      wider v (inl e) = inl e
      wider v (inr w) = inr (w.0, omega (arith, w.1), w.2, w.3)

      go : (b : Bool) → heard n ≡ b → From n (latest n heard f x) → From (suc n) (cond b (max (latest n heard f x) (f n)) (latest n heard f x))
      go true e before =
          elim (dec_le (f n) (latest n heard f x)) [
            | yes l ↦ let q : max (latest n heard f x) (f n) ≡ latest n heard f x = omega arith in rw q (wider (latest n heard f x) before)
            | no g ↦ inr (n, omega arith, e, omega arith)
          ]
      go false e before = wider (latest n heard f x) before

module _ (L : Links) where
  -- Of itself a station knows how the present round leaves it; of another at most how the round
  -- before left it.
  pub news_own : (u p : ℕ) → news L u p p ≡ suc u
  unfolding news
  news_own zero p = rw (eq-eqb p p refl)
  news_own (suc u) p = rw (eq-eqb p p refl)

  pub news_start : (p q : ℕ) → (p ≡ q → ⊥) → news L 0 p q ≡ 0
  unfolding news
  news_start p q d = rw (ne_eqb p q d)

  pub news_step : (u p q : ℕ) → (p ≡ q → ⊥)
      → news L (suc u) p q ≡ latest L.size (λ j. L.hears (suc u) p j) (λ j. news L u j q) (news L u p q)
  unfolding news
  news_step u p q d = rw (ne_eqb p q d)

  -- One round: where news comes from, and that it is kept.
  pub news_from : (u p q : ℕ) → (p ≡ q → ⊥)
      → (news L (suc u) p q ≡ news L u p q) ⊎ ((j : ℕ) × (j < L.size) × (L.hears (suc u) p j ≡ true) × (news L (suc u) p q ≡ news L u j q))
  news_from u p q d = rw (news_step u p q d) (latest_from (λ j. L.hears (suc u) p j) (λ j. news L u j q) (news L u p q) L.size)

  -- Of another, at most how the round before left it.
  pub news_other : (u p q : ℕ) → (p ≡ q → ⊥) → news L u p q ≤ u
  news_other zero p q d = omega (arith, news_start p q d)
  news_other (suc u) p q d =
      elim (news_from u p q d) [
        | inl e ↦ omega (arith, news_other u p q d)
        | inr w ↦
            elim (ℕ_discrete w.0 q) [
              | yes k ↦ omega (arith, w.3, rw k at (news_own u w.0), ap (λ (j : ℕ). news L u j q) k)
              | no k ↦ omega (arith, w.3, news_other u w.0 q k)
            ]
      ]

  pub news_limit : (u p q : ℕ) → news L u p q ≤ suc u
  news_limit u p q = elim (ℕ_discrete p q) [ yes e ↦ rw e (omega (arith, news_own u q)) | no d ↦ omega (arith, news_other u p q d) ]

  -- News is kept.
  pub news_keeps : (u p q : ℕ) → news L u p q ≤ news L (suc u) p q
  news_keeps u p q =
      elim (ℕ_discrete p q) [
        | yes e ↦ rw e (omega (arith, news_own u q, news_own (suc u) q))
        | no d ↦ rw (news_step u p q d) (latest_keeps (λ j. L.hears (suc u) p j) (λ j. news L u j q) (news L u p q) L.size)
      ]

  pub news_hears : (u p j q : ℕ) → L.hears (suc u) p j ≡ true → news L u j q ≤ news L (suc u) p q
  news_hears u p j q h =
      elim (ℕ_discrete p q) [
        | yes e ↦ rw e (omega (arith, news_own (suc u) q, news_limit u j q))
        | no d ↦
            rw (news_step u p q d)
            (latest_hears (λ i. L.hears (suc u) p i) (λ i. news L u i q) (news L u p q) L.size j (L.inside (suc u) p j h).1 h)
      ]

  pub news_mono : (u w p q : ℕ) → u ≤ w → news L u p q ≤ news L w p q
  news_mono u w p q =
      from_on (λ v. news L u p q ≤ news L v p q) u (le_refl (news L u p q)) (λ v l h. omega (arith, news_keeps v p q)) w

  -- Who has news of s has all that s had then.
  pub news_carries : (u p s q w : ℕ) → news L u p s ≡ suc w → news L w s q ≤ news L u p q
  news_carries zero p s q w h =
      elim (ℕ_discrete p s) [
        | yes e ↦ (let k : w ≡ 0 = omega (arith, h, rw e at (news_own 0 p), ap (λ (i : ℕ). news L 0 i s) e) in rw (k, e) (le_refl (news L 0 s q)))
        | no d ↦ absurd (omega (arith, h, news_start p s d))
      ]
  news_carries (suc u) p s q w h =
      elim (ℕ_discrete p s) [
        | yes e ↦
            (let k : w ≡ suc u = omega (arith, h, news_own (suc u) s, ap (λ (i : ℕ). news L (suc u) i s) e) in
            rw (k, e) (le_refl (news L (suc u) s q)))
        | no d ↦
            elim (news_from u p s d) [
              | inl e ↦ omega (arith, news_carries u p s q w (sym e ∙ h), news_keeps u p q)
              | inr j ↦ omega (arith, news_carries u j.0 s q w (sym j.3 ∙ h), news_hears u p j.0 q j.2)
            ]
      ]

  -- The same for any earlier state of s.
  pub news_carries_earlier : (u p s q w : ℕ) → w < news L u p s → news L w s q ≤ news L u p q
  news_carries_earlier u p s q w h =
      let e : news L u p s ≡ suc (news L u p s - 1) = omega arith in
      omega (arith, news_carries u p s q (news L u p s - 1) e, news_mono w (news L u p s - 1) s q (omega arith))

  -- News of s from after round t is what a relay brings.
  pub relay-news : {s t r k : ℕ} → Relay L s t r k → t < news L k r s
  relay-news {s} {t} {r} {k} (direct l h) = go k l h
    where
      go : (k : ℕ) → t < k → L.hears k r s ≡ true → t < news L k r s
      go zero l h = absurd (omega arith)
      go (suc k) l h = omega (arith, news_hears k r s s h, news_own k s)
  relay-news {s} {t} {r} {k} (onward {c = c} {i = i} before l h) = let m : i < k = omega arith in go k m h (relay-news before)
    where
      go : (k : ℕ) → i < k → L.hears k r c ≡ true → t < news L i c s → t < news L k r s
      go zero l h m = absurd (omega arith)
      go (suc k) l h m = omega (arith, news_hears k r c s h, news_mono i k c s (omega arith))

  pub news_relay : (v s t r : ℕ) → (r ≡ s → ⊥) → t < news L v r s → RelayBy L s t r v
  news_relay zero s t r d h = absurd (omega (arith, news_start r s d))
  news_relay (suc v) s t r d h =
      elim (news_from v r s d) [
        | inl e ↦ (let k = news_relay v s t r d (omega arith) in record { arrival = k.arrival; by = omega (arith, k.by); relay = k.relay })
        | inr j ↦
            elim (ℕ_discrete j.0 s) [
              | yes q ↦
                  (let l : t < suc v = omega (arith, j.3, news_own v s, ap (λ (i : ℕ). news L v i s) q) in
                  record { arrival = suc v; by = le_refl (suc v); relay = direct l (rw q at j.2) })
              | no n ↦
                  (let k = news_relay v s t j.0 n (omega (arith, j.3)) in
                  let l : k.arrival < suc v = omega (arith, k.by) in
                  record { arrival = suc v; by = le_refl (suc v); relay = onward {k = suc v} k.relay l j.2 })
            ]
      ]

  pub relay_by-news : (v s t r : ℕ) → RelayBy L s t r v → t < news L v r s
  relay_by-news v s t r k = omega (arith, relay-news k.relay, news_mono k.arrival v r s k.by)
