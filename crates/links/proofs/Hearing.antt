-- A round as it is heard, sender after sender. What p knows of q rises from what it knew after
-- round u to what it knows after round u + 1, by the largest of what each heard sender knew after
-- round u; so at every moment it is between these two, and the laws of versions apply.
use mathlib.Core.Bool.{Bool, true, false}
use mathlib.Core.Path.{◌≡◌, refl, sym, ◌∙◌, ap}
use Prim.Native.Nat.{ℕ, zero, suc, max, ◌-◌, ◌*◌, ◌<◌, ◌≤◌}
use native.Mathlib.Nat.{le_refl}
use native.Mathlib.Omega.{arith}
use Rattle.lists.proofs.Later.{from_on}
use Rattle.links.specs.Relay.{Links}
use Rattle.links.specs.Inner.Clock.{latest, news, hearing}
use Rattle.links.specs.Inner.Number.{start, ends, num_of, got, tally, counted}
use Rattle.links.proofs.Bounds.{counted_hearing_limit}
use Rattle.links.proofs.Clock.{news_own, news_step, news_limit}
use Rattle.links.proofs.Got.{got-num_of, num_of_mono}
use Rattle.links.proofs.Number.{start-ends, start_stays, start_zero}
use Rattle.links.proofs.Tally.{tally_mono, tally_same, tally_none}

module _ (L : Links) where
  -- Before the first sender, and one sender more.
  pub hearing_zero : (u p q : ℕ) → hearing L u p q 0 ≡ news L u p q
  unfolding hearing latest
  hearing_zero u p q = refl

  pub hearing_heard : (u p q k : ℕ) → L.hears (suc u) p k ≡ true → hearing L u p q (suc k) ≡ max (hearing L u p q k) (news L u k q)
  unfolding hearing latest
  hearing_heard u p q k h = rw h

  pub hearing_unheard : (u p q k : ℕ) → L.hears (suc u) p k ≡ false → hearing L u p q (suc k) ≡ hearing L u p q k
  unfolding hearing latest
  hearing_unheard u p q k h = rw h

  -- After all senders.
  pub hearing_all : (u p q : ℕ) → (p ≡ q → ⊥) → hearing L u p q L.size ≡ news L (suc u) p q
  unfolding hearing
  hearing_all u p q d = sym (news_step L u p q d)

  hearing_step : (u p q k : ℕ) → (hearing L u p q k ≤ hearing L u p q (suc k)) × (hearing L u p q (suc k) ≤ max (hearing L u p q k) (news L u k q))
  hearing_step u p q k = go (L.hears (suc u) p k) refl
    where
      go : (b : Bool) → L.hears (suc u) p k ≡ b
          → (hearing L u p q k ≤ hearing L u p q (suc k)) × (hearing L u p q (suc k) ≤ max (hearing L u p q k) (news L u k q))
      go true e = let h = hearing_heard u p q k e in (omega arith, omega arith)
      go false e = let h = hearing_unheard u p q k e in (omega arith, omega arith)

  pub hearing_mono : (u p q k k' : ℕ) → k ≤ k' → hearing L u p q k ≤ hearing L u p q k'
  hearing_mono u p q k k' =
      from_on (λ i. hearing L u p q k ≤ hearing L u p q i) k (le_refl (hearing L u p q k))
      (λ i l h. omega (arith, (hearing_step u p q i).0)) k'

  -- Never less than after the round before, and never more than that round can tell.
  pub hearing_keeps : (u p q k : ℕ) → news L u p q ≤ hearing L u p q k
  hearing_keeps u p q k = omega (arith, hearing_zero u p q, hearing_mono u p q 0 k (omega arith))

  pub hearing_most : (u p q k : ℕ) → hearing L u p q k ≤ suc u
  hearing_most u p q zero = omega (arith, hearing_zero u p q, news_limit L u p q)
  hearing_most u p q (suc k) = omega (arith, hearing_most u p q k, (hearing_step u p q k).1, news_limit L u k q)

  -- Of itself a station hears nothing new.
  pub hearing_own : (u p k : ℕ) → hearing L u p p k ≡ suc u
  hearing_own u p k = omega (arith, hearing_keeps u p p k, hearing_most u p p k, news_own L u p)

  -- The count in the middle of a round: at most 3 × (N − 1).
  pub hearing_count : (u p k : ℕ) → p < L.size → k ≤ L.size
      → tally L.size p (λ r. num_of L r (hearing L u p r k)) (λ r. got L (start L u p) p r) ≤ 3 * (L.size - 1)
  hearing_count u p k lp lk =
      let m =
      tally_mono p L.size (λ r. num_of L r (hearing L u p r k)) (λ r. got L (suc u) p r) (λ r. got L (start L u p) p r)
      (λ r lr d.
      let e : hearing L u p r L.size ≡ news L (suc u) p r = hearing_all u p r (λ q. d (sym q)) in
      omega (
        arith,
        got-num_of L (suc u) p r,
        num_of_mono L r (hearing L u p r k) (news L (suc u) p r) (omega (arith, hearing_mono u p r k L.size lk)),
      )) in
      omega (arith, m, counted_hearing_limit L u p lp)

  -- The count after a round: none where a broadcast has just begun, and else what the hearing left.
  pub counted_start : (u p : ℕ) → start L u p ≡ u → counted L u p ≡ 0
  unfolding counted
  counted_start u p e = rw e (tally_none p L.size (λ r. got L u p r))

  pub counted_zero : (p : ℕ) → counted L 0 p ≡ 0
  counted_zero p = counted_start 0 p (start_zero L p)

  pub counted-ends : (u p : ℕ) → ends L (suc u) p ≡ true → counted L (suc u) p ≡ 0
  counted-ends u p e = counted_start (suc u) p (start-ends L u p e)

  pub counted_stays : (u p : ℕ) → ends L (suc u) p ≡ false
      → counted L (suc u) p ≡ tally L.size p (λ r. num_of L r (hearing L u p r L.size)) (λ r. got L (start L u p) p r)
  unfolding counted
  counted_stays u p e =
      rw (start_stays L u p e)
      (tally_same p L.size
      (λ r. got L (suc u) p r)
      (λ r. num_of L r (hearing L u p r L.size))
      (λ r. got L (start L u p) p r)
      (λ r. got L (start L u p) p r)
      (λ r lr d. (got-num_of L (suc u) p r ∙ ap (λ (v : ℕ). num_of L r v) (sym (hearing_all u p r (λ q. d (sym q)))), refl)))
