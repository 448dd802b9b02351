-- The laws for versions, as they are needed while a round is heard: a version is 0 for none, or w +
-- 1 for a station as round w left it. In round u + 1 everything in flight is a version of at most u
-- + 1, and whatever p holds is at least what it had after round u; between these two bounds numbers
-- are at most one apart and answers at most two behind. So an answer to the present broadcast is
-- one with the present number.
use mathlib.Core.Bool.{Bool, ◌||◌}
use mathlib.Core.Logic.{⊎_elim, ◌↔◌}
use mathlib.Core.Path.{◌≡◌, refl, sym, ◌∙◌, ap}
use Prim.Native.Nat.{ℕ, zero, suc, ◌+◌, ◌<◌, ◌≤◌}
use native.Mathlib.Decide.{ℕ_discrete, dec_le}
use native.Mathlib.Omega.{arith}
use borrow.Author.Tests.{le-leb, lt-leb, eq-eqb, ne_eqb}
use lib.Dec.{eqb}
use Rattle.lists.specs.Below.{all_below}
use Rattle.lists.proofs.Laws.{all_below_ext}
use Rattle.links.specs.Relay.{Links}
use Rattle.links.specs.EndRule.{RelayBy, Starts}
use Rattle.links.specs.Inner.Clock.{news}
use Rattle.links.specs.Inner.Number.{answers, full, start, ends, num, num_of, got, got_of, counted}
use Rattle.links.proofs.Bounds.{behind, got_of_some, got_of_news}
use Rattle.links.proofs.Clock.{news_other, news_carries_earlier, news_relay, relay_by-news}
use Rattle.links.proofs.EndRule.{num-starts}
use Rattle.links.proofs.Got.{got-num_of, version, num_of_some, num_of_mono, got_none, got_some, got_mono, got-news, got-start, got_limit, num_limit}
use Rattle.links.proofs.Number.{ends-full, num_mono, num_positive, num_before, same_start, start_limit}
use Rattle.links.proofs.Tally.{tally_mono, tally_pins}

module _ (L : Links) where
  got_of_none : (q s : ℕ) → got_of L q s 0 ≡ 0
  unfolding got_of
  got_of_none q s = refl

  pub got_of_mono : (q s v v' : ℕ) → v ≤ v' → got_of L q s v ≤ got_of L q s v'
  got_of_mono q s zero v' l = omega (arith, got_of_none q s)
  got_of_mono q s (suc w) v' l = omega (arith, got_of_some L q s (suc w) w refl, got_of_news L q s v' w l)

  -- A version from round u or before has at most the number after round u, and shows at most that
  -- of others.
  pub num_of_limit : (u s v : ℕ) → v ≤ suc u → num_of L s v ≤ num L u s
  num_of_limit u s v l = omega (arith, num_of_mono L s v (suc u) l, num_of_some L s (suc u) u refl)

  pub got_of_limit : (u q s v : ℕ) → v ≤ suc u → got_of L q s v ≤ num L u s
  got_of_limit u q s v l =
      omega (arith, got_of_mono q s v (suc u) l, got_of_some L q s (suc u) u refl, got_limit L u q s)

  -- In flight: what p hears of q in round u + 1 is at most one broadcast ahead of what p holds.
  pub num_of_close : (u p q v v' : ℕ) → p < L.size → news L u p q ≤ v → v' ≤ suc u → num_of L q v' ≤ num_of L q v + 1
  num_of_close u p q v v' lp a b =
      omega (
        arith,
        num_of_limit u q v' b,
        num_limit L u p q lp,
        got-num_of L u p q,
        num_of_mono L q (news L u p q) v a,
      )

  -- In flight: what a version of q that p holds or hears shows of s is at most two behind.
  pub got_of_close : (u p q s v : ℕ) → p < L.size → q < L.size → news L u p q ≤ v → num L u s ≤ got_of L q s v + 2
  got_of_close u p q s v lp lq a = omega (arith, behind L u p q s lp lq, got_of_mono q s (news L u p q) v a)

  -- An answer to the present broadcast is one with its number.
  pub answers_number : (u s r v : ℕ) → v ≤ suc u → answers L s (start L u s) r v ≡ eqb (got_of L r s v) (num L u s)
  unfolding answers
  answers_number u s r zero l = sym (ne_eqb (got_of L r s 0) (num L u s) (λ e. omega (arith, got_of_none r s, num_positive L u s)))
  answers_number u s r (suc w) l =
      elim (dec_le (suc (start L u s)) (news L w r s)) [
        | yes h ↦
            le-leb (suc (start L u s)) (news L w r s) h
            ∙ sym
            (eq-eqb
            (got_of L r s (suc w))
            (num L u s)
            (omega (
              arith,
              (got-start L u w r s (omega arith)).1 h,
              got_of_some L r s (suc w) w refl,
              got_limit L w r s,
              num_mono L w u s (omega arith),
            )))
        | no h ↦
            lt-leb (suc (start L u s)) (news L w r s) (omega arith)
            ∙ sym
            (ne_eqb
            (got_of L r s (suc w))
            (num L u s)
            (λ e. h ((got-start L u w r s (omega arith)).0 (omega (arith, got_of_some L r s (suc w) w refl)))))
      ]

  -- So round u + 1 ends the broadcast of s exactly if what s then holds of each other shows its
  -- present number.
  pub ends_numbers : (u s : ℕ)
      → ends L (suc u) s ≡ all_below L.size (λ r. eqb r s || eqb (got_of L r s (news L (suc u) s r)) (num L u s))
  unfolding full
  ends_numbers u s =
      ends-full L u s
      ∙ all_below_ext L.size
      (λ r. eqb r s || answers L s (start L u s) r (news L (suc u) s r))
      (λ r. eqb r s || eqb (got_of L r s (news L (suc u) s r)) (num L u s))
      (λ r l. one r)
    where
      one : (r : ℕ)
          → (eqb r s || answers L s (start L u s) r (news L (suc u) s r)) ≡ (eqb r s || eqb (got_of L r s (news L (suc u) s r)) (num L u s))
      one r =
          elim (ℕ_discrete r s) [
            | yes e ↦ rw (eq-eqb r s e)
            | no d ↦
                ap
                (λ (b : Bool). eqb r s || b)
                (answers_number u s r (news L (suc u) s r) (news_other L (suc u) s r (λ e. d (sym e))))
          ]

  -- Who has news of s has of each q at least what s had then.
  pub got_carries : (u p s q w : ℕ) → w < news L u p s → got L w s q ≤ got L u p q
  got_carries u p s q w h =
      omega (
        arith,
        got-num_of L w s q,
        got-num_of L u p q,
        num_of_mono L q (news L w s q) (news L u p q) (news_carries_earlier L u p s q w h),
      )

  -- A station r has broadcast number k of s exactly if a relay from s after its start has reached
  -- it.
  pub got_relay : (u r s k t : ℕ) → (r ≡ s → ⊥) → Starts L s k t → (k ≤ got L u r s) ↔ RelayBy L s t r u
  got_relay u r s k t d b = (there, back)
    where
      there : k ≤ got L u r s → RelayBy L s t r u
      there h =
          let e = num-starts L s k t b in
          news_relay L u s t r d
          (⊎_elim
          (λ (z : news L u r s ≡ 0). absurd (omega (arith, got_none L u r s z, num_positive L t s, e.0)))
          (λ (z : (w : ℕ) × (news L u r s ≡ suc w)).
          elim (dec_le t z.0) [
            | yes l ↦ omega (arith, z.1)
            | no l ↦
                absurd
                (omega (arith, got_some L u r s z.0 z.1, num_before L t z.0 s (omega (arith, e.1)), e.0))
          ])
          (version (news L u r s)))

      back : RelayBy L s t r u → k ≤ got L u r s
      back h = omega (arith, (num-starts L s k t b).0, got-news L u r s t (relay_by-news L u s t r h))

  -- The count never falls within one broadcast, and where it is the same nothing new came.
  pub counted_mono : (u w p : ℕ) → u ≤ w → num L u p ≡ num L w p → counted L u p ≤ counted L w p
  unfolding counted
  counted_mono u w p l e =
      rw (same_start L u w p e)
      (tally_mono p L.size (λ r. got L u p r) (λ r. got L w p r) (λ r. got L (start L w p) p r) (λ r lr d. got_mono L u w p r l))

  pub counted_pins : (u w p : ℕ) → u ≤ w → num L u p ≡ num L w p → counted L u p ≡ counted L w p
      → (r : ℕ) → r < L.size → (r ≡ p → ⊥) → got L u p r ≡ got L w p r
  unfolding counted
  counted_pins u w p l e h r lr d =
      tally_pins p L.size (λ q. got L u p q) (λ q. got L w p q) (λ q. got L (start L w p) p q)
      (λ q lq f. (rw (← same_start L u w p e) (got_mono L (start L u p) u p q (start_limit L u p)), got_mono L u w p q l))
      (rw (same_start L u w p e) at h)
      r lr d
