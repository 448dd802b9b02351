-- The end rule of relays is what the clocks decide. An answer that the clocks show is a relay out
-- and a relay back, turning in the round that the answer tells of; so a round by which all have
-- returned is a round in which the clocks are full. A broadcast's round of end is then the first
-- such round because the start stays where it is until a round is full.
use mathlib.Core.Bool.{Bool, true, false, true≢false, false≢true}
use mathlib.Core.Logic.{◌⊎◌, inl, inr, ⊎_elim, ◌↔◌}
use mathlib.Core.Path.{◌≡◌, refl, sym, ◌∙◌, ap}
use Prim.Native.Nat.{ℕ, zero, suc, ◌+◌, ◌-◌, ◌*◌, ◌<◌, ◌≤◌}
use native.Mathlib.Decide.{ℕ_discrete, dec_le}
use native.Mathlib.Nat.{le_refl}
use native.Mathlib.Omega.{arith}
use Rattle.lists.proofs.Later.{from_on}
use Rattle.links.specs.Relay.{Links}
use Rattle.links.specs.EndRule.{RelayBy, Returned, AllReturned, EndsIn, Starts, at_first, after}
use Rattle.links.specs.Inner.Ended.{Ended}
use Rattle.links.specs.Inner.Clock.{news}
use Rattle.links.specs.Inner.Number.{full, start, ends, num}
use Rattle.links.proofs.Clock.{news_mono, news_relay, relay_by-news}
use Rattle.links.proofs.Number.{Answer, full-answer, answer-full, step, start_limit, ends-full, num_zero, start_zero, same_start, start-ends, num-ends, ends_zero}
use Rattle.links.proofs.Bounds.{not_full}

module _ (L : Links) where
  full_returned : (u s t : ℕ) → full L u s t ≡ true → AllReturned L s t u
  full_returned u s t e = record { each = one }
    where
      one : (r : ℕ) → r < L.size → (r ≡ s → ⊥) → Returned L s t r u
      one r l d =
          let k = full-answer L u s t e r l d in
          record {
            turning = k.then;
            out = news_relay L k.then s t r d k.had;
            back = news_relay L u r k.then s (λ q. d (sym q)) (omega (arith, k.known));
          }

  returned_full : (u s t : ℕ) → AllReturned L s t u → full L u s t ≡ true
  returned_full u s t a = answer-full L u s t one
    where
      one : (r : ℕ) → r < L.size → (r ≡ s → ⊥) → Answer L u s t r
      one r l d =
          let k = a.each r l d in
          let b = relay_by-news L u r k.turning s k.back in
          let o = relay_by-news L k.turning s t r k.out in
          record {
            then = news L u s r - 1;
            known = omega arith;
            had = omega (arith, news_mono L k.turning (news L u s r - 1) r s (omega arith));
          }

  -- All have returned by round u exactly where the clocks say so.
  pub all_returned : (u s t : ℕ) → AllReturned L s t u ↔ (full L u s t ≡ true)
  all_returned u s t = (returned_full u s t, full_returned u s t)

  -- From its start on a broadcast that goes on has not been answered by all in any round.
  not_full_since : (u s v : ℕ) → start L u s < v → v ≤ u → full L v s (start L u s) ≡ true → ⊥
  not_full_since zero s v a b e = absurd (omega arith)
  not_full_since (suc u) s v a b e =
      elim (ℕ_discrete v (suc u)) [
        | yes q ↦ true≢false (sym (rw q at e) ∙ not_full L (suc u) s (rw q at a))
        | no d ↦
            ⊎_elim
            (λ c. omega arith)
            (λ c. not_full_since u s v (omega arith) (omega arith) (rw c.1 at e))
            (step L u s)
      ]

  -- The clocks end a broadcast in the round that the end rule gives.
  pub ends_rule : (u s : ℕ) → (ends L (suc u) s ≡ true) ↔ EndsIn L s (start L u s) (suc u)
  ends_rule u s = (there, back)
    where
      there : ends L (suc u) s ≡ true → EndsIn L s (start L u s) (suc u)
      there e =
          record {
            later = omega (arith, start_limit L u s);
            returned = full_returned (suc u) s (start L u s) (sym (ends-full L u s) ∙ e);
            first =
                λ v l a.
                elim (dec_le (suc u) v) [
                  | yes h ↦ h
                  | no h ↦ absurd (not_full_since u s v l (omega arith) (returned_full v s (start L u s) a))
                ];
          }

      back : EndsIn L s (start L u s) (suc u) → ends L (suc u) s ≡ true
      back e = ends-full L u s ∙ returned_full (suc u) s (start L u s) e.returned

  -- A broadcast ends in one round only.
  pub ends_once : (s t u v : ℕ) → EndsIn L s t u → EndsIn L s t v → u ≡ v
  ends_once s t u v a b = omega (arith, a.first v b.later b.returned, b.first u a.later a.returned)

  -- If all have returned by some later round, it ends, by that round.
  pub ends_by : (s t v : ℕ) → t < v → AllReturned L s t v → (u : ℕ) × EndsIn L s t u × (u ≤ v)
  ends_by s t v l a =
      ⊎_elim
      (λ w. w)
      (λ (none : (w : ℕ) → t < w → w ≤ v → full L w s t ≡ true → ⊥). absurd (none v l (le_refl v) (returned_full v s t a)))
      (look v)
    where
      Found : ℕ → Type 0
      Found n = ((u : ℕ) × EndsIn L s t u × (u ≤ n)) ⊎ ((w : ℕ) → t < w → w ≤ n → full L w s t ≡ true → ⊥)

      look : (n : ℕ) → Found n
      look zero = inr (λ w a b e. omega arith)
      look (suc n) = more (look n)
        where
          here : ((w : ℕ) → t < w → w ≤ n → full L w s t ≡ true → ⊥) → (b : Bool) → full L (suc n) s t ≡ b → Dec (t < suc n) → Found (suc n)
          here none b e (no d) = inr (λ w x y f. omega arith)
          here none true e (yes l) =
              inl (
                suc n,
                record {
                  later = l;
                  returned = full_returned (suc n) s t e;
                  first =
                      λ w x a.
                      elim (dec_le (suc n) w) [ yes h ↦ h | no h ↦ absurd (none w x (omega arith) (returned_full w s t a)) ];
                },
                le_refl (suc n),
              )
          here none false e (yes l) =
              inr
              (λ w x y f.
              elim (ℕ_discrete w (suc n)) [
                | yes q ↦ true≢false (sym (rw q at f) ∙ e)
                | no d ↦ none w x (omega arith) f
              ])

          more : Found n → Found (suc n)
          more (inl w) = inl (w.0, w.1, omega (arith, w.2))
          more (inr none) = here none (full L (suc n) s t) refl (dec_le (suc t) (suc n))

  -- The numbers and starts of the clocks are those of the end rule.
  pub starts-num : (u s : ℕ) → Starts L s (num L u s) (start L u s)
  starts-num zero s = rw (num_zero L s, start_zero L s) at_first
  starts-num (suc u) s =
      ⊎_elim
      (λ c. rw (c.1, c.2) (after (starts-num u s) ((ends_rule u s).0 c.0)))
      (λ c. rw (c.1, c.2) (starts-num u s))
      (step L u s)

  -- A broadcast goes on until the round in which it ends.
  goes_on : (s t v : ℕ) → start L t s ≡ t → ((w : ℕ) → t < w → w ≤ v → AllReturned L s t w → ⊥) → t ≤ v → (start L v s ≡ t) × (num L v s ≡ num L t s)
  goes_on s t v e none l =
      from_on (λ w. w ≤ v → (start L w s ≡ t) × (num L w s ≡ num L t s)) t (λ m. (e, refl))
      (λ w k before m.
      let h = before (omega arith) in
      ⊎_elim
      (λ (c : (ends L (suc w) s ≡ true) × (start L (suc w) s ≡ suc w) × (num L (suc w) s ≡ suc (num L w s))).
      absurd
      (none (suc w) (omega arith) m
      (full_returned (suc w) s t (rw h.0 at (sym (ends-full L w s) ∙ c.0)))))
      (λ (c : (ends L (suc w) s ≡ false) × (start L (suc w) s ≡ start L w s) × (num L (suc w) s ≡ num L w s)).
      (c.1 ∙ h.0, c.2 ∙ h.1))
      (step L w s))
      v l (le_refl v)

  -- In the round before the one in which it ends, it is the sender's broadcast.
  still : (s k t u : ℕ) → Starts L s k t → EndsIn L s t (suc u) → (num L t s ≡ k) × (start L t s ≡ t) → (start L u s ≡ t) × (num L u s ≡ k)
  still s k t u b e h =
      let g = goes_on s t u h.1 (λ w x y a. omega (arith, e.first w x a)) (omega (arith, e.later)) in
      (g.0, g.1 ∙ h.0)

  still_ends : (s t u : ℕ) → EndsIn L s t (suc u) → start L u s ≡ t → ends L (suc u) s ≡ true
  still_ends s t u e h = ends-full L u s ∙ rw h (returned_full (suc u) s t e.returned)

  pub num-starts : (s k t : ℕ) → Starts L s k t → (num L t s ≡ k) × (start L t s ≡ t)
  num-starts s k t at_first = (num_zero L s, start_zero L s)
  num-starts s k t (after {k = j} {t = b} before e) = go t e (num-starts s j b before)
    where
      go : (t : ℕ) → EndsIn L s b t → (num L b s ≡ j) × (start L b s ≡ b) → (num L t s ≡ suc j) × (start L t s ≡ t)
      go zero e h = absurd (omega (arith, e.later))
      go (suc t) e h =
          let g = still s j b t before e h in
          let f = still_ends s b t e g.0 in
          (num-ends L t s f ∙ ap suc g.1, start-ends L t s f)

  -- With the start left open: a round is one of end by the clocks exactly if by the end rule a
  -- broadcast ends in it.
  pub ends-ended : (u s : ℕ) → (ends L u s ≡ true) ↔ Ended L s u
  ends-ended u s = (there u, back u)
    where
      there : (u : ℕ) → ends L u s ≡ true → Ended L s u
      there zero e = absurd (false≢true (sym (ends_zero L s) ∙ e))
      there (suc u) e = record { number = num L u s; started = start L u s; starts = starts-num u s; ends_in = (ends_rule u s).0 e }

      back : (u : ℕ) → Ended L s u → ends L u s ≡ true
      back zero k = absurd (omega (arith, k.ends_in.later))
      back (suc u) k =
          still_ends s k.started u k.ends_in
          (still s k.number k.started u k.starts k.ends_in (num-starts s k.number k.started k.starts)).0

  -- Without such a round it does not end: its sender keeps it for good.
  pub never_ends : (u s : ℕ) → ((v : ℕ) → EndsIn L s (start L u s) v → ⊥) → (w : ℕ) → u ≤ w → num L w s ≡ num L u s
  never_ends u s none =
      from_on (λ w. num L w s ≡ num L u s) u refl
      (λ w l h.
      ⊎_elim
      (λ (c : (ends L (suc w) s ≡ true) × (start L (suc w) s ≡ suc w) × (num L (suc w) s ≡ suc (num L w s))).
      absurd (none (suc w) (rw (same_start L w u s h) at ((ends_rule w s).0 c.0))))
      (λ (c : (ends L (suc w) s ≡ false) × (start L (suc w) s ≡ start L w s) × (num L (suc w) s ≡ num L w s)). c.2 ∙ h)
      (step L w s))

  -- A single station's broadcast ends in the next round.
  pub alone : (s t : ℕ) → L.size ≡ 1 → s < L.size → EndsIn L s t (suc t)
  alone s t e l =
      record {
        later = le_refl (suc t);
        returned = record { each = λ r lr d. absurd (d (omega arith)) };
        first = λ v h a. h;
      }

  -- Where every two stations have a relay within delay rounds, as long as the links are looked at,
  -- a broadcast ends within twice that.
  pub ends_within : (delay last : ℕ) → 1 ≤ delay
      → ((a b t : ℕ) → a < L.size → b < L.size → (a ≡ b → ⊥) → t + delay ≤ last → RelayBy L a t b (t + delay))
      → (s t : ℕ) → s < L.size → t + 2 * delay ≤ last → (u : ℕ) × EndsIn L s t u × (u ≤ t + 2 * delay)
  ends_within delay last d near s t ls l = ends_by s t (t + 2 * delay) (omega arith) (record { each = one })
    where
      one : (r : ℕ) → r < L.size → (r ≡ s → ⊥) → Returned L s t r (t + 2 * delay)
      one r lr n =
          let e : t + delay + delay ≡ t + 2 * delay = omega arith in
          record {
            turning = t + delay;
            out = near s r t ls lr (λ q. n (sym q)) (omega arith);
            back = rw e at (near r s (t + delay) lr ls n (omega arith));
          }
