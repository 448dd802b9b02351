-- How far behind anything can be. An acknowledgement in transit is at most two behind: the answer
-- that ended the broadcast before the last one was with the sender when the last one started, and
-- everybody has news of that start. And within one broadcast of s at most two new ones of another r
-- come to s: with a third, the second would have carried s's broadcast to all and the third
-- everybody's answer to s, which would have ended it.
use mathlib.Core.Bool.{true, false, true≢false}
use mathlib.Core.Logic.{⊎_elim}
use mathlib.Core.Path.{◌≡◌, sym, ◌∙◌}
use Prim.Native.Nat.{ℕ, zero, suc, ◌+◌, ◌-◌, ◌*◌, ◌<◌, ◌≤◌}
use native.Mathlib.Decide.{ℕ_discrete, dec_le}
use native.Mathlib.Omega.{arith}
use Rattle.links.specs.Relay.{Links}
use Rattle.links.specs.Inner.Clock.{news}
use Rattle.links.specs.Inner.Number.{full, start, num, got, got_of, tally, counted}
use Rattle.links.proofs.Clock.{news_own, news_mono, news_carries_earlier}
use Rattle.links.proofs.Number.{Answer, full-answer, answer-full, step, start_limit, num-start, ends-full}
use Rattle.links.proofs.Got.{version, got_none, got_some, got_mono, got-news, began, first_number, previous, got_step}
use Rattle.links.proofs.Tally.{tally_limit}

module _ (L : Links) where
  pub got_of_some : (q s v w : ℕ) → v ≡ suc w → got_of L q s v ≡ got L w q s
  unfolding got_of
  got_of_some q s v w e = rw e

  -- What a version that is not older than round w has is not less than what round w left.
  pub got_of_news : (q s v w : ℕ) → w < v → got L w q s ≤ got_of L q s v
  got_of_news q s v w h =
      let e : v ≡ suc (v - 1) = omega arith in
      omega (arith, got_of_some q s v (v - 1) e, got_mono L w (v - 1) q s (omega arith))

  -- What any p holds of q shows a broadcast of s at most two before the present one.
  pub behind : (u p q s : ℕ) → p < L.size → q < L.size → num L u s ≤ got_of L q s (news L u p q) + 2
  behind u p q s lp lq =
      ⊎_elim
      (λ (e : start L u s ≡ 0). omega (arith, first_number L u s e))
      (λ (e : (a : ℕ) × (start L u s ≡ suc a)).
      ⊎_elim
      (λ (f : start L e.0 s ≡ 0). omega (arith, (began L u s e.0 e.1).0, first_number L e.0 s f))
      (λ (f : (b : ℕ) × (start L e.0 s ≡ suc b)). go e.0 e.1 f.0 f.1)
      (version (start L e.0 s)))
      (version (start L u s))
    where
      go : (a : ℕ) → start L u s ≡ suc a → (b : ℕ) → start L a s ≡ suc b → num L u s ≤ got_of L q s (news L u p q) + 2
      go a e b f =
          let m = (began L u s a e).0 in
          let n = (began L a s b f).0 in
          let c : news L (suc b) s q ≤ news L u p q = news_carries_earlier L u p s q (suc b) (rw f at (previous L u p s a lp e)) in
          elim (ℕ_discrete q s) [
            | yes i ↦
                rw i
                (let x : suc b < news L u p s = rw f at (previous L u p s a lp e) in
                let y : b < news L u p s = omega arith in
                omega (arith, got_of_news s s (news L u p s) b y, got_some L b s s b (news_own L b s)))
            | no d ↦
                (let k = full-answer L (suc b) s (start L b s) (began L a s b f).1 q lq d in
                omega (
                  arith,
                  got_of_news q s (news L u p q) k.then (omega (arith, k.known)),
                  got-news L k.then q s (start L b s) k.had,
                  num-start L b s,
                ))
          ]

  -- While a broadcast goes on it is not answered by all.
  pub not_full : (u s : ℕ) → start L u s < u → full L u s (start L u s) ≡ false
  not_full zero s h = absurd (omega arith)
  not_full (suc u) s h =
      ⊎_elim
      (λ c. absurd (omega arith))
      (λ c. rw c.1 (sym (ends-full L u s) ∙ c.0))
      (step L u s)

  -- Within one broadcast of s at most two new ones of another come to s.
  pub within : (u s r : ℕ) → s < L.size → r < L.size → (r ≡ s → ⊥) → got L u s r ≤ got L (start L u s) s r + 2
  within u s r ls lr d =
      elim (dec_le (got L u s r) (got L (start L u s) s r + 2)) [
        | yes h ↦ h
        | no h ↦
            ⊎_elim
            (λ (e : news L u s r ≡ 0). absurd (omega (arith, got_none L u s r e)))
            (λ (e : (w : ℕ) × (news L u s r ≡ suc w)).
            three e.0 e.1 (omega (arith, got_some L u s r e.0 e.1)))
            (version (news L u s r))
      ]
    where
      t : ℕ
      t = start L u s

      answered : (w b c : ℕ) → news L u s r ≡ suc w → start L w r ≡ suc b → start L b r ≡ suc c
          → got L t s r < num L c r
          → full L u s t ≡ true
      answered w b c e f g h =
          let lw = start_limit L w r in
          let lb = start_limit L b r in
          let k = full-answer L (suc c) r (start L c r) (began L b r c g).1 s ls (λ q. d (sym q)) in
          let y : t < k.then =
          elim (dec_le (suc t) k.then) [
            | yes l ↦ l
            | no l ↦
                absurd
                (omega (
                  arith,
                  got-news L k.then s r (start L c r) k.had,
                  num-start L c r,
                  got_mono L k.then t s r (omega arith),
                ))
          ] in
          let z : t < news L (suc c) r s = omega (arith, k.known) in
          answer-full L u s t (λ p lp n. one p lp n (ℕ_discrete p r) lw lb z)
        where
          one : (p : ℕ) → p < L.size → (p ≡ s → ⊥) → Dec (p ≡ r) → start L w r ≤ w → start L b r ≤ b → t < news L (suc c) r s → Answer L u s t p
          one p lp n (yes q) lw lb z =
              rw q (record { then = w; known = e; had = omega (arith, news_mono L (suc c) w r s (omega arith)) })
          one p lp n (no i) lw lb z =
              let k = full-answer L (suc b) r (start L b r) (began L w r b f).1 p lp i in
              let x : suc c < news L k.then p r = omega (arith, k.had, g) in
              let m : t < news L k.then p s = omega (arith, news_carries_earlier L k.then p r s (suc c) x) in
              let j : k.then < news L u s p = omega (arith, k.known, news_carries_earlier L u s r p (suc b) (omega arith)) in
              record {
                then = news L u s p - 1;
                known = omega arith;
                had = omega (arith, news_mono L k.then (news L u s p - 1) p s (omega arith));
              }

      three : (w : ℕ) → news L u s r ≡ suc w → got L t s r + 2 < num L w r → got L u s r ≤ got L t s r + 2
      three w e h =
          ⊎_elim
          (λ (f : start L w r ≡ 0). absurd (omega (arith, first_number L w r f)))
          (λ (f : (b : ℕ) × (start L w r ≡ suc b)).
          ⊎_elim
          (λ (g : start L f.0 r ≡ 0). absurd (omega (arith, (began L w r f.0 f.1).0, first_number L f.0 r g)))
          (λ (g : (c : ℕ) × (start L f.0 r ≡ suc c)).
          let i : got L t s r < num L g.0 r = omega (arith, (began L w r f.0 f.1).0, (began L f.0 r g.0 g.1).0) in
          elim (dec_le u t) [
            | yes l ↦ omega (arith, got_mono L u t s r l)
            | no l ↦ absurd (true≢false (sym (answered w f.0 g.0 e f.1 g.1 i) ∙ not_full u s (omega arith)))
          ])
          (version (start L f.0 r)))
          (version (start L w r))

  -- So at most two for each other station in all, and at most three while the next round is heard.
  pub counted_limit : (u p : ℕ) → p < L.size → counted L u p ≤ 2 * (L.size - 1)
  unfolding counted
  counted_limit u p l =
      tally_limit 2 p L.size (λ r. got L u p r) (λ r. got L (start L u p) p r) l (λ r lr d. within u p r l lr d)

  pub counted_hearing_limit : (u p : ℕ) → p < L.size
      → tally L.size p (λ r. got L (suc u) p r) (λ r. got L (start L u p) p r) ≤ 3 * (L.size - 1)
  counted_hearing_limit u p l =
      tally_limit 3 p L.size (λ r. got L (suc u) p r) (λ r. got L (start L u p) p r) l
      (λ r lr d. omega (arith, within u p r l lr d, got_step L u p r l))
