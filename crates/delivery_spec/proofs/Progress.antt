-- Rows come on: where every two stations have a relay within so many rounds, whatever all have
-- aired, they have aired one row more within three times as many. The broadcast of each ends within
-- twice as many, and where all its own bodies are aired by then it starts one; a relay more brings
-- it to all.
use mathlib.Core.Bool.{Bool, true, false, cond}
use mathlib.Core.Path.{◌≡◌, refl, sym, ap, subst, ◌∙◌}
use Prim.Native.Nat.{ℕ, zero, suc, min, ◌+◌, ◌*◌, ◌-◌, ◌≤◌, ◌<◌}
use native.Mathlib.Decide.{ℕ_discrete, dec_le}
use native.Mathlib.Nat.{le_refl, suc-mul}
use native.Mathlib.Omega.{arith}
use borrow.Author.Tests.{ltb-true, eq-eqb}
use lib.Dec.{ltb}
use lib.ListN.{length, length-append}
use Rattle.bodies.specs.declared.Body.TheVariants.{Neutral}
use Rattle.bodies.specs.Body.{is_empty}
use Rattle.lists.proofs.Later.{from_on}
use Rattle.links.specs.Relay.{Links}
use Rattle.links.specs.EndRule.{Returned, after}
use Rattle.links.specs.Inner.Clock.{news}
use Rattle.links.specs.Inner.Number.{start, num}
use Rattle.links.specs.Inner.Number as number
use Rattle.links.proofs.Clock.{news_own, news_limit, news_mono, news_carries_earlier, relay_by-news}
use Rattle.links.proofs.Relay.{relay_earlier}
use Rattle.links.proofs.Number.{start_limit, num_mono}
use Rattle.links.proofs.EndRule.{ends_by, ends-ended, starts-num, num-starts}
use Rattle.queues.specs.Waiting.{waiting_count, next_edit}
use Rattle.station_spec.specs.declared.Station.{Station}
use Rattle.station_spec.specs.Turn.{broadcast_ends, may_start, started_body}
use Rattle.station_spec.proofs.TurnCells.{lane_after}
use Rattle.group_spec.specs.History.{unless_empty}
use Rattle.delivery_spec.specs.Delivery.{Near}
use Rattle.group_spec.proofs.Run.{Run, links_of, hearing_in}
use Rattle.group_spec.proofs.Simulation.{simulated, heard_standing}
use Rattle.group_spec.proofs.Lists.{started_by, rows_by, made_by}
use Rattle.group_spec.proofs.Taken.{started_by_step}
use Rattle.group_spec.proofs.Counting.{shown, made_mono, shown_mono, made_ahead, rows_keeps, rows_limit, rows_least}
use Rattle.group_spec.proofs.Lanes.{counting, own_aired}

shown_some : (made : ℕ → ℕ → ℕ) (s w : ℕ) → shown made s (suc w) ≡ made w s
unfolding shown
shown_some made s w = refl

-- where the broadcast ends and a body may start, one does
started_some :
    (t : Station) → broadcast_ends t ≡ true → may_start t ≡ true →
    (0 < waiting_count t.waiting → is_empty (next_edit t.waiting) ≡ false) → is_empty (started_body t) ≡ false
unfolding started_body
started_some t e m h = rw (e, m) (go (ltb 0 (waiting_count t.waiting)) refl)
  where
    go : (b : Bool) → ltb 0 (waiting_count t.waiting) ≡ b → is_empty (cond b (next_edit t.waiting) Neutral) ≡ false
    go true f = h (ltb-true 0 (waiting_count t.waiting) f)
    go false f = refl

-- In every turn the edit that would start next, if any waits, is not Empty.
pub record Filled (R : Run) : Type 0 where
  pub some :
      (u p : ℕ) → p < R.n → 0 < waiting_count (hearing_in R u p).station.waiting →
      is_empty (next_edit (hearing_in R u p).station.waiting) ≡ false

module _ (R : Run) where
  abbrev L : Links
  L = links_of R

  pub rows_mono : (u w p : ℕ) → u ≤ w → p < R.n → rows_by R u p ≤ rows_by R w p
  rows_mono u w p h lp =
      from_on (λ v. rows_by R u p ≤ rows_by R v p) u (le_refl (rows_by R u p))
      (λ v l b. omega (arith, b, rows_keeps L (made_by R) (rows_by R) (suc v) (counting R (suc v)) v p (omega arith) lp))
      w h

  pub bodies_mono : (u w s : ℕ) → u ≤ w → s < R.n → made_by R u s ≤ made_by R w s
  bodies_mono u w s h ls = made_mono L (made_by R) (rows_by R) w (counting R w) u w s h (le_refl w) ls

  pub bodies_ahead : (u p : ℕ) → p < R.n → made_by R u p ≤ rows_by R u p + 1
  bodies_ahead u p lp = made_ahead L (made_by R) (rows_by R) u (counting R u) u p (le_refl u) lp

  -- No more rows are aired than anybody has started bodies.
  pub rows_bodies : (u p q : ℕ) → p < R.n → q < R.n → rows_by R u p ≤ made_by R u q
  rows_bodies u p q lp lq =
      omega (
        arith,
        rows_limit L (made_by R) (rows_by R) u (counting R u) u p q (le_refl u) lp lq,
        shown_mono L (made_by R) (rows_by R) u (counting R u) (news L u p q) (suc u) q (news_limit L u p q)
            (le_refl (suc u)) lq,
        shown_some (made_by R) q u,
      )

  -- Rows aired at two stations differ by at most one.
  pub rows_close : (u p q : ℕ) → p < R.n → q < R.n → rows_by R u p ≤ rows_by R u q + 1
  rows_close u p q lp lq = omega (arith, rows_bodies u p q lp lq, bodies_ahead u q lq)

  module _ (filled : Filled R) where
    -- Where a broadcast ends and all its station's bodies are aired, a body starts.
    starts_one : (w s : ℕ) → s < R.n → number.ends L (suc w) s ≡ true → made_by R w s ≤ rows_by R (suc w) s
        → made_by R (suc w) s ≡ suc (made_by R w s)
    starts_one w s ls e h =
        let t = (hearing_in R w s).station in
        let z : (lane_after t t.own).len ≡ 0 =
        ap (λ (k : ℕ). (lane_after t k).len) (heard_standing R w s ls).formed.own
        ∙ omega (arith, own_aired R w s ls) in
        let m : may_start t ≡ true = eq-eqb (lane_after t t.own).len 0 z in
        let f = started_some t ((simulated R).ends w s ls ∙ e) m (filled.some w s ls) in
        let one : length (unless_empty (started_body t)) ≡ 1 = rw f in
        omega (
          arith,
          ap length (started_by_step R w s),
          length-append (started_by R w s) (unless_empty (started_body t)),
          one,
        )

    module _ (delay from last : ℕ) (near : Near L delay from last) where
      -- The broadcast that a station has ends within twice the delay, for what is later than now is
      -- later than its start.
      ends_soon : (u s : ℕ) → s < R.n → from ≤ u → u + 2 * delay ≤ last
          → (w : ℕ) × (u ≤ w) × (suc w ≤ u + 2 * delay) × (number.ends L (suc w) s ≡ true)
      ends_soon u s ls f l =
          let t = start L u s in
          let some = near.some in
          let v = ends_by L s t (u + 2 * delay) (omega (arith, start_limit L u s)) (record { each = one }) in
          let e =
          (ends-ended L v.0 s).1
          (record { number = num L u s; started = t; starts = starts-num L u s; ends_in = v.1 }) in
          let c = (num-starts L s (suc (num L u s)) v.0 (after (starts-num L u s) v.1)).0 in
          let g : u < v.0 =
          elim (dec_le v.0 u) [ yes h ↦ absurd (omega (arith, c, num_mono L v.0 u s h)) | no h ↦ omega arith ] in
          let k : v.0 ≡ suc (v.0 - 1) = omega arith in
          (v.0 - 1, omega arith, omega (arith, v.2), subst (λ (x : ℕ). number.ends L x s ≡ true) k e)
        where
          one : (r : ℕ) → r < R.n → (r ≡ s → ⊥) → Returned L s (start L u s) r (u + 2 * delay)
          one r lr n =
              let e : u + delay + delay ≡ u + 2 * delay = omega arith in
              let o = near.relays s r u ls lr (λ q. n (sym q)) f (omega arith) in
              record {
                turning = u + delay;
                out =
                    record {
                      arrival = o.arrival;
                      by = o.by;
                      relay = relay_earlier (start L u s) (start_limit L u s) o.relay;
                    };
                back = rw e at (near.relays r s (u + delay) lr ls n (omega arith) (omega arith));
              }

      -- Who has aired k rows has started one body more within twice the delay.
      pub bodies_progress :
          (u k s : ℕ) → s < R.n → from ≤ u → u + 2 * delay ≤ last → k ≤ rows_by R u s →
          suc k ≤ made_by R (u + 2 * delay) s
      bodies_progress u k s ls f l h =
          let v = ends_soon u s ls f l in
          let w = v.0 in
          let r = rows_mono u w s v.1 ls in
          let r' = rows_mono w (suc w) s (omega arith) ls in
          let b = rows_bodies w s s ls ls in
          elim (dec_le (suc k) (made_by R w s)) [
            | yes m ↦ omega (arith, bodies_mono w (u + 2 * delay) s (omega (arith, v.2)) ls)
            | no m ↦
                omega (
                  arith,
                  starts_one w s ls v.3 (omega arith),
                  bodies_mono (suc w) (u + 2 * delay) s v.2 ls,
                )
          ]

      -- Where all have aired k rows, all have aired one more within three times the delay.
      pub rows_progress : (u k : ℕ) → from ≤ u → u + 3 * delay ≤ last → ((p : ℕ) → p < R.n → k ≤ rows_by R u p)
          → (p : ℕ) → p < R.n → suc k ≤ rows_by R (u + 3 * delay) p
      rows_progress u k f l all p lp =
          let some = near.some in
          let w = u + 3 * delay - 1 in
          let e : u + 3 * delay ≡ suc w = omega arith in
          rw e
          (rows_least L (made_by R) (rows_by R) (suc w) (counting R (suc w)) w p (suc k) (omega arith) lp
          (λ s ls.
          omega (
            arith,
            bodies_progress u k s ls f (omega arith) (all s ls),
            shown_some (made_by R) s (u + 2 * delay),
            shown_mono L (made_by R) (rows_by R) (suc w) (counting R (suc w)) (suc (u + 2 * delay))
                (min (suc w) (news L (suc w) p s)) s
                (heard s ls w e)
                (omega arith)
                ls,
          )))
        where
          heard :
              (s : ℕ) → s < R.n → (w : ℕ) → u + 3 * delay ≡ suc w →
              suc (u + 2 * delay) ≤ min (suc w) (news L (suc w) p s)
          heard s ls w e =
              let some = near.some in
              elim (ℕ_discrete p s) [
                | yes q ↦ rw q (omega (arith, news_own L (suc w) s))
                | no d ↦
                    (let g : u + 2 * delay + delay ≡ suc w = omega arith in
                    let r = near.relays s p (u + 2 * delay) ls lp (λ q. d (sym q)) (omega arith) (omega arith) in
                    omega (arith, relay_by-news L (suc w) s (u + 2 * delay) p (rw g at r)))
              ]

      -- The same for more rows.
      pub rows_within : (u k m : ℕ) → from ≤ u → u + m * (3 * delay) ≤ last → ((p : ℕ) → p < R.n → k ≤ rows_by R u p)
          → (p : ℕ) → p < R.n → k + m ≤ rows_by R (u + m * (3 * delay)) p
      rows_within u k zero f l all p lp =
          let e : u + 0 * (3 * delay) ≡ u = omega arith in rw e (omega (arith, all p lp))
      rows_within u k (suc m) f l all p lp =
          let e : u + suc m * (3 * delay) ≡ u + m * (3 * delay) + 3 * delay = omega (arith, suc-mul m (3 * delay)) in
          rw e
          (omega (
            arith,
            rows_progress (u + m * (3 * delay)) (k + m) (omega arith) (omega arith)
                (λ q lq. rows_within u k m f (omega arith) all q lq) p lp,
          ))

      -- What one has aired, all have aired within the delay: whoever hears of it then has all that
      -- it aired with.
      pub rows_caught :
          (u p q : ℕ) → p < R.n → q < R.n → from ≤ u → u + delay ≤ last → rows_by R u p ≤ rows_by R (u + delay) q
      rows_caught u p q lp lq f l =
          let some = near.some in
          let w = u + delay - 1 in
          let e : u + delay ≡ suc w = omega arith in
          rw e
          (rows_least L (made_by R) (rows_by R) (suc w) (counting R (suc w)) w q (rows_by R u p) (omega arith) lq
          (λ s ls.
          omega (
            arith,
            rows_limit L (made_by R) (rows_by R) u (counting R u) u p s (le_refl u) lp ls,
            shown_mono L (made_by R) (rows_by R) (suc w) (counting R (suc w)) (news L u p s)
                (min (suc w) (news L (suc w) q s)) s
                (omega (arith, news_limit L u p s, heard s w e))
                (omega arith)
                ls,
          )))
        where
          heard : (s w : ℕ) → u + delay ≡ suc w → news L u p s ≤ news L (suc w) q s
          heard s w e =
              elim (ℕ_discrete q p) [
                | yes x ↦ rw x (news_mono L u (suc w) p s (omega arith))
                | no d ↦
                    (let r = near.relays p q u lp lq (λ x. d (sym x)) f (omega arith) in
                    news_carries_earlier L (suc w) q p s u (relay_by-news L (suc w) p u q (rw e at r)))
              ]
