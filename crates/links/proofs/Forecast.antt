-- Counting ends round by round gives what the end rule gives by relays, and no other count or round
-- does. Both follow from the number and the start of the present broadcast: the count is the number
-- less one, and the last end is the start.
use mathlib.Core.Bool.{Bool, true, false, cond}
use mathlib.Core.Logic.{⊎_elim}
use mathlib.Core.Path.{◌≡◌, refl, sym, ◌∙◌}
use Prim.Native.Nat.{ℕ, zero, suc, ◌≤◌}
use native.Mathlib.Decide.{dec_le}
use native.Mathlib.Omega.{arith}
use Rattle.lists.proofs.Later.{from_on}
use Rattle.links.specs.Relay.{Links}
use Rattle.links.specs.EndRule.{after}
use Rattle.links.specs.Inner.Number.{start, ends, num}
use Rattle.links.specs.Forecast.{end_count, last_end, ForecastByRelays}
use Rattle.links.proofs.Number.{step, start_limit, num_mono, start-ends, start_stays, num-ends, num_stays, num_zero, start_zero}
use Rattle.links.proofs.EndRule.{ends_rule, starts-num, num-starts}
use Rattle.links.proofs.Prefix.{Same, ends_same}

module _ (L : Links) where
  pub end_count_zero : (s : ℕ) → end_count L 0 s ≡ 0
  unfolding end_count
  end_count_zero s = refl

  pub end_count_step : (u s : ℕ) → end_count L (suc u) s ≡ cond (ends L (suc u) s) (suc (end_count L u s)) (end_count L u s)
  unfolding end_count
  end_count_step u s = refl

  pub last_end_zero : (s : ℕ) → last_end L 0 s ≡ 0
  unfolding last_end
  last_end_zero s = refl

  pub last_end_step : (u s : ℕ) → last_end L (suc u) s ≡ cond (ends L (suc u) s) (suc u) (last_end L u s)
  unfolding last_end
  last_end_step u s = refl

  -- At most one end a round.
  pub end_count_most : (u s : ℕ) → end_count L u s ≤ u
  end_count_most zero s = omega (arith, end_count_zero s)
  end_count_most (suc u) s = go (ends L (suc u) s) (end_count_step u s) (end_count_most u s)
    where
      go : (b : Bool) → end_count L (suc u) s ≡ cond b (suc (end_count L u s)) (end_count L u s) → end_count L u s ≤ u → end_count L (suc u) s ≤ suc u
      go true e h = omega arith
      go false e h = omega arith

  pub num-end_count : (u s : ℕ) → num L u s ≡ suc (end_count L u s)
  num-end_count zero s = omega (arith, num_zero L s, end_count_zero s)
  num-end_count (suc u) s = go (ends L (suc u) s) refl (end_count_step u s) (num-end_count u s)
    where
      go : (b : Bool) → ends L (suc u) s ≡ b → end_count L (suc u) s ≡ cond (ends L (suc u) s) (suc (end_count L u s)) (end_count L u s)
          → num L u s ≡ suc (end_count L u s) → num L (suc u) s ≡ suc (end_count L (suc u) s)
      go true e c h = omega (arith, num-ends L u s e, rw e at c)
      go false e c h = omega (arith, num_stays L u s e, rw e at c)

  pub start-last_end : (u s : ℕ) → start L u s ≡ last_end L u s
  start-last_end zero s = omega (arith, start_zero L s, last_end_zero s)
  start-last_end (suc u) s = go (ends L (suc u) s) refl (last_end_step u s) (start-last_end u s)
    where
      go : (b : Bool) → ends L (suc u) s ≡ b → last_end L (suc u) s ≡ cond (ends L (suc u) s) (suc u) (last_end L u s)
          → start L u s ≡ last_end L u s → start L (suc u) s ≡ last_end L (suc u) s
      go true e c h = omega (arith, start-ends L u s e, rw e at c)
      go false e c h = omega (arith, start_stays L u s e, rw e at c)

  pub forecast_by_relays : (rounds s : ℕ) → ForecastByRelays L rounds s (end_count L rounds s) (last_end L rounds s)
  forecast_by_relays rounds s =
      rw (sym (start-last_end rounds s))
      record {
        starts = rw (sym (num-end_count rounds s)) (starts-num L rounds s);
        within = start_limit L rounds s;
        goes_on =
            λ v h.
            elim (dec_le (suc rounds) v) [
              | yes l ↦ l
              | no g ↦
                  absurd (omega (
                    arith,
                    (num-starts L s (suc (num L rounds s)) v (after (starts-num L rounds s) h)).0,
                    num_mono L v rounds s (omega arith),
                  ))
            ];
      }

  pub station_only : (rounds s count last : ℕ) → ForecastByRelays L rounds s count last
      → (count ≡ end_count L rounds s) × (last ≡ last_end L rounds s)
  station_only rounds s count last f =
      let k = num-starts L s (suc count) last f.starts in
      let h =
      from_on (λ w. w ≤ rounds → (num L w s ≡ suc count) × (start L w s ≡ last)) last (λ l. k)
      (λ w l before m.
      ⊎_elim
      (λ (c : (ends L (suc w) s ≡ true) × (start L (suc w) s ≡ suc w) × (num L (suc w) s ≡ suc (num L w s))).
      absurd (omega (arith, f.goes_on (suc w) (rw (before (omega arith)).1 at ((ends_rule L w s).0 c.0)))))
      (λ (c : (ends L (suc w) s ≡ false) × (start L (suc w) s ≡ start L w s) × (num L (suc w) s ≡ num L w s)).
      (c.2 ∙ (before (omega arith)).0, c.1 ∙ (before (omega arith)).1))
      (step L w s))
      rounds f.within (omega arith) in
      (omega (arith, h.0, num-end_count rounds s), sym h.1 ∙ start-last_end rounds s)

-- Links that agree up to a round have the same ends up to there.
module _ (L M : Links) (last : ℕ) (same : Same L M last) where
  pub end_count_same : (u s : ℕ) → u ≤ last → end_count L u s ≡ end_count M u s
  end_count_same zero s l = end_count_zero L s ∙ sym (end_count_zero M s)
  end_count_same (suc u) s l =
      end_count_step L u s
      ∙ (rw (ends_same L M last same (suc u) s l, end_count_same u s (omega arith)) (sym (end_count_step M u s)))

  pub last_end_same : (u s : ℕ) → u ≤ last → last_end L u s ≡ last_end M u s
  last_end_same zero s l = last_end_zero L s ∙ sym (last_end_zero M s)
  last_end_same (suc u) s l =
      last_end_step L u s
      ∙ (rw (ends_same L M last same (suc u) s l, last_end_same u s (omega arith)) (sym (last_end_step M u s)))
