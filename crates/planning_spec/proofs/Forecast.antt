-- The forecast is what the end rule gives by relays alone, and no other answer is. Either way
-- sixteen entries are compared place by place, and for one station `links` has both halves. The
-- empty log has no rounds, so nothing ends.
use mathlib.Core.List.{List, []}
use mathlib.Core.Path.{◌≡◌, refl, sym, ap, ap₂, ◌∙◌}
use Prim.Native.Nat.{ℕ, zero, suc, ◌<◌, ◌≤◌}
use native.Mathlib.Decide.{ℕ_discrete, dec_le}
use native.Mathlib.Nat.{zero-div, zero-mod}
use native.Mathlib.Omega.{arith}
use borrow.Author.Tests.{eq-eqb, ne_eqb, le-leb}
use lib.ListN.{get_or, length, replicate, length-replicate}
use Rattle.links.specs.Forecast.{end_count, last_end}
use Rattle.links.proofs.Forecast.{forecast_by_relays, station_only, end_count_zero, last_end_zero}
use Rattle.lists.specs.Below.{set_below}
use Rattle.lists.proofs.Laws.{length-set_below, set_below_inside, set_below_above, set_below_ext, set_below_all}
use Rattle.planning_spec.specs.Forecast.{ForecastAnswer}
use Rattle.planning_spec.specs.LinkLog.{rounds_of, links_of, log_refusal}
use Rattle.planning_spec.specs.Forecast.{per_station, forecast_call, RelayForecast}
use Rattle.planning_spec.proofs.LinkLog.{accepted}

zeros_at : (k s : ℕ) → ◌≡◌ {A = ℕ} (get_or (replicate k 0) s 0) 0
zeros_at zero s = refl
zeros_at (suc k) zero = refl
zeros_at (suc k) (suc s) = zeros_at k s

pub per_station_below : (n : ℕ) (f : ℕ → ℕ) (s : ℕ) → n ≤ 16 → s < n → get_or (per_station n f) s 0 ≡ f s
per_station_below n f s few h = set_below_inside n f (replicate 16 0) s 0 h (omega (arith, length-replicate {A = ℕ} 16 0))

pub per_station_above : (n : ℕ) (f : ℕ → ℕ) (s : ℕ) → n ≤ s → get_or (per_station n f) s 0 ≡ 0
per_station_above n f s h = set_below_above n f (replicate 16 0) s 0 h ∙ zeros_at 16 s

-- Sixteen entries that are right at each station, and 0 from n up, are all of it.
pub per_station_is : (n : ℕ) (f : ℕ → ℕ) (l : List ℕ) → n ≤ 16 → length l ≡ 16 → ((s : ℕ) → s < n → get_or l s 0 ≡ f s)
    → ((s : ℕ) → n ≤ s → get_or l s 0 ≡ 0) → l ≡ per_station n f
per_station_is n f l few e below above =
    sym (set_below_all 16 l (replicate 16 0) 0 e (length-replicate {A = ℕ} 16 0))
    ∙ set_below_ext 16 (λ s. get_or l s 0) (λ s. get_or (per_station n f) s 0) (replicate 16 0) (λ s h. at s)
    ∙ set_below_all 16 (per_station n f) (replicate 16 0) 0 (length-set_below n f (replicate 16 0) ∙ length-replicate {A = ℕ} 16 0)
    (length-replicate {A = ℕ} 16 0)
  where
    at : (s : ℕ) → get_or l s 0 ≡ get_or (per_station n f) s 0
    at s =
        elim (dec_le (suc s) n) [
          | yes h ↦ below s h ∙ sym (per_station_below n f s few h)
          | no g ↦ above s (omega arith) ∙ sym (per_station_above n f s (omega arith))
        ]

-- A refused call, and one that is not.
pub forecast_refused : (n : ℕ) (log : List ℕ) → (log_refusal n (length log) ≡ 0 → ⊥)
    → forecast_call n log ≡ record { refusal = log_refusal n (length log); ends = replicate 16 0; last = replicate 16 0 }
unfolding forecast_call
forecast_refused n log h = rw (ne_eqb (log_refusal n (length log)) 0 h)

pub forecast_done : (n : ℕ) (log : List ℕ) → log_refusal n (length log) ≡ 0
    → forecast_call n log
    ≡ record {
      refusal = 0;
      ends = per_station n (λ s. end_count (links_of n log) (rounds_of n log) s);
      last = per_station n (λ s. last_end (links_of n log) (rounds_of n log) s);
    }
unfolding forecast_call
forecast_done n log h = rw (eq-eqb (log_refusal n (length log)) 0 h)

length-per_station : (n : ℕ) (f : ℕ → ℕ) → length (per_station n f) ≡ 16
length-per_station n f = length-set_below n f (replicate 16 0) ∙ length-replicate {A = ℕ} 16 0

-- The answer of the call is the forecast by relays, whatever the log.
pub forecast_relays : (n : ℕ) (log : List ℕ) → RelayForecast n log (forecast_call n log)
forecast_relays n log =
    elim (ℕ_discrete (log_refusal n (length log)) 0) [
      | yes e ↦ rw (forecast_done n log e) (done e)
      | no d ↦
          rw (forecast_refused n log d)
          record {
            refusal = refl;
            size_ends = length-replicate {A = ℕ} 16 0;
            size_last = length-replicate {A = ℕ} 16 0;
            each = λ e. absurd (d e);
            above = λ e. absurd (d e);
            refused = λ h s. (zeros_at 16 s, zeros_at 16 s);
          }
    ]
  where
    counts : ℕ → ℕ
    counts s = end_count (links_of n log) (rounds_of n log) s

    lasts : ℕ → ℕ
    lasts s = last_end (links_of n log) (rounds_of n log) s

    done : log_refusal n (length log) ≡ 0 → RelayForecast n log (record { refusal = 0; ends = per_station n counts; last = per_station n lasts })
    done e =
        let few = (accepted n (length log) e).few in
        record {
          refusal = sym e;
          size_ends = length-per_station n counts;
          size_last = length-per_station n lasts;
          each =
              λ z s h.
              rw (per_station_below n counts s few h, per_station_below n lasts s few h)
              (forecast_by_relays (links_of n log) (rounds_of n log) s);
          above = λ z s h. (per_station_above n counts s h, per_station_above n lasts s h);
          refused = λ h. absurd (h refl);
        }

none : per_station 0 (λ s. 0) ≡ replicate 16 0
unfolding set_below
none = refl

-- And no other answer is.
pub forecast_only : (n : ℕ) (log : List ℕ) (a : ForecastAnswer) → RelayForecast n log a → a ≡ forecast_call n log
forecast_only n log a r =
    elim (ℕ_discrete a.refusal 0) [
      | yes e ↦
          (let z = sym r.refusal ∙ e in
          let few = (accepted n (length log) z).few in
          same (forecast_call n log) (e ∙ sym (ap refusal_of (forecast_done n log z)))
          (per_station_is n (λ s. end_count (links_of n log) (rounds_of n log) s) a.ends few r.size_ends
          (λ s h. (station_only (links_of n log) (rounds_of n log) s _ _ (r.each e s h)).0) (λ s h. (r.above e s h).0)
          ∙ sym (ap ends_of (forecast_done n log z)))
          (per_station_is n (λ s. last_end (links_of n log) (rounds_of n log) s) a.last few r.size_last
          (λ s h. (station_only (links_of n log) (rounds_of n log) s _ _ (r.each e s h)).1) (λ s h. (r.above e s h).1)
          ∙ sym (ap last_of (forecast_done n log z))))
      | no d ↦
          (let z : log_refusal n (length log) ≡ 0 → ⊥ = λ h. d (r.refusal ∙ h) in
          same (forecast_call n log) (r.refusal ∙ sym (ap refusal_of (forecast_refused n log z)))
          (per_station_is 0 (λ s. 0) a.ends (omega arith) r.size_ends (λ s h. (r.refused d s).0) (λ s h. (r.refused d s).0)
          ∙ none ∙ sym (ap ends_of (forecast_refused n log z)))
          (per_station_is 0 (λ s. 0) a.last (omega arith) r.size_last (λ s h. (r.refused d s).1) (λ s h. (r.refused d s).1)
          ∙ none ∙ sym (ap last_of (forecast_refused n log z))))
    ]
  where
    refusal_of : ForecastAnswer → ℕ
    refusal_of b = b.refusal

    ends_of : ForecastAnswer → List ℕ
    ends_of b = b.ends

    last_of : ForecastAnswer → List ℕ
    last_of b = b.last

    same : (b : ForecastAnswer) → a.refusal ≡ b.refusal → a.ends ≡ b.ends → a.last ≡ b.last → a ≡ b
    same b x y z = rw (x, y, z)

empty_taken : (n : ℕ) → 1 ≤ n → n ≤ 16 → log_refusal n 0 ≡ 0
unfolding log_refusal
empty_taken n low high = rw (le-leb 1 n low, le-leb n 16 high, zero-mod n, zero-div n)

-- The empty log: nothing ends.
pub forecast_empty : (n : ℕ) → 1 ≤ n → n ≤ 16 → forecast_call n [] ≡ record { refusal = 0; ends = replicate 16 0; last = replicate 16 0 }
forecast_empty n low high =
    forecast_done n [] (empty_taken n low high)
    ∙ ap₂ (λ (x y : List ℕ). record { refusal = 0; ends = x; last = y })
    (zeros (λ s. end_count (links_of n []) (rounds_of n []) s) (λ s. ap (λ (u : ℕ). end_count (links_of n []) u s) (zero-div n) ∙ end_count_zero (links_of n []) s))
    (zeros (λ s. last_end (links_of n []) (rounds_of n []) s) (λ s. ap (λ (u : ℕ). last_end (links_of n []) u s) (zero-div n) ∙ last_end_zero (links_of n []) s))
  where
    zeros : (f : ℕ → ℕ) → ((s : ℕ) → f s ≡ 0) → per_station n f ≡ replicate 16 0
    zeros f e =
        sym (per_station_is n f (replicate 16 0) high (length-replicate {A = ℕ} 16 0) (λ s h. zeros_at 16 s ∙ sym (e s)) (λ s h. zeros_at 16 s))
