-- Over the group's rounds: with the merged log the k-th end is reported no later than with either
-- log alone, whatever was posted on either side. Ends that are reported are those of the links, by
-- demand 3, and among links those with more hearings end no later.
use mathlib.Core.List.{List}
use mathlib.Core.Path.{◌≡◌, refl, sym, subst, ◌∙◌}
use Prim.Native.Nat.{ℕ, zero, suc, max, ◌+◌, ◌*◌, ◌/◌, ◌<◌, ◌≤◌}
use native.Mathlib.Decide.{dec_le}
use native.Mathlib.Nat.{le_refl}
use native.Mathlib.Omega.{arith}
use lib.ListN.{get_or, length}
use Rattle.bodies.specs.Refusals.{done}
use Rattle.links.specs.Log.{masks_in, cut}
use Rattle.links.specs.Relay.{Links, of_log}
use Rattle.links.specs.Part.{Part, EndComes}
use Rattle.links.proofs.Log.{hears_in_hearer}
use Rattle.links.proofs.Forecast.{num-end_count}
use Rattle.links.proofs.Part.{ends_part, comes_numbers}
use Rattle.links.proofs.Prefix.{Same}
use Rattle.station_spec.specs.declared.Setup.{Setup}
use Rattle.group_spec.specs.History.{History, Call, history_of}
use Rattle.group_spec.specs.Demand.{Demand}
use Rattle.group_spec.proofs.DemandThree.{demand_three}
use Rattle.planning_spec.specs.LinkLog.{rounds_of, links_of}
use Rattle.planning_spec.specs.Merge.{merged_log, logs_refusal}
use Rattle.planning_spec.proofs.LinkLog.{hears_in_mask, whole_hears}
use Rattle.planning_spec.proofs.Merge.{BothAccepted, both_accepted, merged_whole, part_first, part_second}
use Rattle.planning_runs.specs.Runs.{FreshOf, EndReported, EndReportedBy, RoundsFollow}
use Rattle.planning_runs.proofs.Reported.{reported_ends, reported_count, no_round, masks_at}

-- The k-th end that is reported is the k-th of the links.
module _ (n : ℕ) (H : History) (d : Demand n H) (s : ℕ) (ls : s < n) where
  abbrev L : Links
  L = of_log n H.log

  reported_comes : (k u : ℕ) → EndReported H s k u → EndComes L s k u
  reported_comes k u e =
      (comes_numbers L s k u).1 (
        sym (reported_ends n H d s ls u e.within) ∙ e.reported,
        omega (arith, reported_count n H d s ls u e.within, e.number, num-end_count L u s),
      )

  comes_reported : (k u : ℕ) → u ≤ length H.rounds → EndComes L s k u → EndReported H s k u
  comes_reported k u l c =
      let h = (comes_numbers L s k u).0 c in
      record {
        within = l;
        reported = reported_ends n H d s ls u l ∙ h.0;
        number = omega (arith, reported_count n H d s ls u l, h.1, num-end_count L u s);
      }

-- Demand 3 of a fresh group of n stations.
fresh_demand : (n : ℕ) (setup : Setup) → FreshOf n setup → (calls : List Call) → Demand n (history_of setup calls)
fresh_demand n setup fresh calls = subst (λ m. Demand m (history_of setup calls)) fresh.size (demand_three setup fresh.taken calls)

-- Any two lists of posts and rounds, from two setups with the same N, where up to a round each
-- hearing of the first is one of the second.
pub runs_part : (n : ℕ) (one two : Setup) → FreshOf n one → FreshOf n two → (calls more : List Call) (last : ℕ)
    → Part (of_log n (history_of one calls).log) (of_log n (history_of two more).log) last
    → (s k u : ℕ) → s < n → u ≤ last → u ≤ length (history_of two more).rounds
    → EndReported (history_of one calls) s k u → EndReportedBy (history_of two more) s k u
runs_part n one two begins begins_too calls more last part s k u ls l m e =
    let H = history_of one calls in
    let G = history_of two more in
    let c =
    ends_part (of_log n H.log) (of_log n G.log) last part s k u l (reported_comes n H (fresh_demand n one begins calls) s ls k u e) in
    record {
      round = c.round;
      by = c.by;
      reports = comes_reported n G (fresh_demand n two begins_too more) s ls k c.round (omega (arith, c.by)) c.comes;
    }

-- Rounds that follow a log have its links, as far as they go.
pub follow_same : (n r : ℕ) (H : History) (log : List ℕ) → length log ≡ r * n → RoundsFollow n H log
    → Same (of_log n H.log) (links_of n log) (length H.rounds)
follow_same n r H log whole f = record { sizes = refl; hearings = hear }
  where
    hear : (u p j : ℕ) → u ≤ length H.rounds → (of_log n H.log).hears u p j ≡ (links_of n log).hears u p j
    hear zero p j l = no_round n H.log (cut n (rounds_of n log) log) p j
    hear (suc u) p j l =
        elim (dec_le (suc p) n) [
          | yes h ↦
              hears_in_mask n (masks_in H.log (suc u)) p j (get_or log (u * n + p) 0) h (masks_at H.log u p ∙ f.masks u p l h)
              ∙ sym (whole_hears n r log u p j whole h)
          | no g ↦
              hears_in_hearer n (masks_in H.log (suc u)) p j (omega arith)
              ∙ sym (hears_in_hearer n (masks_in (cut n (rounds_of n log) log) (suc u)) p j (omega arith))
        ]

-- Links between which a part stands.
between : (L A B M : Links) (l m last : ℕ) → last ≤ l → last ≤ m → Same L A l → Part A B last → Same M B m → Part L M last
between L A B M l m last h k a p b =
    record {
      sizes = a.sizes ∙ p.sizes ∙ sym b.sizes;
      hearings =
          λ u q j i t. b.hearings u q j (omega arith) ∙ p.hearings u q j i (sym (a.hearings u q j (omega arith)) ∙ t);
    }

-- The merged log against either, over lists of posts and rounds from fresh: `calls` with one log,
-- `more` with the merged log, any posts in each, and at least u rounds in `more`.
module _ (n : ℕ) (one two : Setup) (begins : FreshOf n one) (begins_too : FreshOf n two)
    (first second : List ℕ) (taken : logs_refusal n (length first) (length second) ≡ done) where
  both : BothAccepted n (length first) (length second)
  both = both_accepted n (length first) (length second) taken

  abbrev merged : List ℕ
  merged = merged_log n first second

  against : (log : List ℕ) (r : ℕ) → length log ≡ r * n → ((last : ℕ) → Part (links_of n log) (links_of n merged) last)
      → (calls more : List Call) → RoundsFollow n (history_of one calls) log → RoundsFollow n (history_of two more) merged
      → (s k u : ℕ) → s < n → u ≤ length (history_of two more).rounds
      → EndReported (history_of one calls) s k u → EndReportedBy (history_of two more) s k u
  against log r whole part calls more f g s k u ls l e =
      let H = history_of one calls in
      let G = history_of two more in
      runs_part n one two begins begins_too calls more u
      (between (of_log n H.log) (links_of n log) (links_of n merged) (of_log n G.log) (length H.rounds) (length G.rounds) u e.within l
      (follow_same n r H log whole f) (part u)
      (follow_same n (max (length first / n) (length second / n)) G merged
      (merged_whole n (length first / n) (length second / n) first second both.one.whole both.two.whole) g))
      s k u ls (le_refl u) l e

  pub runs_first : (calls more : List Call) → RoundsFollow n (history_of one calls) first → RoundsFollow n (history_of two more) merged
      → (s k u : ℕ) → s < n → u ≤ length (history_of two more).rounds
      → EndReported (history_of one calls) s k u → EndReportedBy (history_of two more) s k u
  runs_first =
      against first (length first / n) both.one.whole
      (part_first n (length first / n) (length second / n) first second both.one.whole both.two.whole)

  pub runs_second : (calls more : List Call) → RoundsFollow n (history_of one calls) second → RoundsFollow n (history_of two more) merged
      → (s k u : ℕ) → s < n → u ≤ length (history_of two more).rounds
      → EndReported (history_of one calls) s k u → EndReportedBy (history_of two more) s k u
  runs_second =
      against second (length second / n) both.two.whole
      (part_second n (length first / n) (length second / n) first second both.one.whole both.two.whole)
