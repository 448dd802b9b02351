-- The ends that rounds report are those of the links that the rounds have, in number and last
-- round: demand 3 says of each round that an end is reported exactly where the end rule has it. A
-- log whose masks the rounds were given has the same links as far as the rounds go.
use mathlib.Core.List.{List, []}
use mathlib.Core.Path.{◌≡◌, refl, sym, ap, ◌∙◌}
use Prim.Native.Nat.{ℕ, zero, suc, ◌/◌, ◌<◌, ◌≤◌}
use native.Mathlib.Decide.{dec_le}
use native.Mathlib.Nat.{mul-div_cancel}
use native.Mathlib.Omega.{arith}
use lib.ListN.{get_or, length}
use Rattle.labels.proofs.LabelLaws.{same_test}
use Rattle.links.specs.Log.{hears_in, masks_in, cut}
use Rattle.links.specs.Relay.{Links, of_log}
use Rattle.links.specs.Inner.Number.{start, ends}
use Rattle.links.specs.Forecast.{end_count, last_end}
use Rattle.links.proofs.EndRule.{ends_rule}
use Rattle.links.proofs.Forecast.{end_count_zero, end_count_step, last_end_zero, last_end_step, start-last_end}
use Rattle.links.proofs.Log.{hears_in_hearer, cut_mask}
use Rattle.links.proofs.Number.{ends_zero}
use Rattle.links.proofs.Prefix.{Same}
use Rattle.group_spec.specs.History.{History, ends_at, started_in}
use Rattle.group_spec.specs.Demand.{Demand}
use Rattle.planning_spec.specs.LinkLog.{rounds_of, links_of}
use Rattle.planning_runs.specs.Runs.{ends_reported, last_reported, RoundsHave}

last_started : (H : History) (s u : ℕ) → last_reported H s u ≡ started_in H s u
unfolding last_reported started_in
last_started H s zero = refl
last_started H s (suc u) = rw (last_started H s u)

module _ (n : ℕ) (H : History) (d : Demand n H) (s : ℕ) (ls : s < n) where
  abbrev L : Links
  L = of_log n H.log

  end_after : (u : ℕ) → suc u ≤ length H.rounds → started_in H s u ≡ start L u s → ends_at H s (suc u) ≡ ends L (suc u) s
  end_after u l e =
      let x = d.ends_exactly s u ls (omega arith) in
      same_test (ends_at H s (suc u)) (ends L (suc u) s)
      (λ t. (ends_rule L u s).1 (rw e at (x.0 t)))
      (λ t. x.1 (rw e ((ends_rule L u s).0 t)))

  pub reported_last : (u : ℕ) → u ≤ length H.rounds → last_reported H s u ≡ last_end L u s
  unfolding last_reported
  reported_last zero l = sym (last_end_zero L s)
  reported_last (suc u) l =
      let k = reported_last u (omega arith) in
      rw (end_after u l (sym (last_started H s u) ∙ k ∙ sym (start-last_end L u s)), k) (sym (last_end_step L u s))

  -- An end is reported exactly where the links end a broadcast.
  pub reported_ends : (u : ℕ) → u ≤ length H.rounds → ends_at H s u ≡ ends L u s
  unfolding ends_at
  reported_ends zero l = sym (ends_zero L s)
  reported_ends (suc u) l =
      end_after u l (sym (last_started H s u) ∙ reported_last u (omega arith) ∙ sym (start-last_end L u s))

  pub reported_count : (u : ℕ) → u ≤ length H.rounds → ends_reported H s u ≡ end_count L u s
  unfolding ends_reported
  reported_count zero l = sym (end_count_zero L s)
  reported_count (suc u) l =
      rw (reported_ends (suc u) l, reported_count u (omega arith)) (sym (end_count_step L u s))

-- Two lists of masks that agree below n have the same hearings.
same_mask : (n : ℕ) (a b : List ℕ) (p j : ℕ) → get_or a p 0 ≡ get_or b p 0 → hears_in n a p j ≡ hears_in n b p j
unfolding hears_in
same_mask n a b p j e = rw e

hears_in_ext : (n : ℕ) (a b : List ℕ) (p j : ℕ) → ((i : ℕ) → i < n → get_or a i 0 ≡ get_or b i 0) → hears_in n a p j ≡ hears_in n b p j
hears_in_ext n a b p j e =
    elim (dec_le (suc p) n) [
      | yes l ↦ same_mask n a b p j (e p l)
      | no g ↦ hears_in_hearer n a p j (omega arith) ∙ sym (hears_in_hearer n b p j (omega arith))
    ]

pub no_round : (n : ℕ) (a b : List (List ℕ)) (p j : ℕ) → hears_in n (masks_in a 0) p j ≡ hears_in n (masks_in b 0) p j
unfolding masks_in
no_round n a b p j = refl

pub masks_at : (a : List (List ℕ)) (u i : ℕ) → get_or (masks_in a (suc u)) i 0 ≡ get_or (get_or a u []) i 0
unfolding masks_in
masks_at a u i = refl

module _ (n : ℕ) (low : 1 ≤ n) (H : History) (log : List ℕ) (has : RoundsHave n H log) where
  pub rounds_number : rounds_of n log ≡ length H.rounds
  rounds_number = ap (λ (x : ℕ). x / n) has.whole ∙ mul-div_cancel (length H.rounds) low

  pub rounds_same : Same (of_log n H.log) (links_of n log) (rounds_of n log)
  rounds_same = record { sizes = refl; hearings = hear }
    where
      hear : (u p j : ℕ) → u ≤ rounds_of n log → (of_log n H.log).hears u p j ≡ (links_of n log).hears u p j
      hear zero p j l = no_round n H.log (cut n (rounds_of n log) log) p j
      hear (suc u) p j l =
          hears_in_ext n (masks_in H.log (suc u)) (masks_in (cut n (rounds_of n log) log) (suc u)) p j
          (λ i h.
          masks_at H.log u i
          ∙ has.masks u i (omega (arith, rounds_number)) h
          ∙ sym (cut_mask n (rounds_of n log) log u i (omega arith) h))
