-- Two logs of one listing of the base program never differ, and are never refused: by demand 3 one
-- of two aired lists is a beginning of the other, and a log is its station's aired list, or empty
-- where the script has no such station.
use Prim.Native.Nat.{ℕ, suc, ◌<◌}
use mathlib.Core.Path.{refl, sym, ap, subst, ◌∙◌}
use mathlib.Core.List.{List, [], ◌∷◌, ◌++◌, map, map-append}
use mathlib.Core.Logic.{◌⊎◌, ⊎_elim}
use native.Mathlib.Omega.{arith}
use native.Mathlib.Decide.{dec_le}
use borrow.Author.Tests.{le-ltb}
use Rattle.station_spec.specs.declared.Taking.{Taking}
use Rattle.group_spec.specs.History.{aired_list}
use Rattle.group_spec.specs.Demand.{Begins}
use Rattle.group_spec.proofs.Setups.{accepted}
use Rattle.group_spec.proofs.DemandThree.{demand_three}
use Rattle.listing_spec.specs.Listing.{setup_of, listing_of}
use Rattle.listing_spec.specs.Calls.{calls_of}
use Rattle.air_logs_spec.specs.Logs.{Edit, log_of}
use Rattle.air_logs_spec.specs.Compare.{compared_from, compare_refusal, compare_call, Agrees, LogsFit}
use Rattle.air_logs_spec.proofs.Meaning.{same_edit_lem}
use Rattle.air_logs_spec.proofs.RoundLog.{logged}
use Rattle.air_logs_spec.proofs.ScriptLog.{size, told, size_most, script_form, script_log, script_above}

-- a beginning, on either side
first_agrees : (k : ℕ) (xs more : List Edit) → Agrees (compared_from k xs (xs ++ more))
unfolding compared_from
first_agrees k [] [] = tt
first_agrees k [] (y ∷ ys) = tt
first_agrees k (x ∷ xs) more = rw (same_edit_lem x) (first_agrees (suc k) xs more)

second_agrees : (k : ℕ) (xs more : List Edit) → Agrees (compared_from k (xs ++ more) xs)
unfolding compared_from
second_agrees k [] [] = tt
second_agrees k [] (y ∷ ys) = tt
second_agrees k (x ∷ xs) more = rw (same_edit_lem x) (second_agrees (suc k) xs more)

begins_agree :
    (xs ys : List Taking) → Begins xs ys ⊎ Begins ys xs → Agrees (compared_from 1 (map logged xs) (map logged ys))
begins_agree xs ys =
    ⊎_elim
    (λ b. subst (λ (l : List Edit). Agrees (compared_from 1 (map logged xs) l))
    (sym (map-append logged xs b.rest) ∙ ap (map logged) b.whole)
    (first_agrees 1 (map logged xs) (map logged b.rest)))
    (λ b. subst (λ (l : List Edit). Agrees (compared_from 1 l (map logged ys)))
    (sym (map-append logged ys b.rest) ∙ ap (map logged) b.whole)
    (second_agrees 1 (map logged ys) (map logged b.rest)))

module _ (script : List ℕ) where
  logs_agree : (p q : ℕ) → Agrees (compared_from 1 (log_of p (listing_of script)) (log_of q (listing_of script)))
  logs_agree p q =
      elim (dec_le (size script) p) [
        | yes a ↦ rw (script_above script p a) (first_agrees 1 [] (log_of q (listing_of script)))
        | no a ↦
            elim (dec_le (size script) q) [
              | yes b ↦ rw (script_above script q b) (second_agrees 1 [] (log_of p (listing_of script)))
              | no b ↦
                  (let lp : p < size script = omega arith in
                  let lq : q < size script = omega arith in
                  let ok = accepted (setup_of (size script)) (record { low = omega arith; high = size_most script; limited = refl; known = omega arith }) in
                  rw (script_log script p lp, script_log script q lq)
                  (begins_agree (aired_list (size script) (told script) p) (aired_list (size script) (told script) q)
                  ((demand_three (setup_of (size script)) ok (calls_of script)).aired_lists_agree p q lp lq)))
            ]
      ]

-- the theorem of request A8
pub logs_fit : LogsFit
unfolding compare_call compare_refusal
logs_fit script p q hp hq = rw (le-ltb 15 p hp, le-ltb 15 q hq, script_form script) (logs_agree script p q)
