-- What a station inside its limits sends may stand in a frame, once its own record's count fits
-- one: each record of its table is inside its limits.
use Prim.Native.Nat.{ℕ, zero, suc, ◌≤◌, ◌<◌}
use mathlib.Core.Bool.{Bool, true, false, cond, ◌||◌}
use mathlib.Core.List.{List, [], ◌∷◌, ◌++◌}
use mathlib.Core.Path.{◌≡◌, refl, sym, subst}
use native.Mathlib.Omega.{arith}
use lib.Dec.{eqb}
use borrow.Author.Tests.{eqb-true}
use Rattle.bodies.specs.declared.Body.{Body}
use Rattle.frame_spec.specs.declared.Record.{Record}
use Rattle.frame_spec.specs.Record.{count_inside, framed}
use Rattle.frame_spec.proofs.Labels.{framed_label}
use Rattle.lists.specs.Below.{filter_map}
use Rattle.station_spec.specs.declared.Station.{Station}
use Rattle.frame_spec.specs.Calls.{table_records}
use Rattle.station_spec.specs.State.{held_of, record_of, sent_records}
use Rattle.station_spec.specs.Limits.{allowed}
use Rattle.station_spec.specs.Calls.{own_count_inside}
use Rattle.station_spec.proofs.StationLimits.{RecordHolds, Inside}
use Rattle.station_spec.proofs.LimitsHear.{Carried}
use Rattle.station_spec.proofs.LimitsHearing.{AllCarried}

pub carried_append : (inside : Body → Bool) (n : ℕ) (xs ys : List Record) → AllCarried inside n xs → AllCarried inside n ys → AllCarried inside n (xs ++ ys)
carried_append inside n [] ys p q = q
carried_append inside n (x ∷ xs) ys p q = (p.0, carried_append inside n xs ys p.1 q)

framed-carried :
    (inside : Body → Bool) (n own k : ℕ) (r : Record) → n ≤ 16 → k < n → RecordHolds inside n own k r → count_inside n r.count ≡ true → Carried inside n (framed n r)
unfolding framed
framed-carried inside n own k r high l c fits =
    record {
      station = rw c.station l;
      count = fits;
      body = c.body;
      labels = λ j m. rw (framed_label n r j m) (c.labels j m);
    }

or_cases : (a b : Bool) → (a || b) ≡ true → (a ≡ true → b ≡ true) → b ≡ true
or_cases true b h f = f refl
or_cases false b h f = h

module _ (s : Station) (c : Inside s) (fits : own_count_inside s ≡ true) where
  -- every record that is sent has a count that fits a frame
  pub sent_count : (k : ℕ) → k < s.n → held_of s k ≡ true → count_inside s.n (record_of s k).count ≡ true
  sent_count k l e =
      or_cases (eqb k s.own) (count_inside s.n (record_of s k).count) ((c.places k l).held e).count
      (λ same. subst (λ (j : ℕ). count_inside s.n (record_of s j).count ≡ true) (sym (eqb-true k s.own same)) fits)

  each : (k : ℕ) → k < s.n → held_of s k ≡ true → Carried (allowed s) s.n (framed s.n (record_of s k))
  each k l e = framed-carried (allowed s) s.n s.own k (record_of s k) c.high l ((c.places k l).held e) (sent_count k l e)

  gathered : (m : ℕ) → m ≤ s.n → AllCarried (allowed s) s.n (filter_map m (held_of s) (λ k. framed s.n (record_of s k)))
  unfolding filter_map
  gathered zero l = tt
  gathered (suc m) l =
      carried_append (allowed s) s.n (filter_map m (held_of s) (λ k. framed s.n (record_of s k)))
      (cond (held_of s m) (framed s.n (record_of s m) ∷ []) [])
      (gathered m (omega arith)) (last (held_of s m) refl)
    where
      last : (t : Bool) → held_of s m ≡ t → AllCarried (allowed s) s.n (cond t (framed s.n (record_of s m) ∷ []) [])
      last true e = (each m l e, tt)
      last false e = tt

  pub sent_carried : AllCarried (allowed s) s.n (sent_records s)
  unfolding sent_records table_records
  sent_carried = gathered s.n (omega arith)
