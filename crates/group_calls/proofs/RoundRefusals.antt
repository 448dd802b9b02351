-- What refuses a round is a small number: that of the group, of a count, or of the first refused
-- frame, and what refuses a frame is one of the list too. So it fits the number that C gets.
use mathlib.Core.Path.{◌≡◌, refl}
use mathlib.Core.Bool.{Bool, true, false, not}
use mathlib.Core.List.{List, [], ◌∷◌}
use Prim.Native.Nat.{ℕ, zero, suc, max, ◌<◌}
use native.Mathlib.Omega.{arith}
use lib.Dec.{eqb}
use Rattle.bodies.specs.Refusals.{done, outside_limits, lane_full, count_too_high, refuse_number}
use Rattle.lists.specs.Below.{any_below}
use Rattle.lists.proofs.Keeps.{cond_keeps}
use Rattle.frame_spec.specs.declared.Record.{Record}
use Rattle.links.specs.Log.{hears_in}
use Rattle.station_spec.specs.declared.Station.{Station}
use Rattle.station_spec.specs.State.{sent_records}
use Rattle.station_spec.specs.Hearing.{Hearing, overfills, hear_record, hear_records, hear_frame}
use Rattle.station_spec.proofs.HearRecord.{heard_one, hear_record_cases}
use Rattle.station_spec.specs.Calls.{own_count_inside}
use Rattle.group_spec.specs.State.{station_at, size_of, group_inside}
use Rattle.group_spec.specs.Calls.{heard_below, heard, first_refusal, round_refusal, round_call}

abbrev Small : ℕ → Type 0
Small r = r < 256

pub record SmallHearing (h : Hearing) : Type 0 where
  pub refusal : Small h.refusal

record_small : (h : Hearing) (r : Record) → SmallHearing h → SmallHearing (hear_record h r)
unfolding heard_one
record_small h r s =
    hear_record_cases SmallHearing h r (λ e. record { refusal = newer (overfills h.station r) }) (λ e. record { refusal = omega arith }) (λ e f. s)
  where
    newer : (full : Bool) → max h.refusal (refuse_number full lane_full done) < 256
    newer true = omega (arith, s.refusal)
    newer false = omega (arith, s.refusal)

records_small : (rs : List Record) (h : Hearing) → SmallHearing h → SmallHearing (hear_records h rs)
unfolding hear_records
records_small [] h s = s
records_small (r ∷ rs) h s = records_small rs (hear_record h r) (record_small h r s)

frame_small : (h : Hearing) (rs : List Record) → SmallHearing h → SmallHearing (hear_frame h rs)
unfolding hear_frame
frame_small h rs s = cond_keeps SmallHearing (eqb h.refusal done) (hear_records h rs) h (records_small rs h s) s

below_small : (g : List Station) (masks : List ℕ) (i j : ℕ) → SmallHearing (heard_below g masks i j)
unfolding heard_below
below_small g masks i zero = record { refusal = omega arith }
below_small g masks i (suc j) =
    cond_keeps SmallHearing (hears_in (size_of g) masks i j) (hear_frame (heard_below g masks i j) (sent_records (station_at g j))) (heard_below g masks i j)
    (frame_small (heard_below g masks i j) (sent_records (station_at g j)) (below_small g masks i j)) (below_small g masks i j)

first_small : (n : ℕ) (f : ℕ → ℕ) → ((i : ℕ) → f i < 256) → first_refusal n f < 256
unfolding first_refusal
first_small zero f h = omega arith
first_small (suc k) f h =
    cond_keeps (λ (x : ℕ). x < 256) (eqb (first_refusal k f) done) (f k) (first_refusal k f) (h k) (first_small k f h)

module _ (g : List Station) (masks : List ℕ) where
  refusal_small : round_refusal g masks < 256
  unfolding round_refusal
  refusal_small =
      let hearing = first_refusal (size_of g) (λ i. (heard g masks i).refusal) in
      let counts : Bool = any_below (size_of g) (λ k. not (own_count_inside (station_at g k))) in
      cond_keeps (λ (x : ℕ). x < 256) (not (group_inside g)) outside_limits (refuse_number counts count_too_high hearing) (omega arith)
      (cond_keeps (λ (x : ℕ). x < 256) counts count_too_high hearing (omega arith)
      (first_small (size_of g) (λ i. (heard g masks i).refusal) (λ i. (below_small g masks i (size_of g)).refusal)))

  pub round_small : (round_call g masks).refusal < 256
  unfolding round_call
  round_small = go (eqb (round_refusal g masks) done) refl
    where
      go : (t : Bool) → eqb (round_refusal g masks) done ≡ t → (round_call g masks).refusal < 256
      go true e = rw e (omega arith)
      go false e = rw e refusal_small
