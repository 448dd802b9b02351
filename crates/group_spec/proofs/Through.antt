-- Hearing that goes on after a refusal. A round stops hearing at the first refused frame; the
-- simulation follows this hearing instead, and shows that it is never refused. A hearing that is
-- not refused has stopped nowhere, so the two are then the same.
use Prim.Native.Nat.{ℕ, zero, suc, ◌+◌, ◌<◌}
use native.Mathlib.Nat.{zero-add, suc-add}
use mathlib.Core.Bool.{Bool, true, false, cond}
use mathlib.Core.List.{List}
use mathlib.Core.Path.{◌≡◌, refl, ap}
use lib.ListN.{length}
use borrow.Author.Tests.{eq-eqb}
use Rattle.bodies.specs.Refusals.{done}
use Rattle.links.specs.Log.{hears_in}
use Rattle.lists.specs.Below.{set_below}
use Rattle.lists.proofs.Laws.{length-set_below, set_below_inside, set_below_ext}
use Rattle.frame_spec.specs.declared.Record.{Record}
use Rattle.station_spec.specs.declared.Station.{Station}
use Rattle.station_spec.specs.State.{sent_records}
use Rattle.station_spec.specs.Hearing.{Hearing, initial_hearing, hear_records, hear_frame}
use Rattle.station_spec.specs.Turn.{after_turn}
use Rattle.station_spec.proofs.HearRecord.{records_not_refused}
use Rattle.group_spec.specs.State.{no_station, station_at, size_of}
use Rattle.group_spec.specs.Calls.{heard_below, heard, after_round}

-- station i once it has heard the frames of the senders below k of its mask, refused or not
unfoldable pub heard_through : List Station → List ℕ → ℕ → ℕ → Hearing
heard_through g masks i zero = initial_hearing (station_at g i)
heard_through g masks i (suc j) =
    cond (hears_in (size_of g) masks i j)
    (hear_records (heard_through g masks i j) (sent_records (station_at g j)))
    (heard_through g masks i j)

-- the group after a round in which each station hears on
unfoldable pub round_through : List Station → List ℕ → List Station
round_through g masks = set_below (size_of g) (λ i. after_turn (heard_through g masks i (size_of g)).station) g

pub through_at :
    (g : List Station) (masks : List ℕ) (i : ℕ) → i < size_of g → i < length g →
    station_at (round_through g masks) i ≡ after_turn (heard_through g masks i (size_of g)).station
unfolding round_through
through_at g masks i l b = set_below_inside (size_of g) (λ k. after_turn (heard_through g masks k (size_of g)).station) g i no_station l b

pub through_length : (g : List Station) (masks : List ℕ) → length (round_through g masks) ≡ length g
unfolding round_through
through_length g masks = length-set_below (size_of g) (λ i. after_turn (heard_through g masks i (size_of g)).station) g

frame_heard : (h : Hearing) (rs : List Record) → h.refusal ≡ done → hear_frame h rs ≡ hear_records h rs
unfolding hear_frame
frame_heard h rs e = rw (eq-eqb h.refusal done e)

-- where hearing on is not refused, nothing was refused on the way
pub below_through :
    (g : List Station) (masks : List ℕ) (i k : ℕ) → (heard_through g masks i k).refusal ≡ done →
    heard_below g masks i k ≡ heard_through g masks i k
unfolding heard_below heard_through
below_through g masks i zero e = refl
below_through g masks i (suc j) e = go (hears_in (size_of g) masks i j) (below_through g masks i j) e
  where
    go :
        (t : Bool) → ((heard_through g masks i j).refusal ≡ done → heard_below g masks i j ≡ heard_through g masks i j) →
        (cond t (hear_records (heard_through g masks i j) (sent_records (station_at g j))) (heard_through g masks i j)).refusal ≡ done →
        cond t (hear_frame (heard_below g masks i j) (sent_records (station_at g j))) (heard_below g masks i j)
        ≡ cond t (hear_records (heard_through g masks i j) (sent_records (station_at g j))) (heard_through g masks i j)
    go true same q =
        let before = records_not_refused (heard_through g masks i j) (sent_records (station_at g j)) q in
        rw (same before) (frame_heard (heard_through g masks i j) (sent_records (station_at g j)) before)
    go false same q = same q

-- what is not refused in the end was not refused on the way
pub through_before :
    (g : List Station) (masks : List ℕ) (i j d : ℕ) → (heard_through g masks i (d + j)).refusal ≡ done → (heard_through g masks i j).refusal ≡ done
unfolding heard_through
through_before g masks i j zero e = rw (zero-add j) at e
through_before g masks i j (suc d) e =
    through_before g masks i j d
    (go (hears_in (size_of g) masks i (d + j)) (rw (suc-add d j) at e))
  where
    go :
        (t : Bool) →
        (cond t (hear_records (heard_through g masks i (d + j)) (sent_records (station_at g (d + j)))) (heard_through g masks i (d + j))).refusal ≡ done →
        (heard_through g masks i (d + j)).refusal ≡ done
    go true q = records_not_refused (heard_through g masks i (d + j)) (sent_records (station_at g (d + j))) q
    go false q = q

-- a round in which no hearing is refused is that of hearing on
pub round_through_lem :
    (g : List Station) (masks : List ℕ) → ((i : ℕ) → i < size_of g → heard g masks i ≡ heard_through g masks i (size_of g)) →
    after_round g masks ≡ round_through g masks
unfolding after_round round_through
round_through_lem g masks same =
    set_below_ext (size_of g) (λ i. after_turn (heard g masks i).station) (λ i. after_turn (heard_through g masks i (size_of g)).station) g
    (λ i l. ap (λ (h : Hearing). after_turn h.station) (same i l))
