-- A round that is not refused leaves every station inside its limits: each hears records that a
-- frame may carry, no frame is refused, and it takes its turn. A refused round leaves the group.
use Prim.Native.Nat.{ℕ, zero, suc, ◌≤◌, ◌<◌}
use mathlib.Core.Bool.{Bool, true, false, cond, not, false≢true}
use mathlib.Core.List.{List}
use mathlib.Core.Path.{◌≡◌, refl, sym, subst, ◌∙◌}
use native.Mathlib.Decide.{dec_le}
use native.Mathlib.Omega.{arith}
use lib.Dec.{eqb}
use lib.ListN.{length}
use borrow.Author.Tests.{not-false, eqb-true}
use Rattle.bodies.specs.declared.Body.{Body}
use Rattle.bodies.specs.Refusals.{done}
use Rattle.links.specs.Log.{hears_in}
use Rattle.lists.specs.Below.{any_below}
use Rattle.lists.proofs.Laws.{any_below_at, length-set_below, set_below_inside, set_below_above}
use Rattle.frame_spec.specs.declared.Record.{Record}
use Rattle.station_spec.proofs.BodyLaws.{allowed_same}
use Rattle.station_spec.specs.Limits.{allowed}
use Rattle.station_spec.specs.declared.Station.{Station}
use Rattle.station_spec.specs.State.{sent_records}
use Rattle.station_spec.specs.Calls.{own_count_inside}
use Rattle.station_spec.specs.Hearing.{initial_hearing, hear_frame}
use Rattle.station_spec.specs.Turn.{after_turn}
use Rattle.station_spec.proofs.Setters.{Shaped}
use Rattle.station_spec.proofs.LimitsHearing.{Hears, AllCarried, hears_none, hears_frame, takings_bounded}
use Rattle.station_spec.proofs.LimitsSent.{sent_carried}
use Rattle.station_spec.proofs.LimitsTurn.{turn_holds}
use Rattle.station_spec.proofs.TurnCells.{turn_n, turn_own, turn_edition, after_turn-shaped}
use Rattle.group_spec.specs.State.{no_station, station_at, size_of, group_inside}
use Rattle.group_spec.specs.Calls.{heard_below, heard, first_refusal, round_refusal, after_round, round_call}
use Rattle.group_spec.specs.Inner.Shape.{GroupShaped}
use Rattle.group_spec.proofs.FirstRefusal.{first_done}
use Rattle.group_spec.proofs.Members.{Member, Members, members_open, members_inside}

-- a round puts at each place of the group the station as it heard and took its turn
pub round_at :
    (g : List Station) (masks : List ℕ) (i : ℕ) → i < size_of g → i < length g →
    station_at (after_round g masks) i ≡ after_turn (heard g masks i).station
unfolding after_round
round_at g masks i l b = set_below_inside (size_of g) (λ k. after_turn (heard g masks k).station) g i no_station l b

pub round_length : (g : List Station) (masks : List ℕ) → length (after_round g masks) ≡ length g
unfolding after_round
round_length g masks = length-set_below (size_of g) (λ i. after_turn (heard g masks i).station) g

-- what a round that is not refused shows
pub record Runs (g : List Station) (masks : List ℕ) : Type 0 where
  pub inside : group_inside g ≡ true
  pub counts : (k : ℕ) → k < size_of g → own_count_inside (station_at g k) ≡ true
  pub room : (i : ℕ) → i < size_of g → (heard g masks i).refusal ≡ done

pub runs : (g : List Station) (masks : List ℕ) → eqb (round_refusal g masks) done ≡ true → Runs g masks
unfolding round_refusal
runs g masks h =
    go (group_inside g) (any_below (size_of g) (λ k. not (own_count_inside (station_at g k)))) refl refl h
  where
    go :
        (a b : Bool) → group_inside g ≡ a → any_below (size_of g) (λ k. not (own_count_inside (station_at g k))) ≡ b →
        eqb (cond (not a) 2 (cond b 10 (first_refusal (size_of g) (λ i. (heard g masks i).refusal)))) 0 ≡ true → Runs g masks
    go true false p q z =
        record {
          inside = p;
          counts =
              λ k l. not-false (own_count_inside (station_at g k)) (any_below_at (size_of g) (λ k. not (own_count_inside (station_at g k))) q k l);
          room = first_done (size_of g) (λ i. (heard g masks i).refusal) (eqb-true _ 0 z);
        }
    go true true p q z = absurd (false≢true z)
    go false b p q z = absurd (false≢true z)

module _ (n : ℕ) (g : List Station) (c : Members n g) (masks : List ℕ) (counts : (k : ℕ) → k < n → own_count_inside (station_at g k) ≡ true) where
  carried : (i j : ℕ) → i < n → j < n → AllCarried (allowed (station_at g i)) (station_at g i).n (sent_records (station_at g j))
  carried i j l m =
      let sent : List Record = sent_records (station_at g j) in
      subst (λ (x : Body → Bool). AllCarried x (station_at g i).n sent)
      (allowed_same (station_at g j) (station_at g i) ((c.member j m).edition ∙ sym (c.member i l).edition))
      (subst (λ (k : ℕ). AllCarried (allowed (station_at g j)) k sent) ((c.member j m).size ∙ sym (c.member i l).size)
      (sent_carried (station_at g j) (c.member j m).inside (counts j m)))

  pub hears_below : (i j : ℕ) → i < n → j ≤ n → Hears (initial_hearing (station_at g i)) (heard_below g masks i j)
  unfolding heard_below
  hears_below i zero l m =
      hears_none (initial_hearing (station_at g i)) (c.member i l).inside (c.shape.stations i (omega (arith, c.high)))
  hears_below i (suc j) l m = go (hears_in (size_of g) masks i j) (hears_below i j l (omega arith))
    where
      go :
          (t : Bool) → Hears (initial_hearing (station_at g i)) (heard_below g masks i j) →
          Hears (initial_hearing (station_at g i)) (cond t (hear_frame (heard_below g masks i j) (sent_records (station_at g j))) (heard_below g masks i j))
      go true hs =
          hears_frame (initial_hearing (station_at g i)) (c.member i l).inside (heard_below g masks i j) (sent_records (station_at g j)) hs (carried i j l m)
      go false hs = hs

  pub hears_all : (i : ℕ) → i < n → Hears (initial_hearing (station_at g i)) (heard g masks i)
  hears_all i l = hears_below i (size_of g) l (omega (arith, c.size))

module _ (n : ℕ) (g : List Station) (c : Members n g) (masks : List ℕ) (run : Runs g masks) where
  run_counts : (k : ℕ) → k < n → own_count_inside (station_at g k) ≡ true
  run_counts k l = run.counts k (omega (arith, c.size))

  pub run_hears : (i : ℕ) → i < n → Hears (initial_hearing (station_at g i)) (heard g masks i)
  run_hears = hears_all n g c masks run_counts

  pub run_room : (i : ℕ) → i < n → (heard g masks i).refusal ≡ done
  run_room i l = run.room i (omega (arith, c.size))

  -- a round reports at most 30 takings of a station
  pub run_takings : (i : ℕ) → i < n → length (heard g masks i).takings ≤ 30
  run_takings i l = takings_bounded (station_at g i) (heard g masks i) (run_hears i l) (run_room i l)

  pub after_at : (i : ℕ) → i < n → station_at (after_round g masks) i ≡ after_turn (heard g masks i).station
  after_at i l = round_at g masks i (omega (arith, c.size)) (rw c.shape.places (omega (arith, c.high)))

  pub after_above : (i : ℕ) → n ≤ i → station_at (after_round g masks) i ≡ station_at g i
  unfolding after_round
  after_above i l = set_below_above (size_of g) (λ i. after_turn (heard g masks i).station) g i no_station (omega (arith, c.size))

  after_shaped : (i : ℕ) → i < 16 → Shaped (station_at (after_round g masks) i)
  after_shaped i b =
      elim (dec_le n i) [
        | yes l ↦ rw (after_above i l) (c.shape.stations i b)
        | no l ↦
            let below : i < n = omega arith in
            rw (after_at i below)
            (after_turn-shaped (heard g masks i).station (run_hears i below).shaped)
      ]

  -- each keeps its edition
  pub after_edition : (i : ℕ) → i < n → (station_at (after_round g masks) i).edition ≡ (station_at g i).edition
  after_edition i l = rw (after_at i l) (turn_edition (heard g masks i).station ∙ (run_hears i l).edition)

  after_member : (i : ℕ) → i < n → Member n (after_round g masks) i
  after_member i l =
      let hs = run_hears i l in
      let m = c.member i l in
      record {
        inside = rw (after_at i l) (turn_holds (heard g masks i).station hs.shaped (hs.inside (run_room i l)));
        size = rw (after_at i l) (turn_n (heard g masks i).station ∙ hs.n ∙ m.size);
        edition = after_edition i l ∙ m.edition ∙ sym (after_edition 0 c.low);
        own = rw (after_at i l) (turn_own (heard g masks i).station ∙ hs.own ∙ m.own);
      }

  pub after_members : Members n (after_round g masks)
  after_members =
      record {
        low = c.low;
        high = c.high;
        size = (after_member 0 c.low).size;
        shape = record { places = round_length g masks ∙ c.shape.places; stations = after_shaped };
        member = after_member;
      }

pub after_inside : (g : List Station) (masks : List ℕ) → GroupShaped g → Runs g masks → group_inside (after_round g masks) ≡ true
after_inside g masks shape run =
    members_inside (size_of g) (after_round g masks) (after_members (size_of g) g (members_open g shape run.inside) masks run)

pub round_done :
    (g : List Station) (masks : List ℕ) → eqb (round_refusal g masks) done ≡ true → (round_call g masks).group ≡ after_round g masks
unfolding round_call
round_done g masks e = rw e

pub round_refused : (g : List Station) (masks : List ℕ) → eqb (round_refusal g masks) done ≡ false → (round_call g masks).group ≡ g
unfolding round_call
round_refused g masks e = rw e

pub round_members : (n : ℕ) (g : List Station) → Members n g → (masks : List ℕ) → Members n (round_call g masks).group
round_members n g c masks = go (eqb (round_refusal g masks) done) refl
  where
    go : (t : Bool) → eqb (round_refusal g masks) done ≡ t → Members n (round_call g masks).group
    go true e = rw (round_done g masks e) (after_members n g c masks (runs g masks e))
    go false e = rw (round_refused g masks e) c

pub round_inside :
    (g : List Station) (masks : List ℕ) → GroupShaped g → group_inside g ≡ true → group_inside (round_call g masks).group ≡ true
round_inside g masks shape h =
    members_inside (size_of g) (round_call g masks).group (round_members (size_of g) g (members_open g shape h) masks)
