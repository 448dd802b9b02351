-- No call takes a station outside its limits. The records of a frame that passes its check may
-- stand in a frame; so hearing one keeps the limits, as fresh, post and turn do, and a refused call
-- leaves the station.
use Prim.Native.Nat.{ℕ, zero, suc, pred, ◌≤◌, ◌<◌}
use mathlib.Core.Bool.{Bool, true, false, cond, not, ◌&&◌, ◌||◌, false≢true}
use mathlib.Core.List.{List, [], ◌∷◌}
use mathlib.Core.Path.{◌≡◌, refl}
use native.Mathlib.Omega.{arith}
use lib.Dec.{ltb, eqb}
use lib.ListN.{get_or}
use Rattle.bodies.specs.declared.Body.{Body}
use Rattle.bodies.specs.Limits.{is_edition, postable, on_channel, body_inside}
use borrow.Author.Tests.{eqb-true}
use Rattle.std.specs.Prelude.{Ok, ⊤}
use Rattle.bodies.specs.Refusals.{done, refuse, number_of}
use Rattle.bodies.specs.declared.refusals.Refusal.TheVariants.{BadShape, BadAddress, BadRecord}
use Rattle.frame_spec.specs.Record as frames
use Rattle.frame_spec.proofs.Limits.{fits_open}
use Rattle.frame_spec.proofs.RecordTrip.{held_fits}
use Rattle.frame_spec.specs.Frame.{valid_number, part, record_station, shape_wrong, address_wrong, records_inside, frame_refusal, records_of}
use Rattle.lists.specs.Below.{all_below, any_below, tabulate}
use Rattle.lists.proofs.Laws.{and_left, all_below_at}
use Rattle.queues.specs.Waiting.{is_desk, limit_inside, has_room}
use Rattle.station_spec.specs.declared.Setup.{Setup}
use Rattle.station_spec.specs.declared.Station.{Station}
use Rattle.station_spec.specs.declared.Heard.{Heard}
use Rattle.station_spec.specs.Limits.{allowed, station_inside}
use Rattle.station_spec.specs.Hearing.{Hearing, initial_hearing, hear_frame}
use Rattle.station_spec.specs.State.{alone_setup}
use Rattle.station_spec.specs.Calls.{fresh_call, posted, post_call, hear_call, turn_call}
use Rattle.station_spec.proofs.BodyLaws.{post_allowed, carried_allowed}
use Rattle.station_spec.proofs.Setters.{Shaped}
use Rattle.station_spec.proofs.LimitsFresh.{fresh_inside, posted_inside}
use Rattle.station_spec.proofs.LimitsHear.{Carried}
use Rattle.station_spec.proofs.LimitsHearing.{AllCarried, hear_frame_inside}
use Rattle.station_spec.proofs.LimitsSent.{carried_append}
use Rattle.station_spec.proofs.LimitsTurn.{turn_inside}

-- sixteen bytes inside the record limits
pub bytes_carried :
    (s : Station) (bytes : List ℕ) → frames.bytes_inside s.edition s.n bytes ≡ true → Carried (allowed s) s.n (frames.record_from bytes)
bytes_carried s bytes h =
    let r = frames.record_from bytes in
    let l = fits_open (body_inside s.edition) s.n r (held_fits s.edition s.n bytes h) in
    record { station = l.station; count = l.count; body = carried_allowed s r.body l.body; labels = l.labels }

-- a frame that passes the check of its records
pub frame_carried : (s : Station) (bytes : List ℕ) → records_inside s.edition bytes s.n ≡ true → AllCarried (allowed s) s.n (records_of bytes)
unfolding records_inside records_of
frame_carried s bytes h = go (get_or bytes 2 0) (omega arith)
  where
    fine : ℕ → Bool
    fine k = frames.bytes_inside s.edition s.n (part bytes k) && (eqb k 0 || ltb (record_station bytes (pred k)) (record_station bytes k))

    each : (k : ℕ) → k < get_or bytes 2 0 → Carried (allowed s) s.n (frames.record_from (part bytes k))
    each k l =
        bytes_carried s (part bytes k)
        (and_left (frames.bytes_inside s.edition s.n (part bytes k)) (eqb k 0 || ltb (record_station bytes (pred k)) (record_station bytes k))
        (all_below_at (get_or bytes 2 0) fine
        (and_left (all_below (get_or bytes 2 0) fine) (any_below (get_or bytes 2 0) (λ k. eqb (record_station bytes k) (get_or bytes 1 0))) h) k l))

    go : (m : ℕ) → m ≤ get_or bytes 2 0 → AllCarried (allowed s) s.n (tabulate m (λ k. frames.record_from (part bytes k)))
    go m = elim m as (λ i. i ≤ get_or bytes 2 0 → AllCarried (allowed s) s.n (tabulate i (λ k. frames.record_from (part bytes k)))) [
      | zero ↦ λ l. unfold tabulate in tt
      | suc (j → ih) ↦
          λ l. unfold tabulate in
          (carried_append (allowed s) s.n (tabulate j (λ k. frames.record_from (part bytes k))) (frames.record_from (part bytes j) ∷ [])
          (ih (omega arith)) (each j l, tt))
    ]

pub fresh_call_inside : (setup : Setup) (own : ℕ) → station_inside (fresh_call setup own).station ≡ true
unfolding fresh_call
fresh_call_inside setup own = go (valid_number setup.n own) (limit_inside setup.limit) (is_edition setup.edition) refl refl refl
  where
    go :
        (t u v : Bool) → valid_number setup.n own ≡ t → limit_inside setup.limit ≡ u → is_edition setup.edition ≡ v →
        station_inside (fresh_call setup own).station ≡ true
    go true true true e l k = rw (e, l, k) (fresh_inside setup own e l k)
    go true true false e l k = rw (e, l, k) (fresh_inside alone_setup 0 refl refl refl)
    go true false v e l k = rw (e, l) (fresh_inside alone_setup 0 refl refl refl)
    go false u v e l k = rw e (fresh_inside alone_setup 0 refl refl refl)

module _ (s : Station) (shape : Shaped s) (inside : station_inside s ≡ true) where
  pub post_call_inside : (d : ℕ) (b : Body) → station_inside (post_call s d b).station ≡ true
  unfolding post_call
  post_call_inside d b = rw inside (go (is_desk d) (postable b) (on_channel s.edition b) (has_room s.waiting d) refl refl refl)
    where
      go :
          (k e c f : Bool) → postable b ≡ e → on_channel s.edition b ≡ c → has_room s.waiting d ≡ f →
          station_inside (cond (eqb (cond (not k) 15 (cond (not e) 4 (cond (not c) 17 (cond (not f) 3 0)))) 0) (posted s d b) s) ≡ true
      go true true true true p o q = posted_inside s d b shape inside (post_allowed s b p o) q
      go true true true false p o q = inside
      go true true false f p o q = inside
      go true false c f p o q = inside
      go false e c f p o q = inside

  pub turn_call_inside : station_inside (turn_call s).station ≡ true
  unfolding turn_call
  turn_call_inside = rw inside (turn_inside s shape inside)

  frame_fine : (bytes : List ℕ) → eqb (number_of (frame_refusal s.edition bytes s.n s.own)) done ≡ true → records_inside s.edition bytes s.n ≡ true
  unfolding frame_refusal
  frame_fine bytes h = go (shape_wrong bytes) (address_wrong s.edition bytes s.n s.own) (records_inside s.edition bytes s.n) h
    where
      go : (a b c : Bool) → eqb (number_of {A = ⊤} (refuse a BadShape (refuse b BadAddress (refuse (not c) BadRecord (Ok tt))))) 0 ≡ true → c ≡ true
      go false false true z = refl
      go false false false z = z
      go false true c z = absurd (false≢true z)
      go true b c z = absurd (false≢true z)

  -- what hearing answers, where the station is inside its limits
  hear_answer : (bytes : List ℕ) → ℕ
  hear_answer bytes =
      cond (not (eqb (number_of (frame_refusal s.edition bytes s.n s.own)) done)) (number_of (frame_refusal s.edition bytes s.n s.own))
      (hear_frame (initial_hearing s) (records_of bytes)).refusal

  hear_station :
      (bytes : List ℕ) →
      (hear_call s bytes).station ≡ cond (eqb (hear_answer bytes) done) (hear_frame (initial_hearing s) (records_of bytes)).station s
  unfolding hear_call hear_answer
  hear_station bytes = rw inside (pick (eqb (hear_answer bytes) done) _ _ _ _ _ _)
    where
      pick :
          (t : Bool) (a b : ℕ) (x y : Station) (u v : List Bool) →
          (cond {A = Heard} t (record { refusal = a; station = x; taken = u }) (record { refusal = b; station = y; taken = v })).station
          ≡ cond t x y
      pick true a b x y u v = refl
      pick false a b x y u v = refl

  pub hear_call_inside : (bytes : List ℕ) → station_inside (hear_call s bytes).station ≡ true
  unfolding hear_answer
  hear_call_inside bytes =
      rw (hear_station bytes) (go (eqb (number_of (frame_refusal s.edition bytes s.n s.own)) done) (eqb heard.refusal done) refl refl)
    where
      heard : Hearing
      heard = hear_frame (initial_hearing s) (records_of bytes)

      go :
          (a b : Bool) → eqb (number_of (frame_refusal s.edition bytes s.n s.own)) done ≡ a → eqb heard.refusal done ≡ b →
          station_inside (cond (eqb (cond (not a) (number_of (frame_refusal s.edition bytes s.n s.own)) heard.refusal) done) heard.station s) ≡ true
      go true true p q =
          rw q
          (hear_frame_inside (initial_hearing s) (records_of bytes) shape inside (frame_carried s bytes (frame_fine bytes p)) (eqb-true _ done q))
      go true false p q = rw q inside
      go false b p q = rw p inside
