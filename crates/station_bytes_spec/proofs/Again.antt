-- Calls on bytes one after the other. What a call that is done leaves is accepted by the next call,
-- and decoded to just the station that the call gave; so calls on bytes are the calls of document
-- 01, one after the other, on the station itself, and a state that the library made is never
-- refused with 2.
use Rattle.std.specs.Prelude.{Ok, ⊤}
use mathlib.Core.Path.{◌≡◌, refl, sym, subst, ◌∙◌}
use mathlib.Core.Bool.{Bool, true, false, not, false≢true}
use mathlib.Core.List.{List}
use Prim.Native.Nat.{ℕ}
use native.Mathlib.Omega.{arith}
use lib.Dec.{eqb}
use borrow.Author.Tests.{eqb-true, eq-eqb}
use Rattle.bodies.specs.declared.Body.{Body}
use Rattle.bodies.specs.Refusals.{done, outside_limits, refuse_number, number_of, refuse}
use Rattle.bodies.specs.declared.refusals.Refusal.TheVariants.{BadShape, BadAddress, BadRecord}
use Rattle.frame_spec.specs.Frame.{valid_number, frame_refusal, records_of, records_inside, shape_wrong, address_wrong}
use Rattle.bodies.specs.Limits.{is_edition}
use Rattle.queues.specs.Waiting.{limit_inside}
use Rattle.station_spec.specs.declared.Setup.{Setup}
use Rattle.station_spec.specs.declared.Station.{Station}
use Rattle.station_spec.specs.Limits.{station_inside, allowed}
use Rattle.station_spec.specs.Hearing.{Hearing, initial_hearing, hear_frame}
use Rattle.station_spec.specs.Turn.{after_turn}
use Rattle.station_spec.specs.State.{alone_setup, fresh_station}
use Rattle.station_spec.specs.Calls.{fresh_call, post_refusal, posted, post_call, hear_call, turn_call}
use Rattle.station_spec.proofs.Setters.{Shaped, fresh_shaped}
use Rattle.station_spec.proofs.Shape.{posted-shaped}
use Rattle.station_spec.proofs.StationLimits.{inside_open}
use Rattle.station_spec.proofs.CallSteps.{valid_parts}
use Rattle.station_spec.proofs.LimitsFresh.{fresh_inside}
use Rattle.station_spec.proofs.LimitsCalls.{frame_carried, post_call_inside, turn_call_inside, hear_call_inside}
use Rattle.station_bytes_spec.specs.Station.{encode_station, decode_station, is_station}
use Rattle.station_bytes_spec.proofs.Bytes.{AllBytes}
use Rattle.station_bytes_spec.proofs.Body.{BodyFits}
use Rattle.station_bytes_spec.proofs.Inside.{Typed, inside_decoded, inside_accepted}
use Rattle.station_bytes_spec.proofs.Bodies.{edit_fits}
use Rattle.station_bytes_spec.proofs.Typed.{Fitting, fresh_fitting, posted-fitting, turn_fitting, turn_shaped, Keeps, frame_keeps}
use Rattle.station_bytes_spec.proofs.Decoded.{station_fitting, station_shaped, frame_words, all_fit}

-- a station that a call leaves: inside its limits, its bytes accepted, and decoded to it again
pub record Again (s : Station) : Type 0 where
  pub inside : station_inside s ≡ true
  pub accepted : is_station (encode_station s) ≡ true
  pub decoded : decode_station (encode_station s) 0 ≡ s

pub again : (s : Station) → Shaped s → Fitting s → station_inside s ≡ true → Again s
again s shape f h =
    let t : Typed s = record { shape = shape; body_typed = f.body; cell_typed = f.cells; edit_typed = λ d i l. edit_fits s.waiting f.edits d i } in
    record { inside = h; accepted = inside_accepted s t h; decoded = inside_decoded s t h }

-- what is refused with 2 first is inside where it is done
inside_first : (t : Bool) (x : ℕ) → refuse_number (not t) outside_limits x ≡ done → t ≡ true
inside_first true x h = refl
inside_first false x h = absurd (omega (arith, h))

module _ (s : Station) (shape : Shaped s) (f : Fitting s) where
  -- post
  module _ (d : ℕ) (b : Body) (g : BodyFits b) (fine : (post_call s d b).refusal ≡ done) where
    post_inside : station_inside s ≡ true
    unfolding post_call
    post_inside = inside_first (station_inside s) (post_refusal s d b) fine

    post_station : (post_call s d b).station ≡ posted s d b
    unfolding post_call
    post_station = rw (eq-eqb _ done fine)

    pub post_again : Again (post_call s d b).station
    post_again =
        again (post_call s d b).station (subst Shaped (sym post_station) (posted-shaped s d b shape)) (subst Fitting (sym post_station) (posted-fitting s d b f g))
        (post_call_inside s shape post_inside d b)

  -- turn
  module _ (fine : (turn_call s).refusal ≡ done) where
    turn_is : (station_inside s ≡ true) × ((turn_call s).station ≡ after_turn s)
    unfolding turn_call
    turn_is = go (station_inside s) refl
      where
        go : (t : Bool) → station_inside s ≡ t → (station_inside s ≡ true) × ((turn_call s).station ≡ after_turn s)
        go true e = (e, rw e)
        go false e = absurd (omega (arith, rw e at fine))

    pub turn_again : Again (turn_call s).station
    turn_again =
        again (turn_call s).station (subst Shaped (sym turn_is.1) (turn_shaped s shape f turn_is.0))
        (subst Fitting (sym turn_is.1) (turn_fitting s shape f turn_is.0)) (turn_call_inside s shape turn_is.0)

  -- hear
  module _ (bytes : List ℕ) (small : AllBytes bytes) (fine : (hear_call s bytes).refusal ≡ done) where
    heard : Hearing
    heard = hear_frame (initial_hearing s) (records_of bytes)

    hear_refusal : ℕ
    hear_refusal =
        refuse_number (not (station_inside s)) outside_limits
        (refuse_number (not (eqb (number_of (frame_refusal s.edition bytes s.n s.own)) done)) (number_of (frame_refusal s.edition bytes s.n s.own)) heard.refusal)

    hear_is : (hear_refusal ≡ done) × ((hear_call s bytes).station ≡ heard.station)
    unfolding hear_call hear_refusal heard
    hear_is = go (eqb hear_refusal done) refl
      where
        go : (t : Bool) → eqb hear_refusal done ≡ t → (hear_refusal ≡ done) × ((hear_call s bytes).station ≡ heard.station)
        go true e = (eqb-true hear_refusal done e, rw e)
        go false e = (rw e at fine, absurd (false≢true (sym e ∙ eq-eqb hear_refusal done (rw e at fine))))

    hear_inside : station_inside s ≡ true
    unfolding hear_refusal
    hear_inside = inside_first (station_inside s) _ hear_is.0

    frame_fine : number_of (frame_refusal s.edition bytes s.n s.own) ≡ done
    unfolding hear_refusal
    frame_fine = go (eqb (number_of (frame_refusal s.edition bytes s.n s.own)) done) refl
      where
        go : (t : Bool) → eqb (number_of (frame_refusal s.edition bytes s.n s.own)) done ≡ t → number_of (frame_refusal s.edition bytes s.n s.own) ≡ done
        go true e = eqb-true _ done e
        go false e = rw (hear_inside, e) at hear_is.0

    records_fine : records_inside s.edition bytes s.n ≡ true
    unfolding frame_refusal
    records_fine = go (shape_wrong bytes) (address_wrong s.edition bytes s.n s.own) (records_inside s.edition bytes s.n) frame_fine
      where
        go : (a b c : Bool) →
            number_of {A = ⊤} (refuse a BadShape (refuse b BadAddress (refuse (not c) BadRecord (Ok tt)))) ≡ done → c ≡ true
        go false false true z = refl
        go false false false z = absurd (omega (arith, z))
        go false true c z = absurd (omega (arith, z))
        go true b c z = absurd (omega (arith, z))

    heard-keeps : Keeps heard.station
    unfolding heard
    heard-keeps =
        let high = (inside_open s hear_inside).high in
        frame_keeps (initial_hearing s) (records_of bytes) (all_fit (allowed s) s.n high (records_of bytes) (frame_carried s bytes records_fine) (frame_words bytes small))
        (record { shape = shape; fitting = f; size = high })

    pub hear_again : Again (hear_call s bytes).station
    hear_again =
        again (hear_call s bytes).station (subst Shaped (sym hear_is.1) heard-keeps.shape) (subst Fitting (sym hear_is.1) heard-keeps.fitting)
        (hear_call_inside s shape hear_inside bytes)

-- ---- the calls on bytes

-- fresh, also where it is refused: the answer is then the fresh station of N = 1
pub after_fresh : (setup : Setup) (own : ℕ) → Again (fresh_call setup own).station
unfolding fresh_call
after_fresh setup own = go (valid_number setup.n own) (limit_inside setup.limit) (is_edition setup.edition) refl refl refl
  where
    alone_again : Again (fresh_station alone_setup 0)
    alone_again = again (fresh_station alone_setup 0) (fresh_shaped alone_setup 0) (fresh_fitting alone_setup 0 (omega arith)) (fresh_inside alone_setup 0 refl refl refl)

    go :
        (t u v : Bool) → valid_number setup.n own ≡ t → limit_inside setup.limit ≡ u → is_edition setup.edition ≡ v →
        Again (fresh_call setup own).station
    go true true true e d k =
        let v = valid_parts setup.n own e in
        rw (e, d, k) (again (fresh_station setup own) (fresh_shaped setup own) (fresh_fitting setup own (omega (arith, v.1, v.2))) (fresh_inside setup own e d k))
    go true true false e d k = rw (e, d, k) alone_again
    go true false v e d k = rw (e, d) alone_again
    go false u v e d k = rw e alone_again

module _ (b : List ℕ) (small : AllBytes b) where
  abbrev now : Station
  now = decode_station b 0

  pub after_post : (desk : ℕ) (body : Body) → BodyFits body → (post_call now desk body).refusal ≡ done → Again (post_call now desk body).station
  after_post desk body g fine = post_again now (station_shaped b small 0) (station_fitting b small 0) desk body g fine

  pub after_turn_lem : (turn_call now).refusal ≡ done → Again (turn_call now).station
  after_turn_lem fine = turn_again now (station_shaped b small 0) (station_fitting b small 0) fine

  pub after_hear : (frame : List ℕ) → AllBytes frame → (hear_call now frame).refusal ≡ done → Again (hear_call now frame).station
  after_hear frame h fine = hear_again now (station_shaped b small 0) (station_fitting b small 0) frame h fine
