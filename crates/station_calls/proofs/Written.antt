-- The call that writes a frame, return by return. The frame goes where the station's call puts it;
-- its number of bytes fits, for a frame has at most 260. Where there is no room for the number, the
-- frame is tried in another buffer, and what refuses it there, the room apart, refuses it anywhere.
use mathlib.Core.Path.{◌≡◌, refl, sym, ap, ◌∙◌}
use mathlib.Core.Bool.{Bool, true, false, cond, not}
use mathlib.Core.List.{List, [], ◌∷◌}
use Prim.Native.Nat.{ℕ, zero, suc, ◌<◌, ◌≤◌}
use native.Mathlib.Omega.{arith}
use lib.Dec.{eqb, ltb}
use lib.ListN.{length, set, length-append}
use borrow.Author.Tests.{eq-eqb, eqb-true}
use Rattle.bodies.specs.Refusals.{done, outside_limits, short_buffer, count_too_high, refuse_number}
use Rattle.lists.specs.Below.{filter_map}
use Rattle.frame_spec.specs.declared.Written.{Written}
use Rattle.frame_spec.proofs.Bytes.{length_frame}
use Rattle.planning_spec.specs.Merge.{front_written}
use Rattle.station_spec.specs.declared.Station.{Station}
use Rattle.frame_spec.specs.Record.{framed}
use Rattle.station_spec.specs.State.{held_of, record_of, sent_records}
use Rattle.station_spec.specs.Limits.{station_inside}
use Rattle.station_spec.specs.Calls.{own_count_inside, frame_of, write_refusal, write_call, buffer_after}
use Rattle.station_spec.proofs.StationLimits.{inside_open}
use Rattle.station_bytes_spec.specs.Station.{decode_station, is_station}
use Rattle.station_calls.specs.Station.{or_else, station_of, room_refusal, write_returned}
use Rattle.station_calls.proofs.Refusals.{first_refused, first_done, state_refused, state_taken, no_room, room, kept_whole, front_made, refused_is_2, short_is_9}

-- ---- what the station's call answers

module _ {A : Type 0} where
  filter_map_few : (n : ℕ) (test : ℕ → Bool) (f : ℕ → A) → length (filter_map n test f) ≤ n
  unfolding filter_map
  filter_map_few zero test f = omega arith
  filter_map_few (suc n) test f =
      omega (arith, filter_map_few n test f, length-append (filter_map n test f) (cond (test n) (f n ∷ []) []), one (test n))
    where
      one : (t : Bool) → length (cond t (f n ∷ []) []) ≤ 1
      one true = omega arith
      one false = omega arith

module _ (s : Station) (size : ℕ) where
  refusal_is : (write_call s size).refusal ≡ write_refusal s size
  unfolding write_call
  refusal_is = go (eqb (write_refusal s size) done) refl
    where
      go : (t : Bool) → eqb (write_refusal s size) done ≡ t → (write_call s size).refusal ≡ write_refusal s size
      go true e = rw e (sym (eqb-true (write_refusal s size) done e))
      go false e = rw e

  length_is : (write_call s size).refusal ≡ done → (write_call s size).len ≡ length (frame_of s)
  unfolding write_call
  length_is h = rw (eq-eqb (write_refusal s size) done (sym refusal_is ∙ h))

  inside_done : write_refusal s size ≡ done → station_inside s ≡ true
  unfolding write_refusal
  inside_done h = go (station_inside s) refl
    where
      go : (t : Bool) → station_inside s ≡ t → station_inside s ≡ true
      go true e = e
      go false e = absurd (omega (arith, rw e at h))

  frame_few : write_refusal s size ≡ done → length (frame_of s) ≤ 260
  unfolding frame_of sent_records
  frame_few h =
      omega (arith, length_frame s.edition s.n s.own (sent_records s), filter_map_few s.n (held_of s) (λ k. framed s.n (record_of s k)), (inside_open s (inside_done h)).high)

-- what refuses a frame, the room apart, refuses it whatever the room is
any_room : (s : Station) (one other : ℕ) → or_else (write_refusal s one) short_buffer ≡ or_else (write_refusal s other) short_buffer
unfolding write_refusal
any_room s one other = go (not (station_inside s)) (not (own_count_inside s)) (ltb one (length (frame_of s))) (ltb other (length (frame_of s)))
  where
    go :
        (a b t u : Bool) →
        or_else (refuse_number a outside_limits (refuse_number b count_too_high (refuse_number t short_buffer done))) short_buffer
        ≡ or_else (refuse_number a outside_limits (refuse_number b count_too_high (refuse_number u short_buffer done))) short_buffer
    go true b t u = refl
    go false true t u = refl
    go false false true true = refl
    go false false true false = refl
    go false false false true = refl
    go false false false false = refl

-- ---- the call

-- what the call promises of its return and of the two buffers
abbrev pub Promise : List ℕ → List ℕ → List ℕ → ℕ → List ℕ → List ℕ → Type 0
Promise b frame lengths r f l =
    (r ≡ write_returned b frame lengths) × (f ≡ front_written r (frame_of (station_of b)) frame)
    × (l ≡ front_written r (length (frame_of (station_of b)) ∷ []) lengths)

module _ (b frame lengths : List ℕ) where
  pub write_no_station : is_station b ≡ false → (r : ℕ) → r ≡ outside_limits → Promise b frame lengths r frame lengths
  unfolding write_returned
  write_no_station h r is =
      let not_done : r ≡ done → ⊥ = λ z. refused_is_2 (sym is ∙ z) in
      (is ∙ state_refused (is_station b) _ h, kept_whole _ _ frame not_done, kept_whole _ _ lengths not_done)

  module _ (h : is_station b ≡ true) (s : Station) (read : s ≡ decode_station b 0) where
    -- no room for the number of bytes
    module _ (none : length lengths < 1) (size : ℕ) (w : Written) (call : w ≡ write_call s size) where
      tried : w.refusal ≡ write_refusal (station_of b) size
      tried = ap (λ (x : Written). x.refusal) (call ∙ ap (λ (t : Station). write_call t size) read) ∙ refusal_is (station_of b) size

      same_refusal : or_else w.refusal short_buffer ≡ or_else (write_call (station_of b) (length frame)).refusal (room_refusal 1 lengths)
      same_refusal =
          ap (λ (x : ℕ). or_else x short_buffer) tried
          ∙ any_room (station_of b) size (length frame)
          ∙ ap (λ (x : ℕ). or_else x short_buffer) (sym (refusal_is (station_of b) (length frame)))
          ∙ ap (or_else (write_call (station_of b) (length frame)).refusal) (no_room 1 lengths none)

      pub write_none_refused : (w.refusal ≡ done → ⊥) → Promise b frame lengths w.refusal frame lengths
      unfolding write_returned
      write_none_refused d =
          (first_refused w.refusal short_buffer d ∙ same_refusal ∙ state_taken (is_station b) _ h, kept_whole _ _ frame d, kept_whole _ _ lengths d)

      pub write_none : w.refusal ≡ done → (r : ℕ) → r ≡ short_buffer → Promise b frame lengths r frame lengths
      unfolding write_returned
      write_none fine r is =
          let not_done : r ≡ done → ⊥ = λ z. short_is_9 (sym is ∙ z) in
          (is ∙ first_done w.refusal short_buffer fine ∙ same_refusal ∙ state_taken (is_station b) _ h, kept_whole _ _ frame not_done, kept_whole _ _ lengths not_done)

    -- room for it
    module _ (w : Written) (call : w ≡ write_call s (length frame)) (f : List ℕ) (made : f ≡ buffer_after s frame) where
      write_is : w ≡ write_call (station_of b) (length frame)
      write_is = call ∙ ap (λ (t : Station). write_call t (length frame)) read

      refusal_of : w.refusal ≡ write_refusal (station_of b) (length frame)
      refusal_of = ap (λ (x : Written). x.refusal) write_is ∙ refusal_is (station_of b) (length frame)

      frame_of_lem : f ≡ front_written w.refusal (frame_of (station_of b)) frame
      unfolding front_written buffer_after
      frame_of_lem =
          made ∙ ap (λ (t : Station). buffer_after t frame) read
          ∙ ap (λ (r : ℕ). front_written r (frame_of (station_of b)) frame) (sym refusal_of)

      pub write_refused : (w.refusal ≡ done → ⊥) → Promise b frame lengths w.refusal f lengths
      unfolding write_returned
      write_refused d =
          let e = ap (λ (x : Written). x.refusal) write_is in
          (e ∙ first_refused _ _ (λ z. d (e ∙ z)) ∙ state_taken (is_station b) _ h, frame_of_lem, kept_whole _ _ lengths d)

      module _ (fine : w.refusal ≡ done) where
        pub length_fits : w.len ≤ 260
        length_fits =
            omega (
              arith,
              ap (λ (x : Written). x.len) write_is,
              length_is (station_of b) (length frame) (ap (λ (x : Written). x.refusal) (sym write_is) ∙ fine),
              frame_few (station_of b) (length frame) (sym refusal_of ∙ fine),
            )

        pub write_done : 1 ≤ length lengths → Promise b frame lengths done f (set lengths 0 w.len)
        unfolding write_returned
        write_done enough =
            let answered = ap (λ (x : Written). x.refusal) (sym write_is) ∙ fine in
            let len : w.len ≡ length (frame_of (station_of b)) = ap (λ (x : Written). x.len) write_is ∙ length_is (station_of b) (length frame) answered in (
              room 1 lengths enough ∙ first_done _ _ answered ∙ state_taken (is_station b) _ h,
              frame_of_lem ∙ ap (λ (r : ℕ). front_written r (frame_of (station_of b)) frame) fine,
              front_made (length (frame_of (station_of b)) ∷ []) lengths (set lengths 0 w.len) enough (ap (set lengths 0) len),
            )
