-- The own frame of a station and a heard one beside each other: each is read where it stands as it
-- is read alone. The own record's count may be one that no frame may carry, and its frame is read
-- back all the same.
use Prim.Native.Nat.{ℕ, zero, suc, ◌+◌, ◌-◌, ◌*◌, ◌≤◌, ◌<◌}
use native.Mathlib.Omega.{arith}
use native.Mathlib.Decide.{ℕ_discrete}
use mathlib.Core.Bool.{Bool, true, false, cond}
use mathlib.Core.List.{List, [], ◌∷◌, ◌++◌}
use mathlib.Core.Path.{◌≡◌, refl, sym, ap, subst, ◌∙◌}
use lib.ListN.{get_or, take, drop, length, length-append, length-drop, get_or-append}
use lib.Seq.{get_or_at, get_or-take, get_or-drop, drop-drop, take-append-le, drop-append-le, ext_get_or}
use borrow.Author.Tests.{le-leb}
use Rattle.bodies.specs.Limits.{body_inside}
use Rattle.lists.specs.Below.{filter_map, tabulate}
use Rattle.lists.proofs.Laws.{tabulate_ext, tabulate_at, length-tabulate}
use Rattle.frame_spec.specs.declared.Record.{Record}
use Rattle.labels.specs.Label.{is_label}
use Rattle.frame_spec.specs.Words.{word_at}
use Rattle.frame_spec.specs.Record.{no_record, record_label, record_from, record_bytes, framed}
use Rattle.frame_spec.specs.Frame.{part, records_of, frame_bytes}
use Rattle.frame_spec.proofs.Labels.{framed_label, framed_twice}
use Rattle.frame_spec.proofs.Limits.{fits_make}
use Rattle.frame_spec.proofs.RecordTrip.{record_read}
use Rattle.frame_spec.proofs.FrameTrip.{part_of_frame}
use Rattle.frame_spec.proofs.Bytes.{length_frame}
use Rattle.station_spec.proofs.BodyLaws.{allowed_inside}
use Rattle.station_spec.specs.declared.Station.{Station}
use Rattle.station_spec.specs.State.{held_of, record_of, sent_records}
use Rattle.station_spec.specs.Calls.{frame_of}
use Rattle.station_spec.proofs.StationLimits.{Inside}
use Rattle.hearing_spec.specs.Buffer.{size_in, records_at}
use Rattle.hearing_spec.specs.Room.{FrameRoom}

-- ---- what is gathered

module _ {A : Type 0} (test : ℕ → Bool) (f : ℕ → A) (d : A) where
  pub filter_map_few : (n : ℕ) → length (filter_map n test f) ≤ n
  unfolding filter_map
  filter_map_few zero = omega arith
  filter_map_few (suc n) = go (test n) (filter_map_few n)
    where
      go : (t : Bool) → length (filter_map n test f) ≤ n → length (filter_map n test f ++ cond t (f n ∷ []) []) ≤ suc n
      go true h = omega (arith, length-append (filter_map n test f) (f n ∷ []))
      go false h = omega (arith, length-append (filter_map n test f) [])

  -- what holds of each place that passes holds of each entry
  pub filter_map_all : (P : A → Type 0) (n : ℕ) → ((k : ℕ) → k < n → test k ≡ true → P (f k)) → (i : ℕ) → i < length (filter_map n test f) → P (get_or (filter_map n test f) i d)
  unfolding filter_map
  filter_map_all P zero each i l = absurd (omega arith)
  filter_map_all P (suc n) each i l = go (test n) refl l (λ m. filter_map_all P n (λ k b. each k (omega arith)) i m)
    where
      go :
          (t : Bool) → test n ≡ t → i < length (filter_map n test f ++ cond t (f n ∷ []) []) →
          (i < length (filter_map n test f) → P (get_or (filter_map n test f) i d)) → P (get_or (filter_map n test f ++ cond t (f n ∷ []) []) i d)
      go true e l before =
          elim (ℕ_discrete i (length (filter_map n test f))) [
            | yes z ↦ subst P (sym (get_or_at (filter_map n test f) (f n) [] d i (sym z))) (each n (omega arith) e)
            | no h ↦
                (let low : i < length (filter_map n test f) = omega (arith, length-append (filter_map n test f) (f n ∷ [])) in
                subst P (sym (get_or-append (filter_map n test f) (f n ∷ []) d i low)) (before low))
          ]
      go false e l before =
          let low : i < length (filter_map n test f) = omega (arith, length-append (filter_map n test f) []) in
          subst P (sym (get_or-append (filter_map n test f) [] d i low)) (before low)

-- a list, entry by entry
tabulate_all : {A : Type 0} (l : List A) (d : A) → tabulate (length l) (λ k. get_or l k d) ≡ l
tabulate_all l d =
    ext_get_or d (tabulate (length l) (λ k. get_or l k d)) l (length-tabulate (length l) (λ k. get_or l k d))
    (λ i b. tabulate_at (length l) (λ k. get_or l k d) i d (omega (arith, length-tabulate (length l) (λ k. get_or l k d))))

-- ---- a record is read back whatever its count is

read_any :
    (edition n : ℕ) (r : Record) → n ≤ 16 → r.station < n → body_inside edition r.body ≡ true → ((j : ℕ) → j < n → is_label (record_label r j) ≡ true) →
    record_from (record_bytes n r) ≡ framed n r
unfolding record_from record_bytes framed word_at record_label
read_any edition n r few below body labels =
    let plain : Record = record { station = r.station; count = 0; body = r.body; labels = r.labels } in
    let e : record_from (record_bytes n plain) ≡ framed n plain =
    record_read edition n plain few
    (fits_make (body_inside edition) n plain (record { station = below; count = le-leb 0 (2 * (n - 1)) (omega arith); body = body; labels = labels })) in
    λ i. record { station = r.station; count = r.count; body = (e i).body; labels = (e i).labels }

-- ---- a frame at the beginning of bytes

module _ (f rest : List ℕ) (long : length f ≡ 4 + 16 * get_or f 2 0) where
  count_front : get_or (f ++ rest) 2 0 ≡ get_or f 2 0
  count_front = get_or-append f rest 0 2 (omega arith)

  part_front : (k : ℕ) → k < get_or f 2 0 → part (f ++ rest) k ≡ part f k
  part_front k l =
      ap (take 16) (drop-append-le (4 + 16 * k) f rest (omega arith))
      ∙ take-append-le 16 (drop (4 + 16 * k) f) rest (omega (arith, length-drop (4 + 16 * k) f))

  records_front : records_of (f ++ rest) ≡ records_of f
  unfolding records_of
  records_front =
      ap (λ (m : ℕ). tabulate m (λ k. record_from (part (f ++ rest) k))) count_front
      ∙ tabulate_ext (get_or f 2 0) (λ k. record_from (part (f ++ rest) k)) (λ k. record_from (part f k)) (λ k l. ap record_from (part_front k l))

  -- where it stands
  module _ (bytes : List ℕ) (start : ℕ) (here : drop start bytes ≡ f ++ rest) where
    byte_at : (i : ℕ) → i < length f → get_or bytes (start + i) 0 ≡ get_or f i 0
    byte_at i l = sym (get_or-drop start bytes i 0) ∙ ap (λ (b : List ℕ). get_or b i 0) here ∙ get_or-append f rest 0 i l

    pub frame_records : records_at bytes start ≡ records_of f
    frame_records = ap records_of here ∙ records_front

    pub frame_room :
        ((r : ℕ) → r < get_or f 2 0 → get_or (part f r) 0 0 < size_in bytes) →
        ((r : ℕ) → r < get_or f 2 0 → record_bytes (size_in bytes) (record_from (part f r)) ≡ part f r) → FrameRoom bytes start
    frame_room each written =
        let size : get_or bytes (start + 2) 0 ≡ get_or f 2 0 = byte_at 2 (omega arith) in
        record {
          room = omega (arith, size, length-drop start bytes, length-append f rest, ap length here);
          stations =
              λ r l.
              let low : r < get_or f 2 0 = rw size at l in
              let place : start + (4 + 16 * r) ≡ start + 4 + 16 * r = omega arith in
              let first : get_or (part f r) 0 0 ≡ get_or f (4 + 16 * r) 0 =
              get_or-take 16 (drop (4 + 16 * r) f) 0 0 (omega arith)
              ∙ get_or-drop (4 + 16 * r) f 0 0
              ∙ (let z : 4 + 16 * r + 0 ≡ 4 + 16 * r = omega arith in ap (λ (i : ℕ). get_or f i 0) z) in
              omega (arith, each r low, first, byte_at (4 + 16 * r) (omega arith), ap (λ (i : ℕ). get_or bytes i 0) place);
          written =
              λ r l.
              let low : r < get_or f 2 0 = rw size at l in
              let place : start + 4 + 16 * r ≡ start + (4 + 16 * r) = omega arith in
              let is : take 16 (drop (start + 4 + 16 * r) bytes) ≡ part f r =
              ap (λ (m : ℕ). take 16 (drop m bytes)) place
              ∙ ap (take 16) (sym (drop-drop (4 + 16 * r) start bytes))
              ∙ ap (λ (b : List ℕ). part b r) here
              ∙ part_front r low in
              ap (λ (p : List ℕ). record_bytes (size_in bytes) (record_from p)) is ∙ written r low ∙ sym is;
        }

-- ---- the own frame

module _ (s : Station) (c : Inside s) where
  abbrev sent : ℕ → Record
  sent k = framed s.n (record_of s k)

  sent_are : sent_records s ≡ filter_map s.n (held_of s) sent
  unfolding sent_records
  sent_are = refl

  sent_few : length (sent_records s) ≤ 16
  sent_few = omega (arith, ap length sent_are, filter_map_few (held_of s) sent no_record s.n, c.high)

  own_long : length (frame_of s) ≡ 4 + 16 * length (sent_records s)
  unfolding frame_of
  own_long = length_frame s.edition s.n s.own (sent_records s)

  own_count : get_or (frame_of s) 2 0 ≡ length (sent_records s)
  unfolding frame_of frame_bytes
  own_count = refl

  pub own_shape : length (frame_of s) ≡ 4 + 16 * get_or (frame_of s) 2 0
  own_shape = own_long ∙ ap (λ (m : ℕ). 4 + 16 * m) (sym own_count)

  pub own_fits : length (frame_of s) ≤ 260
  own_fits = omega (arith, own_long, sent_few)

  pub own_first : get_or (frame_of s) 0 0 ≡ s.n
  unfolding frame_of frame_bytes
  own_first = refl

  -- each record of it
  record Sent (r : Record) : Type 0 where
    back : record_from (record_bytes s.n r) ≡ r
    below : r.station < s.n

  sent_back : (k : ℕ) → k < s.n → held_of s k ≡ true → Sent (sent k)
  unfolding framed
  sent_back k l h =
      let p = (c.places k l).held h in
      let station : (sent k).station < s.n = omega (arith, p.station) in
      record {
        back =
            read_any s.edition s.n (sent k) c.high station (allowed_inside s (record_of s k).body p.body) (λ j b. ap is_label (framed_label s.n (record_of s k) j b) ∙ p.labels j b)
            ∙ framed_twice s.n (record_of s k);
        below = station;
      }

  each_sent : (i : ℕ) → i < length (sent_records s) → Sent (get_or (sent_records s) i no_record)
  each_sent i l =
      subst (λ (rs : List Record). Sent (get_or rs i no_record)) (sym sent_are)
      (filter_map_all (held_of s) sent no_record Sent s.n sent_back i (rw sent_are at l))

  part_own : (i : ℕ) → i < length (sent_records s) → part (frame_of s) i ≡ record_bytes s.n (get_or (sent_records s) i no_record)
  unfolding frame_of
  part_own i l = part_of_frame s.edition s.n s.own (sent_records s) i l

  pub own_read : records_of (frame_of s) ≡ sent_records s
  unfolding records_of
  own_read =
      ap (λ (m : ℕ). tabulate m (λ k. record_from (part (frame_of s) k))) own_count
      ∙ tabulate_ext (length (sent_records s)) (λ k. record_from (part (frame_of s) k)) (λ k. get_or (sent_records s) k no_record)
      (λ k l. ap record_from (part_own k l) ∙ (each_sent k l).back)
      ∙ tabulate_all (sent_records s) no_record

  pub own_stations : (r : ℕ) → r < get_or (frame_of s) 2 0 → get_or (part (frame_of s) r) 0 0 < s.n
  unfolding record_bytes
  own_stations r l =
      let low : r < length (sent_records s) = rw own_count at l in
      omega (arith, ap (λ (p : List ℕ). get_or p 0 0) (part_own r low), (each_sent r low).below)

  pub own_written : (r : ℕ) → r < get_or (frame_of s) 2 0 → record_bytes s.n (record_from (part (frame_of s) r)) ≡ part (frame_of s) r
  own_written r l =
      let low : r < length (sent_records s) = rw own_count at l in
      ap (record_bytes s.n) (ap record_from (part_own r low) ∙ (each_sent r low).back) ∙ sym (part_own r low)
