-- The frame of a station inside its limits: it fits into 260 bytes, and where it stands in a list
-- of bytes it is heard as the very records that the table sends. The bytes past the frame are in no
-- record's part.
use Prim.Native.Nat.{ℕ, suc, ◌+◌, ◌*◌, ◌≤◌, ◌<◌}
use mathlib.Core.Bool.{true}
use mathlib.Core.List.{List, ◌++◌}
use mathlib.Core.Path.{◌≡◌, refl, sym, ap, ◌∙◌}
use native.Mathlib.Omega.{arith}
use lib.ListN.{get_or, take, drop, length, length-drop, length-append, take-append-drop}
use lib.Seq.{take-append-le, drop-append-le, get_or-take, get_or-drop, drop-drop}
use Rattle.lists.proofs.Laws.{and_left, all_below_at, tabulate_at, tabulate_ext}
use Rattle.frame_spec.specs.declared.Record.{Record}
use Rattle.frame_spec.specs.Record.{no_record, record_from, record_bytes, bytes_inside}
use Rattle.frame_spec.specs.Frame.{part, records_inside, records_of, frame_bytes}
use Rattle.frame_spec.specs.Calls.{table_records}
use Rattle.frame_spec.proofs.Bytes.{length_frame}
use Rattle.frame_spec.proofs.Limits.{bytes_open}
use Rattle.frame_spec.proofs.Check.{accepted_frame}
use Rattle.frame_spec.proofs.FrameTrip.{at_most, part_of_frame}
use Rattle.frame_spec.proofs.TableTrip.{table_fits}
use Rattle.station_spec.specs.declared.Station.{Station}
use Rattle.station_spec.specs.State.{cell_of, sent_records}
use Rattle.station_spec.specs.Calls.{own_count_inside, frame_of}
use Rattle.hearing_spec.specs.Buffer.{size_in}
use Rattle.hearing_spec.specs.Room.{FrameRoom}
use Rattle.station_spec.proofs.StationLimits.{Inside}
use Rattle.station_spec.proofs.SentFrame.{place, record_fits_lem, sent_read, sent_accepted}

module _ (s : Station) (c : Inside s) where
  abbrev records : List Record
  records = table_records s.n s.held s.table

  pub frame_is : frame_of s ≡ frame_bytes s.edition s.n s.own records
  unfolding cell_of frame_of sent_records table_records
  frame_is = refl

  module _ (fits : own_count_inside s ≡ true) where
    frame_length : length (frame_of s) ≡ 4 + 16 * length records
    frame_length = ap length frame_is ∙ length_frame s.edition s.n s.own records

    records_few : length records ≤ 16
    unfolding cell_of
    records_few =
        at_most s.edition s.n s.own records c.high
        (table_fits s.edition s.n s.own s.held s.table c.high (place s c fits) (record_fits_lem s c fits) c.held c.own)

    pub frame_fits : length (frame_of s) ≤ 260
    frame_fits = omega (arith, frame_length, records_few)

    amount : get_or (frame_of s) 2 0 ≡ length records
    unfolding cell_of frame_of sent_records table_records frame_bytes
    amount = refl

    inside_parts : (k : ℕ) → k < length records → bytes_inside s.edition s.n (part (frame_of s) k) ≡ true
    unfolding records_inside
    inside_parts k l =
        let ok =
        (accepted_frame s.edition (frame_of s) s.n (suc s.own)
        (sent_accepted s c fits (suc s.own) (λ e. absurd (omega arith)))
        ).records_right in
        and_left (bytes_inside s.edition s.n (part (frame_of s) k)) _ (all_below_at (get_or (frame_of s) 2 0) _ (and_left _ _ ok) k (rw amount l))

    -- each part is what is written of its record
    part_read : (k : ℕ) → k < length records → record_from (part (frame_of s) k) ≡ get_or records k no_record
    unfolding cell_of sent_records table_records records_of
    part_read k l =
        sym (tabulate_at (get_or (frame_of s) 2 0) (λ k. record_from (part (frame_of s) k)) k no_record (rw amount l))
        ∙ ap (λ (rs : List Record). get_or rs k no_record) (sent_read s c fits)

    written_part : (k : ℕ) → k < length records → record_bytes s.n (record_from (part (frame_of s) k)) ≡ part (frame_of s) k
    written_part k l =
        ap (record_bytes s.n) (part_read k l) ∙ sym (part_of_frame s.edition s.n s.own records k l)
        ∙ ap (λ (f : List ℕ). part f k) (sym frame_is)

    -- where the frame stands
    module _ (bytes : List ℕ) (start : ℕ) (here : take (length (frame_of s)) (drop start bytes) ≡ frame_of s) where
      abbrev rest : List ℕ
      rest = drop (length (frame_of s)) (drop start bytes)

      stands : drop start bytes ≡ frame_of s ++ rest
      stands = sym (take-append-drop (length (frame_of s)) (drop start bytes)) ∙ ap (λ (f : List ℕ). f ++ rest) here

      counted : get_or (drop start bytes) 2 0 ≡ length records
      counted = ap (λ (b : List ℕ). get_or b 2 0) stands ∙ front
        where
          front : get_or (frame_of s ++ rest) 2 0 ≡ length records
          front = unfold frame_of in unfold cell_of in unfold sent_records in unfold table_records in unfold frame_bytes in refl

      part_is : (k : ℕ) → k < length records → part (drop start bytes) k ≡ part (frame_of s) k
      part_is k l =
          let past : 4 + 16 * k ≤ length (frame_of s) = omega (arith, frame_length) in
          ap (λ (b : List ℕ). part b k) stands
          ∙ ap (take 16) (drop-append-le (4 + 16 * k) (frame_of s) rest past)
          ∙ take-append-le 16 (drop (4 + 16 * k) (frame_of s)) rest (omega (arith, length-drop (4 + 16 * k) (frame_of s), frame_length))

      pub heard_records : records_of (drop start bytes) ≡ sent_records s
      unfolding records_of
      heard_records =
          rw counted
          (tabulate_ext (length records) (λ k. record_from (part (drop start bytes) k)) (λ k. record_from (part (frame_of s) k))
          (λ k l. ap record_from (part_is k l))
          ∙ rw (← amount) (sent_read s c fits))

      station_is : (k : ℕ) → get_or (part (drop start bytes) k) 0 0 ≡ get_or bytes (start + 4 + 16 * k) 0
      station_is k =
          let place : start + (4 + 16 * k + 0) ≡ start + 4 + 16 * k = omega arith in
          get_or-take 16 (drop (4 + 16 * k) (drop start bytes)) 0 0 (omega arith)
          ∙ get_or-drop (4 + 16 * k) (drop start bytes) 0 0
          ∙ get_or-drop start bytes (4 + 16 * k + 0) 0
          ∙ ap (λ (i : ℕ). get_or bytes i 0) place

      part_at : (k : ℕ) → k < length records → take 16 (drop (start + 4 + 16 * k) bytes) ≡ part (frame_of s) k
      part_at k l =
          let place : start + 4 + 16 * k ≡ start + (4 + 16 * k) = omega arith in
          ap (λ (m : ℕ). take 16 (drop m bytes)) place ∙ ap (take 16) (sym (drop-drop (4 + 16 * k) start bytes)) ∙ part_is k l

      size_is : get_or bytes (start + 2) 0 ≡ length records
      size_is = sym (get_or-drop start bytes 2 0) ∙ counted

      pub frame_room : size_in bytes ≡ s.n → FrameRoom bytes start
      frame_room n_is =
          record {
            room = omega (arith, size_is, frame_length, length-drop start bytes, simp length-append at (ap length stands));
            stations =
                λ r l.
                let low : r < length records = rw size_is at l in
                let h = (bytes_open s.edition s.n (part (frame_of s) r) (inside_parts r low)).station in
                omega (arith, n_is, h, sym (station_is r) ∙ ap (λ (p : List ℕ). get_or p 0 0) (part_is r low));
            written =
                λ r l.
                let low : r < length records = rw size_is at l in
                (λ i. record_bytes (n_is i) (record_from (part_at r low i))) ∙ written_part r low ∙ sym (part_at r low);
          }

      pub first_byte : get_or bytes (start + 0) 0 ≡ s.n
      first_byte = sym (get_or-drop start bytes 0 0) ∙ ap (λ (b : List ℕ). get_or b 0 0) stands ∙ front
        where
          front : get_or (frame_of s ++ rest) 0 0 ≡ s.n
          front = unfold frame_of in unfold frame_bytes in refl
