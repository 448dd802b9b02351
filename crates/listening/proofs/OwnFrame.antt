-- A station's own frame stands in the bytes that it hears from, so the places of its records tell
-- what the station holds: that is what hearing begins with.
use Prim.Native.Nat.{ℕ, ◌+◌, ◌*◌, ◌≤◌, ◌<◌}
use native.Mathlib.Omega.{arith}
use mathlib.Core.Bool.{Bool, true, false, not}
use mathlib.Core.List.{List}
use mathlib.Core.Path.{◌≡◌, refl, sym, ap, subst, ◌∙◌}
use lib.Dec.{eqb}
use lib.ListN.{get_or, take, drop, length, replicate}
use lib.Seq.{get_or-drop, drop-drop}
use borrow.Author.Tests.{ne_eqb}
use Rattle.lists.specs.Below.{filter_map}
use Rattle.lists.proofs.Laws.{length-tabulate, tabulate_at}
use Rattle.frame_spec.specs.declared.Record.{Record}
use Rattle.frame_spec.specs.Record.{no_record, record_from, framed}
use Rattle.frame_spec.specs.Frame.{part, records_of}
use Rattle.station_spec.specs.declared.Station.{Station}
use Rattle.station_spec.specs.State.{held_of, record_of, sent_records}
use Rattle.station_spec.proofs.Cells.{framed_station}
use Rattle.station_spec.proofs.StationLimits.{Inside}
use Rattle.hearing_spec.specs.Buffer.{record_at, records_at}
use Rattle.hearing_spec.specs.StandsFor.{holds_at, top_at}
use Rattle.hearing_spec.specs.Room.{Written, FrameRoom}
use Rattle.hearing_spec.proofs.FrameLoop.{station_at}
use Rattle.listening.specs.OwnPlaces.{record_place, places_of}
use Rattle.listening.proofs.OwnPlaces.{filter_map_entry, Placed, placed_all}

module _ (s : Station) (c : Inside s) (bytes : List ℕ) (start : ℕ) (frame : FrameRoom bytes start) (is : records_at bytes start ≡ sent_records s) where
  abbrev size : ℕ
  size = get_or bytes (start + 2) 0

  abbrev sent : ℕ → Record
  sent k = framed s.n (record_of s k)

  abbrev records : List Record
  records = filter_map s.n (held_of s) sent

  abbrev places : List ℕ
  places = places_of bytes start (replicate 16 0) size

  size_is : size ≡ length records
  unfolding records_of sent_records
  size_is =
      sym (get_or-drop start bytes 2 0)
      ∙ sym (length-tabulate (get_or (drop start bytes) 2 0) (λ k. record_from (part (drop start bytes) k)))
      ∙ ap length is

  read_at : (r : ℕ) → r < size → record_at bytes (record_place start r) ≡ get_or records r no_record
  unfolding records_of sent_records
  read_at r l =
      let place : start + 4 + 16 * r ≡ start + (4 + 16 * r) = omega arith in
      let low : r < get_or (drop start bytes) 2 0 = rw (get_or-drop start bytes 2 0) l in
      ap (λ (i : ℕ). record_at bytes i) place
      ∙ ap (λ (b : List ℕ). record_from (take 16 b)) (sym (drop-drop (4 + 16 * r) start bytes))
      ∙ sym (tabulate_at (get_or (drop start bytes) 2 0) (λ k. record_from (part (drop start bytes) k)) r no_record low)
      ∙ ap (λ (l : List Record). get_or l r no_record) is

  -- the record of a station that the station holds one of
  module _ (k : ℕ) (l : k < s.n) (h : held_of s k ≡ true) where
    abbrev number : ℕ
    number = length (filter_map k (held_of s) sent)

    number_below : number < size
    number_below = omega (arith, size_is, (filter_map_entry (held_of s) sent no_record s.n k l h).0)

    held_record : record_at bytes (record_place start number) ≡ sent k
    held_record = read_at number number_below ∙ (filter_map_entry (held_of s) sent no_record s.n k l h).1

    held_station : get_or bytes (record_place start number) 0 ≡ k
    held_station =
        sym (station_at bytes (record_place start number))
        ∙ ap (λ (r : Record). r.station) held_record
        ∙ framed_station s.n (record_of s k)
        ∙ ((c.places k l).held h).station

    held_room : record_place start number + 16 ≤ length bytes
    held_room = omega (arith, frame.room, number_below)

  own_placed : Placed bytes start s.n c.high (held_of s) sent s.n places
  own_placed =
      subst (λ (m : ℕ). Placed bytes start s.n c.high (held_of s) sent s.n (places_of bytes start (replicate 16 0) m)) (sym size_is)
      (placed_all bytes start s.n c.high (held_of s) sent (record { station = held_station }))

  pub own_long : length places ≡ 16
  own_long = own_placed.long

  -- what the station holds
  pub own_held : (k : ℕ) → k < s.n → held_of s k ≡ holds_at places k
  own_held k l = go (held_of s k) refl
    where
      go : (t : Bool) → held_of s k ≡ t → held_of s k ≡ holds_at places k
      go true e =
          e ∙ sym (ap (λ (t : Bool). not t) (ne_eqb (get_or places k 0) 0 (λ z. absurd (omega (arith, own_placed.here k l e, z)))))
      go false e = e ∙ sym (ap (λ (m : ℕ). not (eqb m 0)) (own_placed.none k l e))

  pub own_top : (k : ℕ) → k < s.n → top_at s bytes places k ≡ sent k
  own_top k l = go (held_of s k) refl
    where
      go : (t : Bool) → held_of s k ≡ t → top_at s bytes places k ≡ sent k
      go true e = rw (sym (own_held k l) ∙ e, own_placed.here k l e) (held_record k l e)
      go false e = rw (sym (own_held k l) ∙ e)

  pub own_room : (k : ℕ) → k < s.n → get_or places k 0 + 16 ≤ length bytes
  own_room k l = go (held_of s k) refl
    where
      go : (t : Bool) → held_of s k ≡ t → get_or places k 0 + 16 ≤ length bytes
      go true e = rw (own_placed.here k l e) (held_room k l e)
      go false e = omega (arith, own_placed.none k l e, held_room s.own c.own c.held)

  -- the records at these places are of their stations, and their bytes are those that are written
  -- of them
  pub own_station : (k : ℕ) → k < s.n → holds_at places k ≡ true → get_or bytes (get_or places k 0) 0 ≡ k
  own_station k l h =
      let e = own_held k l ∙ h in
      ap (λ (m : ℕ). get_or bytes m 0) (own_placed.here k l e) ∙ held_station k l e

  pub own_written : (k : ℕ) → k < s.n → holds_at places k ≡ true → Written bytes (get_or places k 0)
  own_written k l h =
      let e = own_held k l ∙ h in
      subst (Written bytes) (sym (own_placed.here k l e)) (frame.written (number k l e) (number_below k l e))
