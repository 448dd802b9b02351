-- A frame there and back, for every N. Record k of a written frame stands in part k, so each test
-- of the check is one of the limits of the records; and the parts of an accepted frame are the
-- bytes of the records that they hold, one after the other.
use Rattle.std.specs.Prelude.{Ok}
use mathlib.Core.Path.{◌≡◌, refl, sym, ap, ◌∙◌}
use mathlib.Core.Bool.{Bool, true, false, ◌&&◌, ◌||◌, true≢false}
use mathlib.Core.List.{List, [], ◌∷◌, ◌++◌, map, append-nil}
use Prim.Native.Nat.{ℕ, zero, suc, pred, ◌+◌, ◌*◌, ◌≤◌, ◌<◌}
use native.Mathlib.Decide.{ℕ_discrete, dec_lt}
use native.Mathlib.Omega.{arith}
use lib.Dec.{ltb, eqb}
use lib.ListN.{get_or, take, drop, length, length-drop, get_or-eq_default}
use lib.Seq.{drop-cons, take_at, drop_at, take_all, take-add, drop-drop, get_or-drop, get_or-take, length-take-le}
use borrow.Author.Tests.{lt-leb, eq-eqb, ne_eqb, ltb-true}
use Rattle.bodies.specs.Limits.{body_inside}
use Rattle.lists.specs.Below.{all_below, any_below, tabulate}
use Rattle.lists.proofs.Laws.{and_both, and_left, and_right, all_below_at, all_below_make, any_below_ext, any_below_none, length-tabulate, tabulate_ext, tabulate-map}
use Rattle.frame_spec.specs.declared.Record.{Record}
use Rattle.frame_spec.specs.Record.{record_label, record_from, record_bytes, framed, no_record, bytes_inside, record_fits}
use Rattle.frame_spec.specs.Frame.{part, record_station, shape_wrong, address_wrong, records_inside, frame_refusal, records_of, records_bytes, frame_bytes, records_fit}
use Rattle.frame_spec.proofs.Bytes.{length-record, length_frame, records_append}
use Rattle.frame_spec.proofs.Check.{by_length, by_sender, accepted, Accepted, accepted_frame, Shape, shape, Address, address}
use Rattle.frame_spec.proofs.RecordTrip.{fits_station, record_read, record_accepted, held_fits, held_zeros, bytes_written}

-- ---- a frame that is written and read

-- record k stands in part k
record_part :
    (n : ℕ) (rs : List Record) (k : ℕ) → k < length rs → take 16 (drop (16 * k) (records_bytes n rs)) ≡ record_bytes n (get_or rs k no_record)
unfolding records_bytes
record_part n [] k h = absurd (omega arith)
record_part n (r ∷ rs) zero h = take_at (record_bytes n r) (records_bytes n rs) 16 (length-record n r)
record_part n (r ∷ rs) (suc k) h =
    let e : 16 * suc k ≡ 16 + 16 * k = omega arith in
    let past : drop (16 * suc k) (record_bytes n r ++ records_bytes n rs) ≡ drop (16 * k) (records_bytes n rs) =
    ap (λ (j : ℕ). drop j (record_bytes n r ++ records_bytes n rs)) e
    ∙ sym (drop-drop (16 * k) 16 (record_bytes n r ++ records_bytes n rs))
    ∙ ap (drop (16 * k)) (drop_at (record_bytes n r) (records_bytes n rs) 16 (length-record n r)) in
    ap (take 16) past ∙ record_part n rs k (omega arith)

module _ (edition n sender : ℕ) (rs : List Record) where
  abbrev station : ℕ → ℕ
  station k = (get_or rs k no_record).station

  abbrev fine : ℕ → Bool
  fine k = record_fits (body_inside edition) n (get_or rs k no_record) && (eqb k 0 || ltb (station (pred k)) (station k))

  pub part_of_frame : (k : ℕ) → k < length rs → part (frame_bytes edition n sender rs) k ≡ record_bytes n (get_or rs k no_record)
  unfolding frame_bytes
  part_of_frame k h =
      ap (take 16) (sym (drop-drop (16 * k) 4 (n ∷ sender ∷ length rs ∷ edition ∷ records_bytes n rs))) ∙ record_part n rs k h

  station_of_frame : (k : ℕ) → k < length rs → record_station (frame_bytes edition n sender rs) k ≡ station k
  unfolding record_bytes
  station_of_frame k h = ap (λ (p : List ℕ). get_or p 0 0) (part_of_frame k h)

  module _ (few : n ≤ 16) (h : records_fit (body_inside edition) n sender rs ≡ true) where
    all_fine : all_below (length rs) fine ≡ true
    unfolding records_fit
    all_fine = and_left (all_below (length rs) fine) (any_below (length rs) (λ k. eqb (station k) sender)) h

    one_sent : any_below (length rs) (λ k. eqb (station k) sender) ≡ true
    unfolding records_fit
    one_sent = and_right (all_below (length rs) fine) (any_below (length rs) (λ k. eqb (station k) sender)) h

    record_fits_lem : (k : ℕ) → k < length rs → record_fits (body_inside edition) n (get_or rs k no_record) ≡ true
    record_fits_lem k l =
        and_left (record_fits (body_inside edition) n (get_or rs k no_record)) (eqb k 0 || ltb (station (pred k)) (station k)) (all_below_at (length rs) fine all_fine k l)

    ordered : (k : ℕ) → k < length rs → (eqb k 0 || ltb (station (pred k)) (station k)) ≡ true
    ordered k l =
        and_right (record_fits (body_inside edition) n (get_or rs k no_record)) (eqb k 0 || ltb (station (pred k)) (station k)) (all_below_at (length rs) fine all_fine k l)

    -- reading a written frame gives back its records
    pub read_written : records_of (frame_bytes edition n sender rs) ≡ map (framed n) rs
    unfolding records_of frame_bytes
    read_written =
        tabulate_ext (length rs) (λ k. record_from (part (frame_bytes edition n sender rs) k)) (λ k. framed n (get_or rs k no_record))
        (λ k l. ap record_from (part_of_frame k l) ∙ record_read edition n (get_or rs k no_record) few (record_fits_lem k l))
        ∙ tabulate-map (framed n) rs no_record

    -- strictly ascending stations below n are at most n
    station_least : (k : ℕ) → k < length rs → k ≤ station k
    station_least zero l = omega arith
    station_least (suc k) l =
        let above : ltb (station k) (station (suc k)) ≡ true =
        ap (λ (b : Bool). b || ltb (station k) (station (suc k))) (sym (ne_eqb (suc k) 0 (λ e. omega arith))) ∙ ordered (suc k) l in
        omega (arith, ltb-true (station k) (station (suc k)) above, station_least k (omega arith))

    some : 1 ≤ length rs
    some =
        elim (ℕ_discrete (length rs) 0) [
          | yes e ↦
              absurd (true≢false (sym one_sent ∙ any_below_none (length rs) (λ k. eqb (station k) sender) (λ k l. absurd (omega arith))))
          | no d ↦ omega arith
        ]

    last_below : station (pred (length rs)) < n
    last_below = fits_station (body_inside edition) n (get_or rs (pred (length rs)) no_record) (record_fits_lem (pred (length rs)) (omega (arith, some)))

    pub at_most : length rs ≤ 16
    at_most = omega (arith, some, station_least (pred (length rs)) (omega (arith, some)), last_below)

    -- the frame check accepts a written frame
    module _ (own : ℕ) (other : sender ≡ own → ⊥) (below : sender < n) (known : edition < 2) where
      abbrev bytes : List ℕ
      bytes = frame_bytes edition n sender rs

      shape_is : shape_wrong bytes ≡ false
      unfolding frame_bytes
      shape_is =
          let long : length bytes ≡ 4 + 16 * length rs = length_frame edition n sender rs in
          sym (by_length bytes (omega arith) (λ e. omega (arith, some)) at_most known) ∙ rw (eq-eqb (length bytes) (4 + 16 * length rs) long)

      address_is : address_wrong edition bytes n own ≡ false
      unfolding frame_bytes
      address_is = sym (by_sender edition bytes n own refl refl other) ∙ lt-leb n sender below

      records_are : records_inside edition bytes n ≡ true
      unfolding records_inside frame_bytes
      records_are =
          and_both
          (all_below_make (length rs) (λ k. bytes_inside edition n (part bytes k) && (eqb k 0 || ltb (record_station bytes (pred k)) (record_station bytes k)))
          (λ k l.
          and_both
          (ap (bytes_inside edition n) (part_of_frame k l) ∙ record_accepted edition n (get_or rs k no_record) few (record_fits_lem k l))
          ((λ i. eqb k 0 || ltb (station_of_frame (pred k) (omega arith) i) (station_of_frame k l i)) ∙ ordered k l)))
          (any_below_ext (length rs) (λ k. eqb (record_station bytes k) sender) (λ k. eqb (station k) sender)
          (λ k l. ap (λ (s : ℕ). eqb s sender) (station_of_frame k l))
          ∙ one_sent)

      pub written_accepted : frame_refusal edition bytes n own ≡ Ok tt
      written_accepted = sym (accepted edition bytes n own shape_is address_is records_are)

-- ---- a frame that is read and written

module _ (edition : ℕ) (bytes : List ℕ) (n own : ℕ) (h : frame_refusal edition bytes n own ≡ Ok tt) where
  pub yes_frame : Accepted edition bytes n own
  yes_frame = accepted_frame edition bytes n own h

  pub from_other : Address edition bytes n own
  from_other = address edition bytes n own yes_frame.address_right

  pub form : Shape bytes
  form = shape bytes yes_frame.shape_right

  abbrev count : ℕ
  count = get_or bytes 2 0

  pub part_inside : (k : ℕ) → k < count → bytes_inside edition n (part bytes k) ≡ true
  unfolding records_inside
  part_inside k l =
      let fits : ℕ → Bool = λ j. bytes_inside edition n (part bytes j) && (eqb j 0 || ltb (record_station bytes (pred j)) (record_station bytes j)) in
      and_left (bytes_inside edition n (part bytes k)) (eqb k 0 || ltb (record_station bytes (pred k)) (record_station bytes k))
      (all_below_at count fits (and_left (all_below count fits) (any_below count (λ j. eqb (record_station bytes j) (get_or bytes 1 0))) yes_frame.records_right) k l)

  part_length : (k : ℕ) → k < count → length (part bytes k) ≡ 16
  part_length k l = length-take-le 16 (drop (4 + 16 * k) bytes) (rw length-drop (omega (arith, form.long)))

  -- the records of an accepted frame are inside their limits, and their labels from n up are 0
  pub accepted_fits : (k : ℕ) → k < count → record_fits (body_inside edition) n (record_from (part bytes k)) ≡ true
  accepted_fits k l = held_fits edition n (part bytes k) (part_inside k l)

  pub accepted_zeros : (k : ℕ) → k < count → (j : ℕ) → n ≤ j → j < 16 → record_label (record_from (part bytes k)) j ≡ 0
  accepted_zeros k l = held_zeros edition n (part bytes k) (part_inside k l)

  bytes_are : bytes ≡ get_or bytes 0 0 ∷ get_or bytes 1 0 ∷ get_or bytes 2 0 ∷ get_or bytes 3 0 ∷ drop 4 bytes
  bytes_are =
      let long = form.long in
      drop-cons bytes 0 0 (omega arith)
      ∙ ap (λ (l : List ℕ). get_or bytes 0 0 ∷ l)
      (drop-cons bytes 1 0 (omega arith)
      ∙ ap (λ (l : List ℕ). get_or bytes 1 0 ∷ l)
      (drop-cons bytes 2 0 (omega arith) ∙ ap (λ (l : List ℕ). get_or bytes 2 0 ∷ l) (drop-cons bytes 3 0 (omega arith))))

  module _ (small : (i : ℕ) → get_or bytes i 0 < 256) where
    part_small : (k : ℕ) → k < count → (i : ℕ) → get_or (part bytes k) i 0 < 256
    part_small k l i =
        elim (dec_lt i 16) [
          | yes b ↦ rw (get_or-take 16 (drop (4 + 16 * k) bytes) i 0 b, get_or-drop) (small (4 + 16 * k + i))
          | no b ↦ rw (get_or-eq_default (part bytes k) 0 {n = i} (omega (arith, part_length k l))) (omega arith)
        ]

    -- each part is what is written of the record that it holds
    pub part_written : (k : ℕ) → k < count → record_bytes n (record_from (part bytes k)) ≡ part bytes k
    part_written k l = bytes_written (part bytes k) (part_small k l) edition n (part_length k l) (part_inside k l)

    -- the first c records are written as the first c parts
    parts_written : (c : ℕ) → c ≤ count → records_bytes n (tabulate c (λ k. record_from (part bytes k))) ≡ take (16 * c) (drop 4 bytes)
    unfolding tabulate records_bytes
    parts_written zero l = refl
    parts_written (suc c) l =
        let f : ℕ → Record = λ k. record_from (part bytes k) in
        let one : record_bytes n (f c) ≡ take 16 (drop (16 * c) (drop 4 bytes)) =
        part_written c (omega arith) ∙ ap (take 16) (sym (drop-drop (16 * c) 4 bytes)) in
        let e : 16 * c + 16 ≡ 16 * suc c = omega arith in
        records_append n (tabulate c f) (f c ∷ [])
        ∙ (λ i. parts_written c (omega arith) i ++ (append-nil (record_bytes n (f c)) ∙ one) i)
        ∙ sym (take-add (16 * c) 16 (drop 4 bytes))
        ∙ ap (λ (j : ℕ). take j (drop 4 bytes)) e

    -- writing the records of an accepted frame, with its edition, N and sender, gives its bytes
    -- again
    pub write_read : frame_bytes edition n (get_or bytes 1 0) (records_of bytes) ≡ bytes
    unfolding frame_bytes records_of
    write_read =
        let f : ℕ → Record = λ k. record_from (part bytes k) in
        let all : take (16 * count) (drop 4 bytes) ≡ drop 4 bytes =
        take_all (16 * count) (drop 4 bytes) (rw length-drop (omega (arith, form.long))) in
        (λ i.
        sym from_other.of_number i
        ∷ get_or bytes 1 0
        ∷ length-tabulate count f i
        ∷ sym from_other.of_edition i
        ∷ (parts_written count (omega arith) ∙ all) i)
        ∙ sym bytes_are

-- M8: one record makes 20 bytes, sixteen make 260
pub m8 :
    (edition n sender : ℕ) (rs : List Record) →
    (length rs ≡ 1 → length (frame_bytes edition n sender rs) ≡ 20) × (length rs ≡ 16 → length (frame_bytes edition n sender rs) ≡ 260)
m8 edition n sender rs =
    (λ e. omega (arith, length_frame edition n sender rs), λ e. omega (arith, length_frame edition n sender rs))
