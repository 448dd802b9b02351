-- The frame of a table there and back: the records at the held places are in order and the sender's
-- is among them, so the frame is accepted and read as the very records that were written. By
-- induction over the places, each held one adding a record of a higher station.
use Rattle.std.specs.Prelude.{Ok}
use mathlib.Core.Path.{◌≡◌, refl, sym, ◌∙◌}
use mathlib.Core.Bool.{Bool, true, false, cond, ◌&&◌, ◌||◌}
use mathlib.Core.List.{List, [], ◌∷◌, ◌++◌, append-nil}
use Prim.Native.Nat.{ℕ, zero, suc, pred, ◌+◌, ◌≤◌, ◌<◌}
use native.Mathlib.Decide.{ℕ_discrete}
use native.Mathlib.Omega.{arith}
use lib.Dec.{ltb, eqb}
use lib.ListN.{get_or, length, length-append, get_or-append}
use lib.Seq.{get_or_at}
use borrow.Author.Tests.{lt-ltb, eq-eqb, ne_eqb}
use Rattle.bodies.specs.declared.Body.{Body}
use Rattle.bodies.specs.Limits.{body_inside}
use Rattle.lists.specs.Below.{any_below, filter_map}
use Rattle.lists.proofs.Laws.{and_both, all_below_make, any_below_hit, filter_map_ext, map_filter_map}
use Rattle.frame_spec.specs.declared.Record.{Record}
use Rattle.frame_spec.specs.Record.{framed, no_record, record_fits}
use Rattle.frame_spec.specs.Frame.{frame_refusal, records_of, frame_bytes, records_fit}
use Rattle.frame_spec.specs.Calls.{table_records}
use Rattle.frame_spec.proofs.Labels.{framed_twice}
use Rattle.frame_spec.proofs.RecordTrip.{framed_fits}
use Rattle.frame_spec.proofs.FrameTrip.{read_written, written_accepted}

-- records in order: each inside its limits, of stations strictly ascending and below k
record Sorted (inside : Body → Bool) (n k : ℕ) (rs : List Record) : Type 0 where
  fine : (i : ℕ) → i < length rs → record_fits inside n (get_or rs i no_record) ≡ true
  below : (i : ℕ) → i < length rs → (get_or rs i no_record).station < k
  rising : (i : ℕ) → suc i < length rs → (get_or rs i no_record).station < (get_or rs (suc i) no_record).station

module _ (inside : Body → Bool) (n k : ℕ) (rs : List Record) (s : Sorted inside n k rs) where
  sorted_same : Sorted inside n (suc k) rs
  sorted_same = record { fine = s.fine; below = λ i l. omega (arith, s.below i l); rising = s.rising }

  module _ (r : Record) (fits : record_fits inside n r ≡ true) (place : r.station ≡ k) where
    old_at : (i : ℕ) → i < length rs → get_or (rs ++ (r ∷ [])) i no_record ≡ get_or rs i no_record
    old_at i l = get_or-append rs (r ∷ []) no_record i l

    new_at : (i : ℕ) → length rs ≡ i → get_or (rs ++ (r ∷ [])) i no_record ≡ r
    new_at i e = get_or_at rs r [] no_record i e

    longer : length (rs ++ (r ∷ [])) ≡ length rs + 1
    longer = length-append rs (r ∷ [])

    sorted_more : Sorted inside n (suc k) (rs ++ (r ∷ []))
    sorted_more =
        record {
          fine =
              λ i l.
              elim (ℕ_discrete i (length rs)) [
                | yes e ↦ rw (new_at i (sym e)) fits
                | no d ↦ rw (old_at i (omega (arith, longer))) (s.fine i (omega (arith, longer)))
              ];
          below =
              λ i l.
              elim (ℕ_discrete i (length rs)) [
                | yes e ↦ rw (new_at i (sym e)) (omega arith)
                | no d ↦ rw (old_at i (omega (arith, longer))) (omega (arith, s.below i (omega (arith, longer))))
              ];
          rising =
              λ i l.
              elim (ℕ_discrete (suc i) (length rs)) [
                | yes e ↦ rw (new_at (suc i) (sym e), old_at i (omega arith)) (omega (arith, s.below i (omega arith)))
                | no d ↦
                    rw (old_at (suc i) (omega (arith, longer)), old_at i (omega (arith, longer))) (s.rising i (omega (arith, longer)))
              ];
        }

-- in order and with the sender's among them they fit a frame
module _ (inside : Body → Bool) (n k sender : ℕ) (rs : List Record) (s : Sorted inside n k rs) where
  abbrev station : ℕ → ℕ
  station i = (get_or rs i no_record).station

  rises : (i : ℕ) → i < length rs → (eqb i 0 || ltb (station (pred i)) (station i)) ≡ true
  rises zero l = refl
  rises (suc i) l = rw (ne_eqb (suc i) 0 (λ e. omega arith)) (lt-ltb (station i) (station (suc i)) (s.rising i l))

  sorted_fit : any_below (length rs) (λ i. eqb (station i) sender) ≡ true → records_fit inside n sender rs ≡ true
  unfolding records_fit
  sorted_fit one =
      and_both
      (all_below_make (length rs) (λ i. record_fits inside n (get_or rs i no_record) && (eqb i 0 || ltb (station (pred i)) (station i)))
      (λ i l. and_both (s.fine i l) (rises i l)))
      one

-- the records of a table
module _ (edition n sender : ℕ) (held : List Bool) (table : List Record) (few : n ≤ 16)
    (place : (k : ℕ) → k < n → get_or held k false ≡ true → (get_or table k no_record).station ≡ k)
    (fits : (k : ℕ) → k < n → get_or held k false ≡ true → record_fits (body_inside edition) n (get_or table k no_record) ≡ true) where
  abbrev below : ℕ → List Record
  below k = filter_map k (λ j. get_or held j false) (λ j. framed n (get_or table j no_record))

  table_sorted : (k : ℕ) → k ≤ n → Sorted (body_inside edition) n k (below k)
  unfolding filter_map framed
  table_sorted zero l =
      record { fine = λ i b. absurd (omega arith); below = λ i b. absurd (omega arith); rising = λ i b. absurd (omega arith) }
  table_sorted (suc k) l = go (get_or held k false) refl (table_sorted k (omega arith))
    where
      go :
          (b : Bool) → get_or held k false ≡ b → Sorted (body_inside edition) n k (below k) →
          Sorted (body_inside edition) n (suc k) (below k ++ cond b (framed n (get_or table k no_record) ∷ []) [])
      go true e s =
          sorted_more (body_inside edition) n k (below k) s (framed n (get_or table k no_record))
          (framed_fits (body_inside edition) n (get_or table k no_record) (fits k (omega arith) e))
          (place k (omega arith) e)
      go false e s = rw (append-nil (below k)) (sorted_same (body_inside edition) n k (below k) s)

  -- the record of a held station is among them
  record Among (j : ℕ) (rs : List Record) : Type 0 where
    at : ℕ
    inside : at < length rs
    is : (get_or rs at no_record).station ≡ j

  among_more : (j : ℕ) (rs : List Record) (r : Record) → Among j rs → Among j (rs ++ (r ∷ []))
  among_more j rs r a =
      record {
        at = a.at;
        inside = omega (arith, length-append rs (r ∷ []), a.inside);
        is = rw (get_or-append rs (r ∷ []) no_record a.at a.inside) a.is;
      }

  table_among : (j : ℕ) → get_or held j false ≡ true → (k : ℕ) → j < k → k ≤ n → Among j (below k)
  unfolding filter_map framed
  table_among j on zero b l = absurd (omega arith)
  table_among j on (suc k) b l =
      elim (ℕ_discrete j k) [
        | yes e ↦ here e
        | no d ↦ go (get_or held k false) (table_among j on k (omega arith) (omega arith))
      ]
    where
      go : (b : Bool) → Among j (below k) → Among j (below k ++ cond b (framed n (get_or table k no_record) ∷ []) [])
      go true a = among_more j (below k) (framed n (get_or table k no_record)) a
      go false a = rw (append-nil (below k)) a

      here : j ≡ k → Among j (below k ++ cond (get_or held k false) (framed n (get_or table k no_record) ∷ []) [])
      here e =
          let held_k : get_or held k false ≡ true = rw e at on in
          let r = framed n (get_or table k no_record) in
          rw held_k
          (record {
            at = length (below k);
            inside = omega (arith, length-append (below k) (r ∷ []));
            is = rw (get_or_at (below k) r [] no_record (length (below k)) refl) (place k (omega arith) held_k ∙ sym e);
          })

  module _ (own_held : get_or held sender false ≡ true) (valid : sender < n) where
    pub table_fits : records_fit (body_inside edition) n sender (table_records n held table) ≡ true
    unfolding table_records
    table_fits =
        let a = table_among sender own_held n valid (omega arith) in
        sorted_fit (body_inside edition) n n sender (below n) (table_sorted n (omega arith))
        (any_below_hit (length (below n)) (λ i. eqb (get_or (below n) i no_record).station sender) a.at a.inside (eq-eqb _ _ a.is))

    -- the frame of a table is read as the very records that the table sent
    pub table_read : records_of (frame_bytes edition n sender (table_records n held table)) ≡ table_records n held table
    unfolding table_records
    table_read =
        read_written edition n sender (table_records n held table) few table_fits
        ∙ map_filter_map (framed n) n (λ j. get_or held j false) (λ j. framed n (get_or table j no_record))
        ∙ filter_map_ext n (λ j. get_or held j false) (λ j. get_or held j false) (λ j. framed n (framed n (get_or table j no_record)))
        (λ j. framed n (get_or table j no_record))
        (λ k l. refl)
        (λ k l. framed_twice n (get_or table k no_record))

    -- and every other station accepts it
    pub table_accepted :
        edition < 2 → (own : ℕ) → (sender ≡ own → ⊥) →
        frame_refusal edition (frame_bytes edition n sender (table_records n held table)) n own ≡ Ok tt
    table_accepted known own other =
        written_accepted edition n sender (table_records n held table) few table_fits own other valid known
