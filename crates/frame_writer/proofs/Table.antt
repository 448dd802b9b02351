-- The records of a table as a frame: how many they are, and the bytes once the places below k are
-- written.
use mathlib.Core.Path.{◌≡◌, refl, sym, ap, ap₂, ◌∙◌}
use mathlib.Core.Bool.{Bool, true, false, cond}
use mathlib.Core.List.{List, [], ◌∷◌, ◌++◌, append-nil, append_assoc}
use Prim.Native.Nat.{ℕ, zero, suc, ◌+◌, ◌*◌, ◌-◌, ◌≤◌, ◌<◌}
use native.Mathlib.Decide.{ℕ_discrete}
use native.Mathlib.Nat.{add-zero}
use native.Mathlib.Numerals.{add-one}
use native.Mathlib.Omega.{arith}
use borrow.Rule.Slice.PartMut.{put_mid}
use lib.ListN.{get_or, take, drop, length, length-append}
use lib.Seq.{take_at, drop_at, drop-drop}
use lib.Dec.{ltb}
use borrow.Author.Tests.{lt-ltb, le-ltb}
use Rattle.std.specs.Prelude.{Ok, Err}
use Rattle.bodies.specs.declared.refusals.Refusal.TheVariants.{ShortBuffer}
use Rattle.std.specs.List.{count_by}
use Rattle.std.proofs.lemmas.List.Sums.{count_by_more_yes, count_by_more_no}
use Rattle.lists.specs.Below.{filter_map}
use Rattle.frame_spec.specs.declared.Record.{Record}
use Rattle.frame_spec.specs.Record.{record_bytes, framed, no_record}
use Rattle.frame_spec.specs.Frame.{records_bytes, frame_bytes}
use Rattle.frame_spec.specs.Calls.{table_records, written, buffer_with}
use Rattle.frame_spec.specs.Inner.Writing.{held_count}
use Rattle.frame_spec.proofs.Bytes.{length_records, length_frame, records_append, framed_bytes}

pub at_most_one : (b : Bool) → cond b 1 0 ≤ 1
at_most_one true = omega arith
at_most_one false = omega arith

pub counted_more :
    (k : ℕ) (held : List Bool) (count one : ℕ) → count ≡ held_count k held → one ≡ cond (get_or held k false) 1 0 →
    count + one ≡ held_count (k + 1) held
unfolding held_count
counted_more k held count one h e = rw (add-one k) (ap₂ ◌+◌ h e)

pub start : (held : List Bool) → ◌≡◌ {A = ℕ} 4 (4 + 16 * held_count 0 held)
unfolding held_count
start held = refl

-- the places counted one by one
pub counted : (n : ℕ) (held : List Bool) → n ≤ length held → count_by (λ b. b) (take n held) ≡ held_count n held
unfolding held_count
counted zero held h = refl
counted (suc k) held h = go (get_or held k false) refl (counted k held (omega arith))
  where
    go :
        (b : Bool) → get_or held k false ≡ b → count_by (λ b. b) (take k held) ≡ held_count k held →
        count_by (λ b. b) (take (suc k) held) ≡ held_count (suc k) held
    go true e r = rw e ((rw add-one at (count_by_more_yes (λ b. b) held k false (omega arith) e)) ∙ ap (λ (m : ℕ). m + 1) r)
    go false e r = rw (e, add-zero) ((rw add-one at (count_by_more_no (λ b. b) held k false (omega arith) e)) ∙ r)

pub count_le : (k : ℕ) (held : List Bool) → held_count k held ≤ k
unfolding held_count
count_le zero held = omega arith
count_le (suc k) held = omega (arith, count_le k held, at_most_one (get_or held k false))

count_mono : (n : ℕ) (held : List Bool) (k : ℕ) → k ≤ n → held_count k held ≤ held_count n held
unfolding held_count
count_mono zero held k h =
    let e : k ≡ 0 = omega arith in
    rw e (omega arith)
count_mono (suc n) held k h =
    elim (ℕ_discrete k (suc n)) [
      | yes e ↦ rw e (omega arith)
      | no d ↦ omega (arith, count_mono n held k (omega arith))
    ]

-- a held place below n counts
pub count_room : (n : ℕ) (held : List Bool) (k : ℕ) → k < n → get_or held k false ≡ true → held_count k held + 1 ≤ held_count n held
count_room n held k h e =
    let one : ◌≡◌ {A = ℕ} (cond (get_or held k false) 1 0) 1 = rw e in
    let more = counted_more k held (held_count k held) 1 refl (sym one) in
    omega (arith, more, count_mono n held (k + 1) (omega arith))

module _ (edition n sender count : ℕ) (held : List Bool) (table : List Record) where
  -- the records at the held places below k
  abbrev records_below : ℕ → List Record
  records_below k = filter_map k (λ j. get_or held j false) (λ j. framed n (get_or table j no_record))

  count_is : (k : ℕ) → length (records_below k) ≡ held_count k held
  unfolding filter_map held_count
  count_is zero = refl
  count_is (suc k) =
      length-append (records_below k) (cond (get_or held k false) (framed n (get_or table k no_record) ∷ []) [])
      ∙ ap₂ ◌+◌ (count_is k) (one (get_or held k false))
    where
      one : (b : Bool) → length (cond b (framed n (get_or table k no_record) ∷ []) []) ≡ cond b 1 0
      one true = refl
      one false = refl

  -- the frame as far as it is written
  abbrev front : ℕ → List ℕ
  front k = n ∷ sender ∷ count ∷ edition ∷ records_bytes n (records_below k)

  front_length : (k : ℕ) → length (front k) ≡ 4 + 16 * held_count k held
  front_length k = omega (arith, length_records n (records_below k), count_is k)

  -- the buffer once the places below k are written: the frame so far, and then what stood there
  pub record Filled (old : List ℕ) (k : ℕ) (buffer : List ℕ) : Type 0 where
    pub is : buffer ≡ front k ++ drop (4 + 16 * held_count k held) old

  -- the buffer with the four bytes of the head
  pub filled_none :
      (old head : List ℕ) → head ≡ n ∷ sender ∷ count ∷ edition ∷ [] → Filled old 0 (put_mid 0 4 old head)
  unfolding held_count filter_map records_bytes
  filled_none old head e = record { is = rw e refl }

  module _ (old buffer : List ℕ) (k : ℕ) (f : Filled old k buffer) where
    -- a place that is not held is passed by
    pub at_same : get_or held k false ≡ false → held_count (k + 1) held ≡ held_count k held
    unfolding held_count
    at_same e = rw (add-one k, e, add-zero)

    pub filled_same : get_or held k false ≡ false → Filled old (k + 1) buffer
    unfolding filter_map
    filled_same e =
        let rs : records_below (k + 1) ≡ records_below k = rw (add-one k, e) (append-nil (records_below k)) in
        record { is = rw (rs, at_same e) f.is }

    -- the record of a held place is put where the frame ends so far
    pub at_more : get_or held k false ≡ true → 4 + 16 * held_count k held + 16 ≡ 4 + 16 * held_count (k + 1) held
    at_more e =
        let one : ◌≡◌ {A = ℕ} (cond (get_or held k false) 1 0) 1 = rw e in
        omega (arith, counted_more k held (held_count k held) 1 refl (sym one))

    records_more :
        get_or held k false ≡ true →
        records_bytes n (records_below (k + 1)) ≡ records_bytes n (records_below k) ++ record_bytes n (get_or table k no_record)
    unfolding filter_map records_bytes
    records_more e =
        rw (add-one k, e)
        (records_append n (records_below k) (framed n (get_or table k no_record) ∷ [])
        ∙ rw (append-nil (record_bytes n (framed n (get_or table k no_record))), framed_bytes n (get_or table k no_record)))

    pub filled_more :
        (at : ℕ) (made : List ℕ) → at ≡ 4 + 16 * held_count k held → get_or held k false ≡ true →
        made ≡ record_bytes n (get_or table k no_record) →
        Filled old (k + 1) (take at buffer ++ (made ++ drop (at + 16 - at) (drop at buffer)))
    filled_more at made a e m =
        let long : length (front k) ≡ at = front_length k ∙ sym a in
        let is_old : buffer ≡ front k ++ drop at old = f.is ∙ ap (λ (j : ℕ). front k ++ drop j old) (sym a) in
        let before : take at buffer ≡ front k = ap (take at) is_old ∙ take_at (front k) (drop at old) at long in
        let rest : drop at buffer ≡ drop at old = ap (drop at) is_old ∙ drop_at (front k) (drop at old) at long in
        let place : at + (at + 16 - at) ≡ 4 + 16 * held_count (k + 1) held = omega (arith, at_more e) in
        let past : drop (at + 16 - at) (drop at buffer) ≡ drop (4 + 16 * held_count (k + 1) held) old =
        ap (drop (at + 16 - at)) rest
        ∙ drop-drop (at + 16 - at) at old
        ∙ ap (λ (j : ℕ). drop j old) place in
        record {
          is =
              rw (before, past, m, records_more e)
              (sym (append_assoc (front k) (record_bytes n (get_or table k no_record)) (drop (4 + 16 * held_count (k + 1) held) old)));
        }

-- what the call answers and leaves
module _ (edition n sender : ℕ) (held : List Bool) (table : List Record) where
  abbrev frame : List ℕ
  frame = frame_bytes edition n sender (table_records n held table)

  frame-length : length frame ≡ 4 + 16 * held_count n held
  unfolding table_records
  frame-length = length_frame edition n sender (table_records n held table) ∙ ap (λ (k : ℕ). 4 + 16 * k) (count_is edition n sender 0 held table n)

  module _ (count : ℕ) (right : count ≡ held_count n held) (old : List ℕ) where
    module _ (h : length old < 4 + 16 * count) where
      shorter : ltb (length old) (length frame) ≡ true
      shorter = lt-ltb (length old) (length frame) (omega (arith, frame-length))

      pub short_answer : Err ShortBuffer ≡ (written frame (length old))
      unfolding written
      short_answer = rw shorter

      pub short_buffer_lem : old ≡ buffer_with frame old
      unfolding buffer_with
      short_buffer_lem = rw shorter

    module _ (h : 4 + 16 * count ≤ length old) where
      fits : ltb (length old) (length frame) ≡ false
      fits = le-ltb (length old) (length frame) (omega (arith, frame-length))

      pub done_answer : Ok (4 + 16 * count) ≡ (written frame (length old))
      unfolding written
      done_answer =
          let e : 4 + 16 * count ≡ length frame = omega (arith, frame-length) in
          rw (fits, e)

      pub done_buffer :
          (k : ℕ) (buffer : List ℕ) → k ≡ n → Filled edition n sender count held table old k buffer →
          buffer ≡ buffer_with frame old
      unfolding buffer_with frame_bytes table_records
      done_buffer k buffer e f =
          let len : 4 + 16 * held_count k held ≡ length frame = ap (λ (j : ℕ). 4 + 16 * held_count j held) e ∙ sym frame-length in
          let amount : count ≡ length (table_records n held table) = right ∙ sym (count_is edition n sender 0 held table n) in
          f.is ∙ rw (fits, len, e, amount)
