-- What each function leaves: the bytes of the station with its part of what was heard. The loops go
-- place by place, and each turn is one change more.
use mathlib.Core.Path.{◌≡◌, refl, sym, ap, ◌∙◌}
use mathlib.Core.Bool.{true, false}
use mathlib.Core.List.{List, [], ◌∷◌}
use Prim.Native.Nat.{ℕ, ◌+◌, ◌*◌, ◌<◌, ◌≤◌}
use native.Mathlib.Omega.{arith}
use lib.ListN.{get_or, set, length, length-set}
use lib.Seq.{sets}
use borrow.Author.Tests.{ne_eqb}
use Rattle.bodies.specs.declared.Body.{Body}
use Rattle.bodies.specs.declared.Body.TheVariants.{Empty}
use Rattle.lists.specs.Below.{set_below}
use Rattle.lists.proofs.Laws.{length-set_below, set_below_more, set_below_above, set_below_all}
use Rattle.labels.specs.Packing.{label_in, labels_over}
use Rattle.frame_spec.specs.declared.Record.{Record}
use Rattle.frame_spec.specs.Record.{record_label, no_record}
use Rattle.frame_spec.specs.Words.{word_at}
use Rattle.frame_spec.proofs.Labels.{labels_of}
use Rattle.queues.specs.declared.Lane.{Lane}
use Rattle.queues.specs.Lane.{no_lane, pushed}
use Rattle.queues.proofs.LaneSteps.{push_none, push_one, push_two}
use Rattle.station_spec.specs.declared.Station.{Station}
use Rattle.station_spec.specs.declared.Taking.{Taking}
use Rattle.station_spec.specs.State.{cell_of, record_of, with_broadcast, with_arrays}
use Rattle.station_spec.specs.Hearing.{replaced}
use Rattle.station_spec.proofs.Setters.{Shaped, broadcast_shaped}
use Rattle.hearing_spec.specs.declared.Ear.{Ear}
use Rattle.hearing_spec.specs.Buffer.{record_at}
use Rattle.hearing_spec.specs.Gathered.{pushed_all}
use Rattle.hearing_spec.specs.StandsFor.{holds_at, acts_on}
use Rattle.listening.specs.Listened.{takings_at, heard_notes}
use Rattle.listening.proofs.ActSteps.{entry_at, acted_first, acted_none, acted_some, acted_all}
use Rattle.listening.proofs.TakingSteps.{filled_more}
use Rattle.station_bytes_spec.specs.Bytes.{byte_at, flag_byte}
use Rattle.station_bytes_spec.specs.Body.{encode_body, encode_record}
use Rattle.station_bytes_spec.specs.Station.{encode_station}
use Rattle.station_bytes_spec.proofs.Body.{length-body}
use Rattle.station_calls.specs.Changes.{Changes, ChangesAt, ChangesOf, without_entry, with_entry_at, entries_below, with_numbers, with_pushed, with_taken}
use Rattle.station_calls.proofs.HeardChanges.{lane_len, entry_labels, count_put, acked_put, label_put, held_put, entry_put, laned, lane_first, lane_put, len_is, first_is, second_is, cell_len, cell_first, cell_second}

-- ---- the records

pub entry_cleared : (b : List ℕ) (k : ℕ) → k < 16 → Changes b (set b (16 + 44 * k + 1) 0) (λ s. without_entry s k)
entry_cleared b k m =
    record { encoded = λ s h e. ap (λ (l : List ℕ). set l (16 + 44 * k + 1) 0) e ∙ held_put s k m h.held false }

-- a record read, with labels put over old ones, is the one that replaces the old
entry_made :
    (n old labels : ℕ) (was seen r : Record) → seen ≡ r → labels ≡ labels_over n (label_in seen.labels) old → old ≡ was.labels →
    ◌≡◌ {A = Record} (record { station = seen.station; count = seen.count; body = seen.body; labels = labels }) (replaced n was r)
unfolding replaced
entry_made n old labels was seen r is over same =
    λ i. record {
      station = (is i).station;
      count = (is i).count;
      body = (is i).body;
      labels = (over ∙ labels_of n seen old ∙ (λ j. labels_over n (record_label (is j)) (same j))) i;
    }

pub entry_written :
    (b l : List ℕ) (k n at old labels : ℕ) (bytes : List ℕ) (seen : Record) → k < 16 → old ≡ word_at b (16 + 44 * k + 40) → seen ≡ record_at bytes at →
    labels ≡ labels_over n (label_in seen.labels) old →
    l ≡ sets (set b (16 + 44 * k + 1) 1) (16 + 44 * k + 28) (encode_record (record { station = seen.station; count = seen.count; body = seen.body; labels = labels })) →
    ChangesAt k b l (λ s. with_entry_at s n k bytes at)
entry_written b l k n at old labels bytes seen m word is over written =
    record {
      encoded = λ s h small e.
          let t = with_arrays s s.acked s.labels (set s.held k true) s.table s.lanes in
          let same : old ≡ (record_of s k).labels = word ∙ ap (λ (x : List ℕ). word_at x (16 + 44 * k + 40)) e ∙ entry_labels s k m small in
          written
          ∙ (λ i. sets (set (e i) (16 + 44 * k + 1) 1) (16 + 44 * k + 28) (encode_record (entry_made n old labels (record_of s k) seen (record_at bytes at) is over same i)))
          ∙ ap (λ (x : List ℕ). sets x (16 + 44 * k + 28) (encode_record (replaced n (record_of s k) (record_at bytes at)))) (held_put s k m h.held true)
          ∙ entry_put t k m h.table (replaced n (record_of s k) (record_at bytes at));
    }

entries_shaped : (s : Station) (bytes places : List ℕ) (k : ℕ) → Shaped s → Shaped (entries_below s bytes places k)
entries_shaped s bytes places k h =
    record {
      acked = h.acked;
      labels = h.labels;
      held = length-set_below k (holds_at places) s.held ∙ h.held;
      table = length-set_below k (entry_at s bytes places) s.table ∙ h.table;
      lanes = h.lanes;
      waiting = h.waiting;
    }

-- the record of k is that of the station, as long as it is not replaced
entry_old : (s : Station) (bytes places : List ℕ) (k : ℕ) → record_of (entries_below s bytes places k) k ≡ record_of s k
unfolding cell_of
entry_old s bytes places k = set_below_above k (entry_at s bytes places) s.table k no_record (omega arith)

entry_of :
    (s : Station) (bytes places : List ℕ) (k n : ℕ) → s.n ≡ n →
    replaced n (record_of (entries_below s bytes places k) k) (record_at bytes (get_or places k 0))
    ≡ replaced s.n (get_or (entries_below s bytes places k).table k no_record) (record_at bytes (get_or places k 0))
unfolding cell_of
entry_of s bytes places k n size =
    ap (λ (m : ℕ). replaced m (get_or (entries_below s bytes places k).table k no_record) (record_at bytes (get_or places k 0))) (sym size)

pub entries_none : (n : ℕ) (b bytes places : List ℕ) → ChangesOf n b b (λ s. entries_below s bytes places 0)
entries_none n b bytes places = record { encoded = λ s h size small e. e ∙ ap encode_station (acted_first s bytes places) }

module _ (n k : ℕ) (b l₁ l₂ bytes places : List ℕ) (before : ChangesOf n b l₁ (λ s. entries_below s bytes places k)) where
  pub entries_clear :
      get_or places k 0 ≡ 0 → Changes l₁ l₂ (λ s. without_entry s k) → ChangesOf n b l₂ (λ s. entries_below s bytes places (k + 1))
  entries_clear none change =
      record {
        encoded = λ s h size small e.
            let t = entries_below s bytes places k in
            let holds : false ≡ holds_at places k = rw none in
            change.encoded t (entries_shaped s bytes places k h) (before.encoded s h size small e)
            ∙ (λ i. encode_station (with_arrays t t.acked t.labels (set t.held k (holds i)) t.table t.lanes))
            ∙ ap encode_station (acted_none s bytes places k none);
      }

  pub entries_put :
      (get_or places k 0 ≡ 0 → ⊥) → ChangesAt k l₁ l₂ (λ s. with_entry_at s n k bytes (get_or places k 0)) →
      ChangesOf n b l₂ (λ s. entries_below s bytes places (k + 1))
  entries_put some change =
      record {
        encoded = λ s h size small e.
            let t = entries_below s bytes places k in
            let r = replaced n (record_of t k) (record_at bytes (get_or places k 0)) in
            let holds : true ≡ holds_at places k = rw (ne_eqb (get_or places k 0) 0 some) in
            let labels : (record_of t k).labels < 4_294_967_296 = rw (entry_old s bytes places k) (small k) in
            change.encoded t (entries_shaped s bytes places k h) labels (before.encoded s h size small e)
            ∙ (λ i. encode_station (with_arrays t t.acked t.labels (set t.held k (holds i)) (set t.table k r) t.lanes))
            ∙ ap encode_station (acted_some s bytes places k some r (entry_of s bytes places k n size));
      }

pub entries_done : (n k : ℕ) (b l bytes places : List ℕ) → k ≡ n → ChangesOf n b l (λ s. entries_below s bytes places k) → ChangesOf n b l (λ s. entries_below s bytes places n)
entries_done n k b l bytes places e h =
    record { encoded = λ s shape size small is. h.encoded s shape size small is ∙ ap (λ (j : ℕ). encode_station (entries_below s bytes places j)) e }

-- ---- the numbers

-- those of the stations below k
abbrev pub numbers_below : Station → Ear → ℕ → Station
numbers_below s e k =
    with_arrays s (set_below k (λ j. get_or e.acked j false) s.acked) (set_below k (λ j. get_or e.labels j 0) s.labels) s.held s.table
    s.lanes

pub numbers_none : (b : List ℕ) (ear : Ear) → Changes b b (λ s. numbers_below s ear 0)
unfolding set_below
numbers_none b ear = record { encoded = λ s h e. e }

pub numbers_more :
    (b l : List ℕ) (ear : Ear) (k flag : ℕ) → k < 16 → flag ≡ flag_byte (get_or ear.acked k false) → Changes b l (λ s. numbers_below s ear k) →
    Changes b (set (set l (16 + 44 * k) flag) (16 + 44 * k + 2) (get_or ear.labels k 0)) (λ s. numbers_below s ear (k + 1))
numbers_more b l ear k flag m is before =
    record {
      encoded = λ s h e.
          let a = get_or ear.acked k false in
          let x = get_or ear.labels k 0 in
          let t = numbers_below s ear k in
          let t₁ = with_arrays t (set t.acked k a) t.labels t.held t.table t.lanes in
          let acked : length t.acked ≡ 16 = length-set_below k (λ j. get_or ear.acked j false) s.acked ∙ h.acked in
          let labels : length t.labels ≡ 16 = length-set_below k (λ j. get_or ear.labels j 0) s.labels ∙ h.labels in
          (λ i. set (set (before.encoded s h e i) (16 + 44 * k) (is i)) (16 + 44 * k + 2) x)
          ∙ ap (λ (y : List ℕ). set y (16 + 44 * k + 2) x) (acked_put t k m acked a)
          ∙ label_put t₁ k m labels x
          ∙ (λ i.
          encode_station
          (with_arrays s (set_below_more k (λ j. get_or ear.acked j false) s.acked i) (set_below_more k (λ j. get_or ear.labels j 0) s.labels i) s.held s.table s.lanes));
    }

pub numbers_done :
    (b l : List ℕ) (ear : Ear) (k : ℕ) → k ≡ 16 → length ear.acked ≡ 16 → length ear.labels ≡ 16 →
    Changes (set b 2 ear.count) l (λ s. numbers_below s ear k) → Changes b l (λ s. with_numbers s ear)
numbers_done b l ear k all acked labels h =
    record {
      encoded = λ s shape e.
          let t = with_broadcast s s.body ear.count in
          h.encoded t (broadcast_shaped s s.body ear.count shape) (ap (λ (x : List ℕ). set x 2 ear.count) e ∙ count_put s ear.count)
          ∙ ap (λ (j : ℕ). encode_station (numbers_below t ear j)) all
          ∙ (λ i.
          encode_station
          (with_arrays t (set_below_all 16 ear.acked s.acked false acked shape.acked i) (set_below_all 16 ear.labels s.labels 0 labels shape.labels i) s.held s.table s.lanes));
    }

-- ---- the takings

module _ (b : List ℕ) (k : ℕ) (m : k < 16) (body : Body) where
  abbrev place : ℕ
  place = 16 + 44 * k

  was : (s : Station) → b ≡ encode_station s → b ≡ encode_station (laned s k m (get_or s.lanes k no_lane))
  was s e = e ∙ ap encode_station (lane_first s k m)

  len_is_lem : (s : Station) → b ≡ encode_station s → byte_at b (place + 3) ≡ (get_or s.lanes k no_lane).len
  len_is_lem s e = ap (λ (x : List ℕ). byte_at x (place + 3)) e ∙ lane_len s k m

  pub pushed_first :
      byte_at b (place + 3) ≡ 0 → (l₁ l₂ : List ℕ) → l₁ ≡ sets (set b (place + 3) 1) (place + 4) (encode_body body) → l₂ ≡ sets l₁ (place + 16) (encode_body Empty) →
      Changes b l₂ (λ s. with_pushed s k body)
  pushed_first none l₁ l₂ w₁ w₂ =
      record {
        encoded = λ s h e.
            let v = get_or s.lanes k no_lane in
            let b₁ = ap (λ (x : List ℕ). set x (place + 3) 1) (was s e) ∙ lane_put s k m h.lanes (len_is 1) v 3 (1 ∷ []) (omega arith) (λ c. cell_len c 1) in
            let b₂ =
            w₁ ∙ ap (λ (x : List ℕ). sets x (place + 4) (encode_body body)) b₁
            ∙ lane_put s k m h.lanes (first_is body) (len_is 1 v) 4 (encode_body body) (omega (arith, length-body body)) (λ c. cell_first c body) in
            w₂ ∙ ap (λ (x : List ℕ). sets x (place + 16) (encode_body Empty)) b₂
            ∙ lane_put s k m h.lanes (second_is Empty) (first_is body (len_is 1 v)) 16 (encode_body Empty) (omega (arith, length-body Empty)) (λ c. cell_second c Empty)
            ∙ ap (λ (x : Lane). encode_station (laned s k m x)) (push_none v body (sym (len_is_lem s e) ∙ none));
      }

  pub pushed_second :
      byte_at b (place + 3) ≡ 1 → (l₁ : List ℕ) → l₁ ≡ sets (set b (place + 3) 2) (place + 16) (encode_body body) → Changes b l₁ (λ s. with_pushed s k body)
  pushed_second one l₁ w₁ =
      record {
        encoded = λ s h e.
            let v = get_or s.lanes k no_lane in
            let b₁ = ap (λ (x : List ℕ). set x (place + 3) 2) (was s e) ∙ lane_put s k m h.lanes (len_is 2) v 3 (2 ∷ []) (omega arith) (λ c. cell_len c 2) in
            w₁ ∙ ap (λ (x : List ℕ). sets x (place + 16) (encode_body body)) b₁
            ∙ lane_put s k m h.lanes (second_is body) (len_is 2 v) 16 (encode_body body) (omega (arith, length-body body)) (λ c. cell_second c body)
            ∙ ap (λ (x : Lane). encode_station (laned s k m x)) (push_one v body (sym (len_is_lem s e) ∙ one));
      }

  pub pushed_none : 2 ≤ byte_at b (place + 3) → Changes b (set b (place + 3) 2) (λ s. with_pushed s k body)
  pushed_none two =
      record {
        encoded = λ s h e.
            let v = get_or s.lanes k no_lane in
            ap (λ (x : List ℕ). set x (place + 3) 2) (was s e)
            ∙ lane_put s k m h.lanes (len_is 2) v 3 (2 ∷ []) (omega arith) (λ c. cell_len c 2)
            ∙ ap (λ (x : Lane). encode_station (laned s k m x)) (push_two v body (omega (arith, len_is_lem s e)));
      }

length_pushed : (l : List Lane) (ts : List Taking) → length (pushed_all l ts) ≡ length l
unfolding pushed_all
length_pushed l [] = refl
length_pushed l (t ∷ ts) =
    length_pushed (set l t.source (pushed (get_or l t.source no_lane) t.body)) ts ∙ length-set l t.source (pushed (get_or l t.source no_lane) t.body)

pub taken_none : (b bytes taken : List ℕ) → Changes b b (λ s. with_taken s bytes taken 0)
unfolding pushed_all
taken_none b bytes taken = record { encoded = λ s h e. e }

pub taken_more :
    (b l₁ l₂ bytes taken : List ℕ) (i : ℕ) → i < 30 → length taken ≡ 30 → (seen : Record) → seen ≡ record_at bytes (get_or taken i 0) →
    Changes b l₁ (λ s. with_taken s bytes taken i) → Changes l₁ l₂ (λ s. with_pushed s seen.station seen.body) →
    Changes b l₂ (λ s. with_taken s bytes taken (i + 1))
taken_more b l₁ l₂ bytes taken i low long seen is before change =
    record {
      encoded = λ s h e.
          let t = with_taken s bytes taken i in
          let shape : Shaped t =
          record {
            acked = h.acked;
            labels = h.labels;
            held = h.held;
            table = h.table;
            lanes = length_pushed s.lanes (takings_at bytes taken i) ∙ h.lanes;
            waiting = h.waiting;
          } in
          change.encoded t shape (before.encoded s h e)
          ∙ (λ j. encode_station (with_pushed t (is j).station (is j).body))
          ∙ ap (λ (v : List Lane). encode_station (with_arrays s s.acked s.labels s.held s.table v)) (filled_more bytes taken i low long s.lanes);
    }

pub taken_done : (b l bytes taken : List ℕ) (i len : ℕ) → i ≡ len → Changes b l (λ s. with_taken s bytes taken i) → Changes b l (λ s. with_taken s bytes taken len)
taken_done b l bytes taken i len e h =
    record { encoded = λ s shape is. h.encoded s shape is ∙ ap (λ (j : ℕ). encode_station (with_taken s bytes taken j)) e }

-- ---- all of it

pub heard_put :
    (n : ℕ) (b l₁ l₂ l₃ bytes places taken : List ℕ) (ear : Ear) → length ear.acked ≡ 16 → length ear.labels ≡ 16 →
    ChangesOf n b l₁ (λ s. entries_below s bytes places n) → Changes l₁ l₂ (λ s. with_numbers s ear) → Changes l₂ l₃ (λ s. with_taken s bytes taken ear.len) →
    ChangesOf n b l₃ (λ s. acts_on s bytes (heard_notes places taken ear))
heard_put n b l₁ l₂ l₃ bytes places taken ear acked labels c₁ c₂ c₃ =
    record {
      encoded = λ s h size small e.
          let t₁ = entries_below s bytes places n in
          let t₂ = with_numbers t₁ ear in
          let h₁ = entries_shaped s bytes places n h in
          let h₂ : Shaped t₂ =
          record { acked = acked; labels = labels; held = h₁.held; table = h₁.table; lanes = h₁.lanes; waiting = h₁.waiting } in
          c₃.encoded t₂ h₂ (c₂.encoded t₁ h₁ (c₁.encoded s h size small e))
          ∙ ap (λ (m : ℕ). encode_station (with_taken (with_numbers (entries_below s bytes places m) ear) bytes taken ear.len)) (sym size)
          ∙ ap encode_station (acted_all s bytes places taken ear);
    }
