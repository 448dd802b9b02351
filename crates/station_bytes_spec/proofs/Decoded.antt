-- What bytes decode to is what the types of a station say; so are the records of a frame.
use mathlib.Core.Path.{◌≡◌, refl, sym, subst, ◌∙◌}
use mathlib.Core.Bool.{Bool, true, false}
use mathlib.Core.List.{List, [], ◌∷◌, ◌++◌}
use Prim.Native.Nat.{ℕ, zero, suc, ◌+◌, ◌*◌, ◌<◌, ◌≤◌}
use native.Mathlib.Omega.{arith}
use lib.Dec.{ltb}
use lib.ListN.{get_or, drop, length, length-take, get_or-eq_default}
use lib.Seq.{get_or-take, get_or-drop}
use borrow.Author.Tests.{ltb-true, ltb-false}
use Rattle.bodies.specs.declared.Body.{Body}
use Rattle.bodies.specs.Body.{body_of}
use Rattle.lists.specs.Below.{tabulate}
use Rattle.lists.proofs.Laws.{length-tabulate, tabulate_at}
use Rattle.frame_spec.specs.declared.Record.{Record}
use Rattle.frame_spec.specs.Words.{word_at, signed}
use Rattle.frame_spec.specs.Record.{no_record, record_from}
use Rattle.frame_spec.specs.Frame.{part, records_of}
use Rattle.queues.specs.declared.Slot.{Slot}
use Rattle.queues.specs.declared.Queue.{Queue}
use Rattle.queues.specs.Lane.{no_lane}
use Rattle.queues.specs.Queue.{no_slot}
use Rattle.queues.proofs.WaitingLaws.{WaitingSized, each_queue}
use Rattle.station_spec.specs.State.{cell_of}
use Rattle.station_spec.proofs.Setters.{Shaped}
use Rattle.station_spec.proofs.LimitsHearing.{AllCarried}
use Rattle.station_bytes_spec.specs.Bytes.{byte_at}
use Rattle.station_bytes_spec.specs.Body.{decode_body, decode_record}
use Rattle.station_bytes_spec.specs.Waiting.{decode_edits, second_place, decode_waiting}
use Rattle.station_bytes_spec.specs.Station.{cell_width, decode_lane, decode_cell, waiting_place, cell_in, decode_station}
use Rattle.station_bytes_spec.proofs.Bytes.{AllBytes, word_small}
use Rattle.station_bytes_spec.proofs.Body.{BodyFits, RecordFits}
use Rattle.station_bytes_spec.proofs.Station.{CellFits}
use Rattle.station_bytes_spec.proofs.Bodies.{signed_fits, numbers_fit, SlotsFit, slots_fit, EditsFit}
use Rattle.station_bytes_spec.proofs.Typed.{Fitting, AllFit, none, more}

module _ (b : List ℕ) (bytes : AllBytes b) where
  words_fit : (kind channel event word : ℕ) → event < 4_294_967_296 → word < 4_294_967_296 → BodyFits (body_of kind event (signed word) channel)
  words_fit kind channel event word e w = numbers_fit kind event (signed word) channel e (signed_fits word w)

  body_typed : (at : ℕ) → BodyFits (decode_body b at)
  unfolding decode_body
  body_typed at = words_fit (byte_at b at) (byte_at b (at + 1)) (word_at b (at + 4)) (word_at b (at + 8)) (word_small b bytes (at + 4)) (word_small b bytes (at + 8))

  record_typed : (at : ℕ) → RecordFits (decode_record b at)
  unfolding decode_record
  record_typed at =
      record {
        labels_fit = word_small b bytes (at + 12);
        body_fits = words_fit (byte_at b (at + 2)) (byte_at b (at + 3)) (word_at b (at + 4)) (word_at b (at + 8)) (word_small b bytes (at + 4)) (word_small b bytes (at + 8));
      }

  cell_typed : (at : ℕ) → CellFits (decode_cell b at)
  unfolding decode_cell decode_lane
  cell_typed at = record { entry_fits = record_typed (at + 28); first_fits = body_typed (at + 4); second_fits = body_typed (at + 16) }

  edits_typed : (at : ℕ) → SlotsFit (decode_edits b at)
  unfolding decode_edits
  edits_typed at =
      slots_fit (tabulate 32 (λ i. record { body = decode_body b (at + 12 * i) }))
      (λ i l.
      subst (λ (s : Slot). BodyFits s.body)
      (sym (tabulate_at 32 (λ j. record { body = decode_body b (at + 12 * j) }) i no_slot (omega (arith, length-tabulate {A = Slot} 32 (λ j. record { body = decode_body b (at + 12 * j) })))))
      (body_typed (at + 12 * i)))

  edits_sized : (at : ℕ) → length (decode_edits b at) ≡ 32
  unfolding decode_edits
  edits_sized at = length-tabulate {A = Slot} 32 (λ j. record { body = decode_body b (at + 12 * j) })

  waiting_typed : (at : ℕ) → EditsFit (decode_waiting b at)
  unfolding decode_waiting
  waiting_typed at = record { zero_fits = edits_typed (at + 4); one_fits = edits_typed (at + second_place) }

  waiting_sized : (at : ℕ) → WaitingSized (decode_waiting b at)
  unfolding decode_waiting
  waiting_sized at =
      record {
        slots = each_queue (λ (q : Queue). length q.slots ≡ 32) (decode_waiting b at) (edits_sized (at + 4)) (edits_sized (at + second_place));
      }

  -- a station, at any place
  module _ (at : ℕ) where
    cell_is : (k : ℕ) → k < 16 → cell_of (decode_station b at) k ≡ cell_in b at k
    unfolding cell_of decode_station
    cell_is k m =
        λ i. record {
          label = tabulate_at 16 (λ j. (cell_in b at j).label) k 0 m i;
          acked = tabulate_at 16 (λ j. (cell_in b at j).acked) k false m i;
          held = tabulate_at 16 (λ j. (cell_in b at j).held) k false m i;
          entry = tabulate_at 16 (λ j. (cell_in b at j).entry) k no_record m i;
          lane = tabulate_at 16 (λ j. (cell_in b at j).lane) k no_lane m i;
        }

    pub station_fitting : Fitting (decode_station b at)
    station_fitting =
        record {
          body = own_body;
          cells = λ k l. subst CellFits (sym (cell_is k l)) (cell_typed (at + 16 + cell_width * k));
          edits = own_edits;
        }
      where
        own_body : BodyFits (decode_station b at).body
        own_body = unfold decode_station in body_typed (at + 4)

        own_edits : EditsFit (decode_station b at).waiting
        own_edits = unfold decode_station in waiting_typed (at + waiting_place)

    pub station_shaped : Shaped (decode_station b at)
    unfolding decode_station
    station_shaped =
        record {
          acked = length-tabulate 16 (λ k. (cell_in b at k).acked);
          labels = length-tabulate 16 (λ k. (cell_in b at k).label);
          held = length-tabulate 16 (λ k. (cell_in b at k).held);
          table = length-tabulate 16 (λ k. (cell_in b at k).entry);
          lanes = length-tabulate 16 (λ k. (cell_in b at k).lane);
          waiting = waiting_sized (at + waiting_place);
        }

-- ---- the records of a frame

part_bytes : (bytes : List ℕ) (k : ℕ) → AllBytes bytes → AllBytes (part bytes k)
part_bytes bytes k h = record { small = λ i. go i (ltb i 16) refl }
  where
    go : (i : ℕ) (t : Bool) → ltb i 16 ≡ t → get_or (part bytes k) i 0 < 256
    go i true e =
        subst (λ (x : ℕ). x < 256) (sym (get_or-take 16 (drop (4 + 16 * k) bytes) i 0 (ltb-true i 16 e) ∙ get_or-drop (4 + 16 * k) bytes i 0)) (h.small (4 + 16 * k + i))
    go i false e =
        subst (λ (x : ℕ). x < 256)
        (sym (get_or-eq_default (part bytes k) 0 {n = i} (omega (arith, length-take 16 (drop (4 + 16 * k) bytes), ltb-false i 16 e)))) (omega arith)

pub record_from_lem : (p : List ℕ) → AllBytes p → RecordFits (record_from p)
unfolding record_from
record_from_lem p h =
    record {
      labels_fit = word_small p h 12;
      body_fits = numbers_fit (get_or p 2 0) (word_at p 4) (signed (word_at p 8)) (get_or p 3 0) (word_small p h 4) (signed_fits (word_at p 8) (word_small p h 8));
    }

-- the numbers of every record fit
pub data AllWords : List Record → Type 0 where
  no_words : AllWords []
  more_words : {r : Record} {rs : List Record} → RecordFits r → AllWords rs → AllWords (r ∷ rs)

pub words_append : (rs : List Record) (r : Record) → AllWords rs → RecordFits r → AllWords (rs ++ (r ∷ []))
words_append [] r no_words g = more_words g no_words
words_append (x ∷ rs) r (more_words f all) g = more_words f (words_append rs r all g)

pub frame_words : (bytes : List ℕ) → AllBytes bytes → AllWords (records_of bytes)
unfolding records_of
frame_words bytes h = go (get_or bytes 2 0)
  where
    go : (m : ℕ) → AllWords (tabulate m (λ k. record_from (part bytes k)))
    go m = elim m as (λ i. AllWords (tabulate i (λ k. record_from (part bytes k)))) [
      | zero ↦ unfold tabulate in no_words
      | suc (j → ih) ↦
          unfold tabulate in
          (words_append (tabulate j (λ k. record_from (part bytes k))) (record_from (part bytes j)) ih (record_from_lem (part bytes j) (part_bytes bytes j h)))
    ]

-- with their stations below n
pub all_fit : (inside : Body → Bool) (n : ℕ) → n ≤ 16 → (rs : List Record) → AllCarried inside n rs → AllWords rs → AllFit rs
all_fit inside n high [] c no_words = none
all_fit inside n high (r ∷ rs) c (more_words g all) = more {r = r} {rs = rs} (omega (arith, c.0.station)) g (all_fit inside n high rs c.1 all)
