-- The waiting edits there and back. The laws of the edits of one desk hold at any place; those of
-- the whole are made of them and of the four bytes before them.
use mathlib.Core.Path.{◌≡◌, refl, ap, ap₂, ◌∙◌}
use mathlib.Core.Bool.{true, ◌&&◌}
use mathlib.Core.List.{List, [], ◌∷◌, ◌++◌}
use Prim.Native.Nat.{ℕ, ◌+◌, ◌*◌, ◌<◌, ◌≤◌}
use native.Mathlib.Omega.{arith}
use lib.Dec.{eqb, leb}
use lib.ListN.{get_or, length, length-append}
use Rattle.bodies.specs.declared.Body.{Body}
use Rattle.lists.proofs.Laws.{and_both, both, all_below_at, all_below_make, tabulate_at}
use Rattle.queues.specs.declared.Slot.{Slot}
use Rattle.queues.specs.declared.Waiting.{Waiting}
use Rattle.queues.specs.Queue.{queue_capacity, no_slot}
use Rattle.queues.specs.Waiting.{queue_of, desk_count, waiting_at}
use Rattle.queues.proofs.WaitingLaws.{WaitingSized}
use Rattle.station_bytes_spec.specs.Bytes.{byte_at, flag_byte, as_byte, span}
use Rattle.station_bytes_spec.specs.Body.{encode_body, decode_body, is_body}
use Rattle.station_bytes_spec.specs.Waiting.{edits_width, encode_edits, decode_edits, are_edits, second_place, waiting_width, encode_waiting, decode_waiting, is_waiting}
use Rattle.station_bytes_spec.proofs.Bytes.{Stands, AllBytes, stands_left, stands_right, first_byte, joined_long, joined_ext, stands_joined, span_join, spans_joined, four_span, flag_read, flag_small, flag_back, byte_same, tabulate_is}
use Rattle.station_bytes_spec.proofs.Body.{BodyFits, length-body, body_decoded, body_accepted, body_encoded}

-- ---- the edits of a desk

module _ (slots : List Slot) where
  abbrev body_at : ℕ → Body
  body_at i = (get_or slots i no_slot).body

  pub length_edits : length (encode_edits slots) ≡ edits_width
  unfolding encode_edits
  length_edits = joined_long 32 12 (λ i. encode_body (body_at i)) (λ i m. length-body (body_at i))

  module _ (l : List ℕ) (at : ℕ) (f : (i : ℕ) → i < 32 → BodyFits (body_at i)) (h : Stands l at (encode_edits slots)) where
    stands_edit : (i : ℕ) → i < 32 → Stands l (at + 12 * i) (encode_body (body_at i))
    unfolding encode_edits
    stands_edit i m = stands_joined l at 32 12 (λ j. encode_body (body_at j)) (λ j q. length-body (body_at j)) h i m

    edit_there : (i : ℕ) → i < 32 → decode_body l (at + 12 * i) ≡ body_at i
    edit_there i m = body_decoded l (at + 12 * i) (body_at i) (f i m) (stands_edit i m)

    edits_decoded : length slots ≡ queue_capacity → decode_edits l at ≡ slots
    unfolding decode_edits
    edits_decoded long =
        tabulate_is 32 (λ j. record { body = decode_body l (at + 12 * j) }) slots no_slot long (λ j m. (λ k. record { body = edit_there j m k }))

    edits_accepted : are_edits l at ≡ true
    unfolding are_edits
    edits_accepted =
        all_below_make 32 (λ i. is_body l (at + 12 * i)) (λ i m. body_accepted l (at + 12 * i) (body_at i) (f i m) (stands_edit i m))

module _ (l : List ℕ) (bytes : AllBytes l) (at : ℕ) (room : at + edits_width ≤ length l) where
  edits_encoded : are_edits l at ≡ true → encode_edits (decode_edits l at) ≡ span at edits_width l
  unfolding are_edits encode_edits decode_edits
  edits_encoded h =
      let read : ℕ → Slot = λ j. record { body = decode_body l (at + 12 * j) } in
      joined_ext 32 (λ i. encode_body (get_or (decode_edits l at) i no_slot).body) (λ i. span (at + 12 * i) 12 l)
      (λ i m.
      ap (λ (s : Slot). encode_body s.body) (tabulate_at 32 read i no_slot m)
      ∙ body_encoded l bytes (at + 12 * i) (omega arith) (all_below_at 32 (λ j. is_body l (at + 12 * j)) h i m))
      ∙ spans_joined l at 32 12

-- ---- both desks

pub record WaitingFits (w : Waiting) : Type 0 where
  pub count_byte : (d : ℕ) → desk_count w d < 256
  pub limit_byte : w.limit < 256
  pub sized : WaitingSized w
  pub edit_fits : (d i : ℕ) → i < 32 → BodyFits (waiting_at w d i)

module _ (w : Waiting) where
  abbrev heads : List ℕ
  heads = as_byte w.queue0.len ∷ as_byte w.limit ∷ as_byte w.queue1.len ∷ flag_byte w.one_first ∷ []

  abbrev zero_edits : List ℕ
  zero_edits = encode_edits w.queue0.slots

  abbrev one_edits : List ℕ
  one_edits = encode_edits w.queue1.slots

  length_before : length (heads ++ zero_edits) ≡ second_place
  length_before = length-append heads zero_edits ∙ ap (λ (k : ℕ). 4 + k) (length_edits w.queue0.slots)

  pub length_waiting : length (encode_waiting w) ≡ waiting_width
  unfolding encode_waiting
  length_waiting = length-append (heads ++ zero_edits) one_edits ∙ ap₂ ◌+◌ length_before (length_edits w.queue1.slots)

  module _ (l : List ℕ) (at : ℕ) (f : WaitingFits w) (h : Stands l at (encode_waiting w)) where
    stands_before : Stands l at (heads ++ zero_edits)
    unfolding encode_waiting
    stands_before = stands_left l at (heads ++ zero_edits) one_edits h

    stands-heads : Stands l at heads
    stands-heads = stands_left l at heads zero_edits stands_before

    stands_zero : Stands l (at + 4) zero_edits
    stands_zero = stands_right l at heads zero_edits 4 refl stands_before

    stands_one : Stands l (at + second_place) one_edits
    unfolding encode_waiting
    stands_one = stands_right l at (heads ++ zero_edits) one_edits second_place length_before h

    pub count_there : (byte_at l at ≡ desk_count w 0) × (byte_at l (at + 2) ≡ desk_count w 1)
    unfolding desk_count queue_of
    count_there = (
      first_byte l at _ _ stands-heads ∙ byte_same w.queue0.len (f.count_byte 0),
      stands-heads.is 2 (omega arith) ∙ byte_same w.queue1.len (f.count_byte 1),
    )

    pub limit_there : byte_at l (at + 1) ≡ w.limit
    limit_there = stands-heads.is 1 (omega arith) ∙ byte_same w.limit f.limit_byte

    pub first_there : byte_at l (at + 3) ≡ flag_byte w.one_first
    first_there = stands-heads.is 3 (omega arith)

    zero_fits : (i : ℕ) → i < 32 → BodyFits (get_or w.queue0.slots i no_slot).body
    unfolding waiting_at queue_of
    zero_fits = f.edit_fits 0

    one_fits : (i : ℕ) → i < 32 → BodyFits (get_or w.queue1.slots i no_slot).body
    unfolding waiting_at queue_of
    one_fits = f.edit_fits 1

    pub edits_there :
        ((i : ℕ) → i < 32 → Stands l (at + 4 + 12 * i) (encode_body (waiting_at w 0 i)))
        × ((i : ℕ) → i < 32 → Stands l (at + second_place + 12 * i) (encode_body (waiting_at w 1 i)))
    unfolding waiting_at queue_of
    edits_there = (
      stands_edit w.queue0.slots l (at + 4) zero_fits stands_zero,
      stands_edit w.queue1.slots l (at + second_place) one_fits stands_one,
    )

    pub waiting_decoded : decode_waiting l at ≡ w
    unfolding decode_waiting desk_count queue_of
    waiting_decoded =
        λ i. record {
          limit = limit_there i;
          queue0 =
              record {
                len = count_there.0 i;
                slots = edits_decoded w.queue0.slots l (at + 4) zero_fits stands_zero (f.sized.slots 0) i;
              };
          queue1 =
              record {
                len = count_there.1 i;
                slots = edits_decoded w.queue1.slots l (at + second_place) one_fits stands_one (f.sized.slots 1) i;
              };
          one_first = (ap (λ (x : ℕ). eqb x 1) first_there ∙ flag_read w.one_first) i;
        }

    pub waiting_accepted : is_waiting l at ≡ true
    unfolding is_waiting
    waiting_accepted =
        and_both
        (and_both
        (ap (λ (x : ℕ). leb x 1) first_there ∙ flag_small w.one_first)
        (edits_accepted w.queue0.slots l (at + 4) zero_fits stands_zero))
        (edits_accepted w.queue1.slots l (at + second_place) one_fits stands_one)

module _ (l : List ℕ) (bytes : AllBytes l) (at : ℕ) (room : at + waiting_width ≤ length l) where
  pub waiting_encoded : is_waiting l at ≡ true → encode_waiting (decode_waiting l at) ≡ span at waiting_width l
  unfolding encode_waiting decode_waiting is_waiting
  waiting_encoded h =
      let t₁ = leb (byte_at l (at + 3)) 1 in
      let t₂ = are_edits l (at + 4) in
      let h₃ = both (t₁ && t₂) (are_edits l (at + second_place)) h in
      let h₂ = both t₁ t₂ h₃.0 in
      let count₀ = byte_same (byte_at l at) (bytes.small at) in
      let limit = byte_same (byte_at l (at + 1)) (bytes.small (at + 1)) in
      let count₁ = byte_same (byte_at l (at + 2)) (bytes.small (at + 2)) in
      let first = flag_back (byte_at l (at + 3)) h₂.0 in
      let edits₀ = edits_encoded l bytes (at + 4) (omega arith) h₂.1 in
      let edits₁ = edits_encoded l bytes (at + second_place) (omega arith) h₃.1 in
      (λ i. (count₀ i ∷ limit i ∷ count₁ i ∷ first i ∷ []) ++ edits₀ i ++ edits₁ i)
      ∙ ap (λ (r : List ℕ). r ++ span (at + 4) edits_width l ++ span (at + second_place) edits_width l) (four_span l at (omega arith))
      ∙ ap (λ (r : List ℕ). r ++ span (at + second_place) edits_width l) (span_join l at 4 edits_width second_place refl)
      ∙ span_join l at second_place edits_width waiting_width refl
