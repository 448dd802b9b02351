-- The waiting edits of a station as bytes: how many of desk 0 wait, the limit, how many of desk 1
-- wait, whether desk 1 goes first where both wait; then the edits of desk 0, and behind them those
-- of desk 1.
use Rattle.std.specs.Prelude.{ℕ, ◌+◌, ◌*◌, Bool, ◌&&◌, List, [], ◌∷◌, ◌++◌, nat_le, slice_index_or}
use Rattle.lists.specs.Below.{all_below, tabulate}
use Rattle.queues.specs.declared.Slot.{Slot}
use Rattle.queues.specs.declared.Waiting.{Waiting}
use Rattle.queues.specs.Queue.{no_slot}
use Rattle.station_bytes_spec.specs.Bytes.{byte_at, flag_at, flag_byte, as_byte, joined_below}
use Rattle.station_bytes_spec.specs.Body.{body_width, encode_body, decode_body, is_body}

-- the edits of a desk: 32 bodies
abbrev pub edits_width : ℕ
edits_width = body_width * 32

unfoldable pub encode_edits : List Slot → List ℕ
encode_edits slots = joined_below 32 (λ i. encode_body (slice_index_or slots i no_slot).body)

unfoldable pub decode_edits : List ℕ → ℕ → List Slot
decode_edits b at = tabulate 32 (λ i. record { body = decode_body b (at + body_width * i) })

unfoldable pub are_edits : List ℕ → ℕ → Bool
are_edits b at = all_below 32 (λ i. is_body b (at + body_width * i))

-- where the edits of desk 1 stand
abbrev pub second_place : ℕ
second_place = 4 + edits_width

abbrev pub waiting_width : ℕ
waiting_width = second_place + edits_width

unfoldable pub encode_waiting : Waiting → List ℕ
encode_waiting w =
    (as_byte w.queue0.len ∷ as_byte w.limit ∷ as_byte w.queue1.len ∷ flag_byte w.one_first ∷ [])
    ++ encode_edits w.queue0.slots
    ++ encode_edits w.queue1.slots

unfoldable pub decode_waiting : List ℕ → ℕ → Waiting
decode_waiting b at =
    record {
      limit = byte_at b (at + 1);
      queue0 = record { len = byte_at b at; slots = decode_edits b (at + 4) };
      queue1 = record { len = byte_at b (at + 2); slots = decode_edits b (at + second_place) };
      one_first = flag_at b (at + 3);
    }

unfoldable pub is_waiting : List ℕ → ℕ → Bool
is_waiting b at = nat_le (byte_at b (at + 3)) 1 && are_edits b (at + 4) && are_edits b (at + second_place)
