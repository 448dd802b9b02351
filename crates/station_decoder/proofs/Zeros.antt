-- Where all bytes are 0, they are those of edits that are all Empty.
use mathlib.Core.Path.{◌≡◌, refl, sym, ap, ◌∙◌}
use mathlib.Core.Bool.{true}
use mathlib.Core.List.{List}
use Prim.Native.Nat.{ℕ, ◌+◌, ◌*◌, ◌<◌}
use native.Mathlib.Omega.{arith}
use lib.ListN.{get_or, replicate, get_or-replicate}
use lib.Bits.{bit_or, or_add_and, and_le_l, and_le_r}
use Rattle.bodies.specs.declared.Body.TheVariants.{Empty}
use Rattle.lists.proofs.Laws.{all_below_make}
use Rattle.frame_spec.specs.Words.{word_bytes, unsigned}
use Rattle.queues.specs.Queue.{no_slot}
use Rattle.station_bytes_spec.specs.Bytes.{byte_at}
use Rattle.station_bytes_spec.specs.Body.{encode_body, decode_body, is_body}
use Rattle.station_bytes_spec.specs.Waiting.{decode_edits, are_edits}
use Rattle.station_bytes_spec.proofs.Bytes.{Stands, tabulate_is}
use Rattle.station_bytes_spec.proofs.Body.{BodyFits, length-body, body_decoded, body_accepted}

-- neither of two numbers has a bit
pub none_of : (a b : ℕ) → bit_or a b ≡ 0 → (a ≡ 0) × (b ≡ 0)
none_of a b h = (omega (arith, or_add_and a b, and_le_l a b, and_le_r a b), omega (arith, or_add_and a b, and_le_l a b, and_le_r a b))

empty_bytes : encode_body Empty ≡ replicate 12 0
unfolding encode_body word_bytes unsigned
empty_bytes = refl

empty_fits : BodyFits Empty
empty_fits = record { event_fits = omega arith; argument_fits = record { sfits = omega arith } }

module _ (b : List ℕ) (at : ℕ) (zero : (i : ℕ) → i < 384 → byte_at b (at + i) ≡ 0) where
  body_stands : (k : ℕ) → k < 32 → Stands b (at + 12 * k) (encode_body Empty)
  body_stands k m =
      record {
        is = λ i l.
            let low : i < 12 = omega (arith, length-body Empty) in
            let place : at + 12 * k + i ≡ at + (12 * k + i) = omega arith in
            ap (λ (j : ℕ). byte_at b j) place ∙ zero (12 * k + i) (omega arith)
            ∙ sym (ap (λ (x : List ℕ). get_or x i 0) empty_bytes ∙ get_or-replicate 12 i 0 0 low);
      }

  pub zeros_are_edits : true ≡ are_edits b at
  unfolding are_edits
  zeros_are_edits =
      sym (all_below_make 32 (λ i. is_body b (at + 12 * i)) (λ i m. body_accepted b (at + 12 * i) Empty empty_fits (body_stands i m)))

  pub zeros_read : replicate 32 no_slot ≡ decode_edits b at
  unfolding decode_edits
  zeros_read =
      sym
      (tabulate_is 32 (λ j. record { body = decode_body b (at + 12 * j) }) (replicate 32 no_slot) no_slot refl
      (λ k m. (λ i. record { body = body_decoded b (at + 12 * k) Empty empty_fits (body_stands k m) i }) ∙ sym (get_or-replicate 32 k no_slot no_slot m)))
