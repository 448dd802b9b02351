-- Parts written one behind the other make the encoding of the whole, and parts read from their
-- places are what it decodes to.
use mathlib.Core.List.{List, [], ◌∷◌, ◌++◌, append_assoc}
use mathlib.Core.Path.{◌≡◌, refl, sym, ap, ◌∙◌}
use Prim.Native.Nat.{ℕ, ◌+◌, ◌/◌, ◌%◌, ◌≤◌}
use native.Mathlib.Omega.{arith}
use lib.ListN.{get_or, drop, length, length-append, take}
use lib.Seq.{sets}
use borrow.Rule.Slice.PartMut.{put_mid}
use Rattle.std.proofs.lemmas.List.{drop-drop}
use Rattle.std.proofs.lemmas.List.Edits.{sets-eq}
use mir.Syntax.{w64}
use Rattle.std.specs.Int.{to_le_bytes}
use Rattle.frame_spec.specs.Words.{word_bytes}
use Rattle.station_bytes_spec.specs.Bytes.{as_byte, joined_below}
use Rattle.station_bytes_spec.proofs.Bytes.{length_word, joined_long}
use Rattle.station_encoder.proofs.Writing.{written_more, four_written}
use Rattle.bulletins_spec.specs.declared.Bulletins.{Bulletins}
use Rattle.bulletins_spec.specs.declared.Notice.{Notice}
use Rattle.bulletins_spec.specs.declared.Shown.{Shown}
use Rattle.bulletins_spec.specs.State.{set_of, tag_at, event_at}
use Rattle.bulletins_spec.specs.Calls.{no_notice}
use Rattle.bulletin_bytes.specs.Bulletins.{set_bytes, encode_bulletins}
use Rattle.bulletin_bytes.specs.Shown.{encode_notice, encode_shown}

-- the eight bytes of a set, the lowest first, are its two words, the lower first
pub set_low_first : (x : ℕ) → to_le_bytes w64 x ≡ set_bytes x
unfolding set_bytes word_bytes
set_low_first x =
    let e₀ : x % 256 ≡ x % 4_294_967_296 % 256 = omega arith in
    let e₁ : x / 256 % 256 ≡ x % 4_294_967_296 / 256 % 256 = omega arith in
    let e₂ : x / 65_536 % 256 ≡ x % 4_294_967_296 / 65_536 % 256 = omega arith in
    let e₃ : x / 16_777_216 % 256 ≡ x % 4_294_967_296 / 16_777_216 % 256 = omega arith in
    let e₅ : x / 1_099_511_627_776 % 256 ≡ x / 4_294_967_296 / 256 % 256 = omega arith in
    let e₆ : x / 281_474_976_710_656 % 256 ≡ x / 4_294_967_296 / 65_536 % 256 = omega arith in
    let e₇ : x / 72_057_594_037_927_936 % 256 ≡ x / 4_294_967_296 / 16_777_216 % 256 = omega arith in
    λ i. e₀ i ∷ e₁ i ∷ e₂ i ∷ e₃ i ∷ x / 4_294_967_296 % 256 ∷ e₅ i ∷ e₆ i ∷ e₇ i ∷ []

-- a part that is written over as many others
pub part_put : (at k : ℕ) (l xs made : List ℕ) → k ≡ length xs → at + length xs ≤ length l → made ≡ xs → put_mid at k l made ≡ sets l at xs
part_put at k l xs made w room e =
    rw (e, w)
    (rw (drop-drop (length xs) at l) (sym (sets-eq xs l at room ∙ append_assoc (take at l) xs (drop (at + length xs) l))))

module _ (l l₁ l₂ : List ℕ) (at : ℕ) where
  pub shown_written : (x : Shown) (c : ℕ) → c ≡ as_byte x.len → l₁ ≡ sets l at (word_bytes c)
      → l₂ ≡ sets l₁ (at + 4) (joined_below 64 (λ j. encode_notice (get_or x.notices j no_notice))) → l₂ ≡ sets l at (encode_shown x)
  unfolding encode_shown
  shown_written x c count s₁ s₂ =
      written_more l l₁ l₂ at (word_bytes c) (joined_below 64 (λ j. encode_notice (get_or x.notices j no_notice))) 4 s₁ (length_word c) s₂
      ∙ ap (λ (k : ℕ). sets l at (word_bytes k ++ joined_below 64 (λ j. encode_notice (get_or x.notices j no_notice)))) count

pub notice_written : (l l₁ l₂ l₃ : List ℕ) (at : ℕ) (x : Notice)
    → l₁ ≡ sets l at (word_bytes x.issuer) → l₂ ≡ sets l₁ (at + 4) (word_bytes x.tag) → l₃ ≡ sets l₂ (at + 8) (word_bytes x.event) → l₃ ≡ sets l at (encode_notice x)
unfolding encode_notice
notice_written l l₁ l₂ l₃ at x s₁ s₂ s₃ =
    let two = written_more l l₁ l₂ at (word_bytes x.issuer) (word_bytes x.tag) 4 s₁ (length_word x.issuer) s₂ in
    let long : length (word_bytes x.issuer ++ word_bytes x.tag) ≡ 8 =
    omega (arith, length-append (word_bytes x.issuer) (word_bytes x.tag), length_word x.issuer, length_word x.tag) in
    written_more l l₂ l₃ at (word_bytes x.issuer ++ word_bytes x.tag) (word_bytes x.event) 8 two long s₃

pub bulletins_written : (l l₁ l₂ l₃ l₄ : List ℕ) (B : Bulletins) (c : ℕ) → c ≡ as_byte B.n
    → l₁ ≡ sets l 0 (word_bytes c)
    → l₂ ≡ sets l₁ 4 (joined_below 64 (λ s. word_bytes (tag_at B s)))
    → l₃ ≡ sets l₂ 260 (joined_below 64 (λ s. word_bytes (event_at B s)))
    → l₄ ≡ sets l₃ 516 (joined_below 16 (λ p. set_bytes (set_of B p)))
    → l₄ ≡ sets l 0 (encode_bulletins B)
unfolding encode_bulletins
bulletins_written l l₁ l₂ l₃ l₄ B c count s₁ s₂ s₃ s₄ =
    four_written l l₁ l₂ l₃ l₄ 0 (word_bytes c) (joined_below 64 (λ s. word_bytes (tag_at B s))) (joined_below 64 (λ s. word_bytes (event_at B s)))
    (joined_below 16 (λ p. set_bytes (set_of B p))) 4 260 516 256 256
    (length_word c)
    (joined_long 64 4 (λ s. word_bytes (tag_at B s)) (λ k m. length_word (tag_at B k)))
    (joined_long 64 4 (λ s. word_bytes (event_at B s)) (λ k m. length_word (event_at B k)))
    refl refl s₁ s₂ s₃ s₄
    ∙ ap
    (λ (k : ℕ).
    sets l 0
    (word_bytes k ++ joined_below 64 (λ s. word_bytes (tag_at B s)) ++ joined_below 64 (λ s. word_bytes (event_at B s)) ++ joined_below 16 (λ p. set_bytes (set_of B p))))
    count
