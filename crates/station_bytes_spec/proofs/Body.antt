-- A body and a record, there and back. The body of a body's own numbers is that body; bytes are
-- accepted where they are the numbers of the body that they give.
use mathlib.Core.Path.{◌≡◌, refl, sym, ap, ap₂, ◌∙◌}
use mathlib.Core.Bool.{true, ◌&&◌}
use mathlib.Core.List.{List, [], ◌∷◌, ◌++◌}
use Prim.Native.Nat.{ℕ, ◌+◌, ◌<◌, ◌≤◌}
use native.Mathlib.Omega.{arith}
use lib.Dec.{eqb}
use lib.IntN.{ℤ}
use lib.ListN.{length, length-append}
use mir.Syntax.{w32}
use mir.Val.{SFits}
use borrow.Author.Tests.{eqb-true, eq-eqb}
use Rattle.bodies.specs.declared.Body.{Body}
use Rattle.bodies.specs.Body.{kind_of, event_of, argument_of, channel_of, body_of}
use Rattle.bodies.proofs.BodyLaws.{body_back}
use Rattle.lists.proofs.Laws.{and_both, both}
use Rattle.frame_spec.specs.Words.{word_at, word_bytes, unsigned}
use Rattle.frame_spec.specs.declared.Record.{Record}
use Rattle.frame_spec.proofs.Spelled.{signed_back, unsigned_small}
use Rattle.station_bytes_spec.specs.Bytes.{byte_at, span}
use Rattle.station_bytes_spec.specs.Body.{encode_body, body_of_words, words_right, decode_body, is_body, record_width, encode_record, decode_record, is_record}
use Rattle.station_bytes_spec.proofs.Bytes.{Stands, AllBytes, first_byte, stands_left, stands_right, stands_word, span_join, four_span, word_span, length_word}

-- the numbers of a body are of 32 bits, as its type says
pub record BodyFits (b : Body) : Type 0 where
  pub event_fits : event_of b < 4_294_967_296
  pub argument_fits : SFits w32 (argument_of b)

-- ---- four numbers

module _ (b : Body) (f : BodyFits b) where
  pub numbers_there : body_of_words (kind_of b) (channel_of b) (event_of b) (unsigned (argument_of b)) ≡ b
  numbers_there =
      ap (λ (z : ℤ). body_of (kind_of b) (event_of b) z (channel_of b)) (signed_back (argument_of b) f.argument_fits) ∙ body_back b

  pub numbers_right : words_right (kind_of b) (channel_of b) (event_of b) (unsigned (argument_of b)) ≡ true
  unfolding words_right
  numbers_right =
      and_both
      (and_both
      (and_both (eq-eqb _ _ (ap kind_of (sym numbers_there))) (eq-eqb _ _ (ap channel_of (sym numbers_there))))
      (eq-eqb _ _ (ap event_of (sym numbers_there))))
      (eq-eqb _ _ (ap (λ (x : Body). unsigned (argument_of x)) (sym numbers_there)))

pub numbers_back :
    (k c e w : ℕ) → words_right k c e w ≡ true →
    let b = body_of_words k c e w in (kind_of b ≡ k) × (channel_of b ≡ c) × (event_of b ≡ e) × (unsigned (argument_of b) ≡ w)
unfolding words_right
numbers_back k c e w h =
    let b = body_of_words k c e w in
    let kind = eqb k (kind_of b) in
    let channel = eqb c (channel_of b) in
    let event = eqb e (event_of b) in
    let first = both (kind && channel && event) (eqb w (unsigned (argument_of b))) h in
    let second = both (kind && channel) event first.0 in
    let third = both kind channel second.0 in (
      sym (eqb-true _ _ third.0),
      sym (eqb-true _ _ third.1),
      sym (eqb-true _ _ second.1),
      sym (eqb-true _ _ first.1),
    )

-- ---- four bytes and two words, which a body is, and a record but for its labels

abbrev twelve : ℕ → ℕ → ℕ → ℕ → Body → List ℕ
twelve x y z u b = (x ∷ y ∷ z ∷ u ∷ []) ++ word_bytes (event_of b) ++ word_bytes (unsigned (argument_of b))

length-twelve : (x y z u : ℕ) (b : Body) → length (twelve x y z u b) ≡ 12
unfolding word_bytes
length-twelve x y z u b = refl

module _ (l : List ℕ) (at x y z u : ℕ) (b : Body) (f : BodyFits b) (h : Stands l at (twelve x y z u b)) where
  abbrev head : List ℕ
  head = x ∷ y ∷ z ∷ u ∷ []

  abbrev event : List ℕ
  event = word_bytes (event_of b)

  abbrev argument : List ℕ
  argument = word_bytes (unsigned (argument_of b))

  eight : length (head ++ event) ≡ 8
  unfolding word_bytes
  eight = refl

  head_there : (byte_at l at ≡ x) × (byte_at l (at + 1) ≡ y) × (byte_at l (at + 2) ≡ z) × (byte_at l (at + 3) ≡ u)
  head_there =
      let four = stands_left l at head event (stands_left l at (head ++ event) argument h) in
      (first_byte l at _ _ four, four.is 1 (omega arith), four.is 2 (omega arith), four.is 3 (omega arith))

  event_word : word_at l (at + 4) ≡ event_of b
  event_word =
      stands_word l (at + 4) (event_of b) f.event_fits
      (stands_right l at head event 4 refl (stands_left l at (head ++ event) argument h))

  argument_word : word_at l (at + 8) ≡ unsigned (argument_of b)
  argument_word =
      stands_word l (at + 8) (unsigned (argument_of b)) (unsigned_small (argument_of b) f.argument_fits)
      (stands_right l at (head ++ event) argument 8 eight h)

-- such bytes in one piece
twelve_span :
    (l : List ℕ) → AllBytes l → (at : ℕ) → at + 12 ≤ length l →
    (byte_at l at ∷ byte_at l (at + 1) ∷ byte_at l (at + 2) ∷ byte_at l (at + 3) ∷ []) ++ span (at + 4) 4 l ++ span (at + 8) 4 l ≡ span at 12 l
twelve_span l bytes at room =
    ap (λ (r : List ℕ). r ++ span (at + 4) 4 l ++ span (at + 8) 4 l) (four_span l at (omega arith))
    ∙ ap (λ (r : List ℕ). r ++ span (at + 8) 4 l) (span_join l at 4 4 8 refl)
    ∙ span_join l at 8 4 12 refl

-- ---- a body

pub length-body : (b : Body) → length (encode_body b) ≡ 12
unfolding encode_body
length-body b = length-twelve (kind_of b) (channel_of b) 0 0 b

module _ (l : List ℕ) (at : ℕ) (b : Body) (f : BodyFits b) (h : Stands l at (encode_body b)) where
  pub body_bytes : (byte_at l at ≡ kind_of b) × (byte_at l (at + 1) ≡ channel_of b) × (byte_at l (at + 2) ≡ 0) × (byte_at l (at + 3) ≡ 0)
  unfolding encode_body
  body_bytes = head_there l at (kind_of b) (channel_of b) 0 0 b f h

  pub body_words : (word_at l (at + 4) ≡ event_of b) × (word_at l (at + 8) ≡ unsigned (argument_of b))
  unfolding encode_body
  body_words = (event_word l at (kind_of b) (channel_of b) 0 0 b f h, argument_word l at (kind_of b) (channel_of b) 0 0 b f h)

  pub body_decoded : decode_body l at ≡ b
  unfolding decode_body
  body_decoded = (λ i. body_of_words (body_bytes.0 i) (body_bytes.1 i) (body_words.0 i) (body_words.1 i)) ∙ numbers_there b f

  pub body_accepted : is_body l at ≡ true
  unfolding is_body
  body_accepted =
      and_both
      (and_both (eq-eqb _ _ body_bytes.2) (eq-eqb _ _ body_bytes.3))
      ((λ i. words_right (body_bytes.0 i) (body_bytes.1 i) (body_words.0 i) (body_words.1 i)) ∙ numbers_right b f)

module _ (l : List ℕ) (bytes : AllBytes l) (at : ℕ) (room : at + 12 ≤ length l) where
  pub body_encoded : is_body l at ≡ true → encode_body (decode_body l at) ≡ span at 12 l
  unfolding encode_body decode_body is_body
  body_encoded h =
      let right = words_right (byte_at l at) (byte_at l (at + 1)) (word_at l (at + 4)) (word_at l (at + 8)) in
      let third = eqb (byte_at l (at + 2)) 0 in
      let fourth = eqb (byte_at l (at + 3)) 0 in
      let tests = both (third && fourth) right h in
      let zeros = both third fourth tests.0 in
      let same = numbers_back (byte_at l at) (byte_at l (at + 1)) (word_at l (at + 4)) (word_at l (at + 8)) tests.1 in
      let zero_third : 0 ≡ byte_at l (at + 2) = sym (eqb-true _ _ zeros.0) in
      let zero_fourth : 0 ≡ byte_at l (at + 3) = sym (eqb-true _ _ zeros.1) in
      let e = ap word_bytes same.2 ∙ word_span l bytes (at + 4) (omega arith) in
      let a = ap word_bytes same.3 ∙ word_span l bytes (at + 8) (omega arith) in
      (λ i. (same.0 i ∷ same.1 i ∷ zero_third i ∷ zero_fourth i ∷ []) ++ e i ++ a i) ∙ twelve_span l bytes at room

-- ---- a record

-- the numbers of a record are of their widths, as its type says
pub record RecordFits (r : Record) : Type 0 where
  pub labels_fit : r.labels < 4_294_967_296
  pub body_fits : BodyFits r.body

abbrev front : Record → List ℕ
front r = twelve r.station r.count (kind_of r.body) (channel_of r.body) r.body

length_front : (r : Record) → length (front r) ≡ 12
length_front r = length-twelve r.station r.count (kind_of r.body) (channel_of r.body) r.body

pub length-record : (r : Record) → length (encode_record r) ≡ record_width
unfolding encode_record
length-record r = length-append (front r) (word_bytes r.labels) ∙ ap₂ ◌+◌ (length_front r) (length_word r.labels)

module _ (l : List ℕ) (at : ℕ) (r : Record) (f : RecordFits r) (h : Stands l at (encode_record r)) where
  stands-front : Stands l at (front r)
  unfolding encode_record
  stands-front = stands_left l at (front r) (word_bytes r.labels) h

  pub labels_there : word_at l (at + 12) ≡ r.labels
  unfolding encode_record
  labels_there =
      stands_word l (at + 12) r.labels f.labels_fit (stands_right l at (front r) (word_bytes r.labels) 12 (length_front r) h)

  pub event_there : word_at l (at + 4) ≡ event_of r.body
  event_there =
      event_word l at r.station r.count (kind_of r.body) (channel_of r.body) r.body f.body_fits stands-front

  pub argument_there : word_at l (at + 8) ≡ unsigned (argument_of r.body)
  argument_there =
      argument_word l at r.station r.count (kind_of r.body) (channel_of r.body) r.body f.body_fits stands-front

  pub four_there :
      (byte_at l at ≡ r.station)
      × (byte_at l (at + 1) ≡ r.count)
      × (byte_at l (at + 2) ≡ kind_of r.body)
      × (byte_at l (at + 3) ≡ channel_of r.body)
  four_there =
      head_there l at r.station r.count (kind_of r.body) (channel_of r.body) r.body f.body_fits stands-front

  pub record_decoded : decode_record l at ≡ r
  unfolding decode_record
  record_decoded =
      λ i. record {
        station = four_there.0 i;
        count = four_there.1 i;
        body =
            ((λ j. body_of_words (four_there.2 j) (four_there.3 j) (event_there j) (argument_there j))
            ∙ numbers_there r.body f.body_fits)
            i;
        labels = labels_there i;
      }

  pub record_accepted : is_record l at ≡ true
  unfolding is_record
  record_accepted =
      (λ j. words_right (four_there.2 j) (four_there.3 j) (event_there j) (argument_there j)) ∙ numbers_right r.body f.body_fits

module _ (l : List ℕ) (bytes : AllBytes l) (at : ℕ) (room : at + record_width ≤ length l) where
  pub record_encoded : is_record l at ≡ true → encode_record (decode_record l at) ≡ span at record_width l
  unfolding encode_record decode_record is_record
  record_encoded h =
      let same = numbers_back (byte_at l (at + 2)) (byte_at l (at + 3)) (word_at l (at + 4)) (word_at l (at + 8)) h in
      let e = ap word_bytes same.2 ∙ word_span l bytes (at + 4) (omega arith) in
      let a = ap word_bytes same.3 ∙ word_span l bytes (at + 8) (omega arith) in
      let labels = word_span l bytes (at + 12) (omega arith) in
      (λ i. (byte_at l at ∷ byte_at l (at + 1) ∷ same.0 i ∷ same.1 i ∷ []) ++ e i ++ a i ++ labels i)
      ∙ ap (λ (r : List ℕ). r ++ span (at + 12) 4 l) (twelve_span l bytes at (omega arith))
      ∙ span_join l at 12 4 16 refl
