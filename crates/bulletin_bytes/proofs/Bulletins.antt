-- Bulletins there and back: what was encoded is decoded as it was, and accepted bytes are the
-- encoding of what they decode to.
use mathlib.Core.Bool.{true}
use mathlib.Core.List.{List, ◌++◌}
use mathlib.Core.Path.{◌≡◌, refl, ap, ap₂, ◌∙◌}
use Prim.Native.Nat.{ℕ, ◌+◌, ◌*◌, ◌/◌, ◌%◌, ◌<◌, ◌≤◌}
use native.Mathlib.Omega.{arith}
use borrow.Author.Tests.{eqb-true, ltb-true, eq-eqb, lt-ltb}
use lib.Dec.{eqb, ltb}
use lib.ListN.{get_or, length, length-append}
use lib.Seq.{take_all}
use Rattle.lists.specs.Below.{tabulate}
use Rattle.lists.proofs.Laws.{and_both, both, tabulate_at}
use Rattle.frame_spec.specs.Words.{word_at, word_bytes}
use Rattle.station_bytes_spec.specs.Bytes.{as_byte, span, joined_below}
use Rattle.station_bytes_spec.proofs.Bytes.{Stands, AllBytes, stands_whole, stands_left, stands_right, stands_word, joined_long, joined_ext, stands_joined, span_join, spans_joined, word_span, word_small, length_word, byte_same, byte_small, tabulate_is}
use Rattle.bulletins_spec.specs.declared.Bulletins.{Bulletins}
use Rattle.bulletins_spec.specs.State.{set_of, tag_at, event_at}
use Rattle.bulletins_spec.proofs.Lengths.{Shaped}
use Rattle.bulletin_bytes.specs.Bulletins.{set_bytes, set_at, events_place, sets_place, bulletins_width, encode_bulletins, decode_bulletins, is_bulletins}

-- the numbers fit their fields
pub record Fits (B : Bulletins) : Type 0 where
  pub shape : Shaped B
  pub size : B.n < 256
  pub tags : (s : ℕ) → s < 64 → tag_at B s < 4_294_967_296
  pub events : (s : ℕ) → s < 64 → event_at B s < 4_294_967_296
  pub held : (p : ℕ) → p < 16 → set_of B p < 18_446_744_073_709_551_616

pub length_set_bytes : (x : ℕ) → length (set_bytes x) ≡ 8
unfolding set_bytes
length_set_bytes x =
    length-append (word_bytes (x % 4_294_967_296)) (word_bytes (x / 4_294_967_296))
    ∙ ap₂ ◌+◌ (length_word (x % 4_294_967_296)) (length_word (x / 4_294_967_296))

stands_set : (b : List ℕ) (at x : ℕ) → x < 18_446_744_073_709_551_616 → Stands b at (set_bytes x) → set_at b at ≡ x
unfolding set_bytes set_at
stands_set b at x small h =
    let l = stands_left b at (word_bytes (x % 4_294_967_296)) (word_bytes (x / 4_294_967_296)) h in
    let r = stands_right b at (word_bytes (x % 4_294_967_296)) (word_bytes (x / 4_294_967_296)) 4 (length_word (x % 4_294_967_296)) h in
    omega (arith, stands_word b at (x % 4_294_967_296) (omega arith) l, stands_word b (at + 4) (x / 4_294_967_296) (omega arith) r)

set_span : (b : List ℕ) → AllBytes b → (at : ℕ) → at + 8 ≤ length b → set_bytes (set_at b at) ≡ span at 8 b
unfolding set_bytes set_at
set_span b h at l =
    let low = word_at b at in
    let high = word_at b (at + 4) in
    let e : (low + 4_294_967_296 * high) % 4_294_967_296 ≡ low = omega (arith, word_small b h at) in
    let f : (low + 4_294_967_296 * high) / 4_294_967_296 ≡ high = omega (arith, word_small b h at) in
    ap₂ (λ (x y : ℕ). word_bytes x ++ word_bytes y) e f
    ∙ ap₂ ◌++◌ (word_span b h at (omega arith)) (word_span b h (at + 4) (omega arith))
    ∙ span_join b at 4 4 8 refl

module _ (B : Bulletins) where
  abbrev head : List ℕ
  head = word_bytes (as_byte B.n)

  abbrev tags : List ℕ
  tags = joined_below 64 (λ s. word_bytes (tag_at B s))

  abbrev events : List ℕ
  events = joined_below 64 (λ s. word_bytes (event_at B s))

  abbrev held : List ℕ
  held = joined_below 16 (λ p. set_bytes (set_of B p))

  long_head : length head ≡ 4
  long_head = length_word (as_byte B.n)

  long_tags : length tags ≡ 256
  long_tags = joined_long 64 4 (λ s. word_bytes (tag_at B s)) (λ k l. length_word (tag_at B k))

  long_events : length events ≡ 256
  long_events = joined_long 64 4 (λ s. word_bytes (event_at B s)) (λ k l. length_word (event_at B k))

  long_held : length held ≡ 128
  long_held = joined_long 16 8 (λ p. set_bytes (set_of B p)) (λ k l. length_set_bytes (set_of B k))

  long_two : length (head ++ tags) ≡ events_place
  long_two = length-append head tags ∙ ap₂ ◌+◌ long_head long_tags

  long_three : length (head ++ tags ++ events) ≡ sets_place
  long_three = length-append (head ++ tags) events ∙ ap₂ ◌+◌ long_two long_events

  pub length_bulletins : length (encode_bulletins B) ≡ bulletins_width
  unfolding encode_bulletins
  length_bulletins = length-append (head ++ tags ++ events) held ∙ ap₂ ◌+◌ long_three long_held

  abbrev e : List ℕ
  e = encode_bulletins B

  stands_three : Stands e 0 (head ++ tags ++ events)
  unfolding encode_bulletins
  stands_three = stands_left e 0 (head ++ tags ++ events) held (stands_whole e)

  stands-held : Stands e sets_place held
  unfolding encode_bulletins
  stands-held = stands_right e 0 (head ++ tags ++ events) held sets_place long_three (stands_whole e)

  stands_two : Stands e 0 (head ++ tags)
  stands_two = stands_left e 0 (head ++ tags) events stands_three

  stands-events : Stands e events_place events
  stands-events = stands_right e 0 (head ++ tags) events events_place long_two stands_three

  stands-head : Stands e 0 head
  stands-head = stands_left e 0 head tags stands_two

  stands-tags : Stands e 4 tags
  stands-tags = stands_right e 0 head tags 4 long_head stands_two

  first_word : word_at e 0 ≡ as_byte B.n
  first_word = stands_word e 0 (as_byte B.n) (omega (arith, byte_small B.n)) stands-head

  pub bulletins_accepted : is_bulletins (encode_bulletins B) ≡ true
  unfolding is_bulletins
  bulletins_accepted =
      and_both (eq-eqb (length e) bulletins_width length_bulletins) (lt-ltb (word_at e 0) 256 (omega (arith, first_word, byte_small B.n)))

  module _ (f : Fits B) where
    tags_back : tabulate 64 (λ s. word_at e (4 + 4 * s)) ≡ B.tags
    tags_back =
        tabulate_is 64 (λ s. word_at e (4 + 4 * s)) B.tags 0 f.shape.tags
        (λ s l. stands_word e (4 + 4 * s) (tag_at B s) (f.tags s l) (stands_joined e 4 64 4 (λ k. word_bytes (tag_at B k)) (λ k m. length_word (tag_at B k)) stands-tags s l))

    events_back : tabulate 64 (λ s. word_at e (events_place + 4 * s)) ≡ B.events
    events_back =
        tabulate_is 64 (λ s. word_at e (events_place + 4 * s)) B.events 0 f.shape.events
        (λ s l. stands_word e (events_place + 4 * s) (event_at B s) (f.events s l) (stands_joined e events_place 64 4 (λ k. word_bytes (event_at B k)) (λ k m. length_word (event_at B k)) stands-events s l))

    held_back : tabulate 16 (λ p. set_at e (sets_place + 8 * p)) ≡ B.held
    held_back =
        tabulate_is 16 (λ p. set_at e (sets_place + 8 * p)) B.held 0 f.shape.held
        (λ p l. stands_set e (sets_place + 8 * p) (set_of B p) (f.held p l) (stands_joined e sets_place 16 8 (λ k. set_bytes (set_of B k)) (λ k m. length_set_bytes (set_of B k)) stands-held p l))

    pub bulletins_decoded : decode_bulletins (encode_bulletins B) ≡ B
    unfolding decode_bulletins
    bulletins_decoded =
        let size : word_at e 0 ≡ B.n = first_word ∙ byte_same B.n f.size in
        λ i. record { n = size i; tags = tags_back i; events = events_back i; held = held_back i }

-- accepted bytes are the encoding of what they decode to
pub bulletins_encoded : (b : List ℕ) → AllBytes b → is_bulletins b ≡ true → encode_bulletins (decode_bulletins b) ≡ b
unfolding is_bulletins encode_bulletins decode_bulletins
bulletins_encoded b h judged =
    let tests = both (eqb (length b) bulletins_width) (ltb (word_at b 0) 256) judged in
    let long : length b ≡ bulletins_width = eqb-true (length b) bulletins_width tests.0 in
    let small : word_at b 0 < 256 = ltb-true (word_at b 0) 256 tests.1 in
    let one : word_bytes (as_byte (word_at b 0)) ≡ span 0 4 b = ap word_bytes (byte_same (word_at b 0) small) ∙ word_span b h 0 (omega arith) in
    let words : (at : ℕ) → at + 256 ≤ length b → joined_below 64 (λ s. word_bytes (get_or (tabulate 64 (λ k. word_at b (at + 4 * k))) s 0)) ≡ span at 256 b =
    λ at l.
    joined_ext 64 (λ s. word_bytes (get_or (tabulate 64 (λ k. word_at b (at + 4 * k))) s 0)) (λ s. span (at + 4 * s) 4 b)
    (λ s m. ap word_bytes (tabulate_at 64 (λ k. word_at b (at + 4 * k)) s 0 m) ∙ word_span b h (at + 4 * s) (omega arith))
    ∙ spans_joined b at 64 4 in
    let sets : joined_below 16 (λ p. set_bytes (get_or (tabulate 16 (λ k. set_at b (sets_place + 8 * k))) p 0)) ≡ span sets_place 128 b =
    joined_ext 16 (λ p. set_bytes (get_or (tabulate 16 (λ k. set_at b (sets_place + 8 * k))) p 0)) (λ p. span (sets_place + 8 * p) 8 b)
    (λ p m. ap set_bytes (tabulate_at 16 (λ k. set_at b (sets_place + 8 * k)) p 0 m) ∙ set_span b h (sets_place + 8 * p) (omega arith))
    ∙ spans_joined b sets_place 16 8 in
    ap₂ ◌++◌ (ap₂ ◌++◌ (ap₂ ◌++◌ one (words 4 (omega arith)) ∙ span_join b 0 4 256 events_place refl) (words events_place (omega arith)) ∙ span_join b 0 events_place 256 sets_place refl) sets
    ∙ span_join b 0 sets_place 128 bulletins_width refl
    ∙ take_all bulletins_width b (omega arith)
