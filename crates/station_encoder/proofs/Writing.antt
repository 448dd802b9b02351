-- Writing from a place on: a write where the one before ended makes one longer write, so that every
-- writer leaves the encoding of what it was given.
use mathlib.Core.Path.{◌≡◌, refl, sym, ap, ◌∙◌}
use mathlib.Core.Bool.{Bool, true, false}
use mathlib.Core.List.{List, [], ◌∷◌, ◌++◌}
use Prim.Native.Nat.{ℕ, ◌+◌, ◌-◌, ◌*◌, ◌≤◌, ◌<◌}
use native.Mathlib.Numerals.{add-one}
use native.Mathlib.Nat.{zero-add}
use native.Mathlib.Omega.{arith}
use lib.IntN.{ℤ, pos, negsuc}
use lib.ListN.{get_or, set, length, length-append, take, drop}
use lib.Seq.{sets, sets-eq, drop-drop}
use borrow.Rule.Slice.PartMut.{put_mid}
use Rattle.std.proofs.Common.{append_assoc}
use mir.Syntax.{w32}
use mir.Val.{SFits, to_z, of_z, bool_byte}
use mir.ValLaws.{to_z-of_z}
use Rattle.bodies.specs.declared.Body.{Body}
use Rattle.bodies.specs.Body.{kind_of, event_of, argument_of, channel_of}
use Rattle.lists.specs.Below.{tabulate}
use Rattle.lists.proofs.Laws.{length-tabulate}
use Rattle.frame_spec.specs.Words.{word_bytes, unsigned}
use Rattle.frame_spec.specs.declared.Record.{Record}
use Rattle.queues.specs.declared.Slot.{Slot}
use Rattle.queues.specs.declared.Waiting.{Waiting}
use Rattle.queues.specs.Queue.{no_slot}
use Rattle.station_spec.specs.declared.Station.{Station}
use Rattle.station_spec.specs.State.{Cell, cell_of}
use Rattle.station_bytes_spec.specs.Bytes.{flag_byte, as_byte, joined_below}
use Rattle.station_bytes_spec.specs.Body.{encode_body, encode_record}
use Rattle.station_bytes_spec.specs.Waiting.{encode_edits, second_place, encode_waiting}
use Rattle.station_bytes_spec.specs.Station.{cell_width, encode_cell, cells_width, waiting_place, encode_head, encode_station}
use Rattle.station_bytes_spec.proofs.Bytes.{writes_meet, length_word, joined_long}
use Rattle.station_bytes_spec.proofs.Body.{length-body}
use Rattle.station_bytes_spec.proofs.Waiting.{length_edits}
use Rattle.station_bytes_spec.proofs.Station.{length_cell}

-- ---- one write, as a slice leaves it

pub part_put : (at k : ℕ) (l ys part : List ℕ) → ys ≡ part → length part ≡ k → at + k ≤ length l → put_mid at k l ys ≡ sets l at part
part_put at k l ys part same long room =
    let whole : at + length part ≤ length l = omega arith in
    let rest : drop k (drop at l) ≡ drop (at + length part) l = drop-drop k at l ∙ ap (λ (j : ℕ). drop (at + j) l) (sym long) in
    (λ i. take at l ++ (same i ++ rest i)) ∙ sym (append_assoc (take at l) part (drop (at + length part) l)) ∙ sym (sets-eq part l at whole)

-- a signed number, cast to a word
pub word_cast : (z : ℤ) (u : ℕ) → SFits w32 z → u ≡ of_z w32 (to_z w32 (of_z w32 z)) → u ≡ unsigned z
unfolding unsigned
word_cast (pos n) u f h = h ∙ ap (of_z w32) (to_z-of_z w32 (pos n) f)
word_cast (negsuc n) u f h =
    let lacks : 4_294_967_296 - (n + 1) ≡ 4_294_967_295 - n = omega arith in
    h ∙ ap (of_z w32) (to_z-of_z w32 (negsuc n) f) ∙ (ap (λ (x : ℕ). 4_294_967_296 - x) (sym (add-one n)) ∙ lacks)

-- a flag, cast to a byte
pub flag_cast : (flag : Bool) → bool_byte flag ≡ flag_byte flag
flag_cast true = refl
flag_cast false = refl

-- ---- one write after another

module _ (l l₁ l₂ : List ℕ) (at : ℕ) where
  pub written_more : (xs ys : List ℕ) (w : ℕ) → l₁ ≡ sets l at xs → length xs ≡ w → l₂ ≡ sets l₁ (at + w) ys → l₂ ≡ sets l at (xs ++ ys)
  written_more xs ys w first long second = second ∙ ap (λ (r : List ℕ). sets r (at + w) ys) first ∙ writes_meet xs l ys at w long

  -- one part more, of parts of one width
  part_written :
      (w k : ℕ) (part : ℕ → List ℕ) → ((j : ℕ) → length (part j) ≡ w) → l₁ ≡ sets l at (joined_below k part) → l₂ ≡ sets l₁ (at + w * k) (part k) →
      l₂ ≡ sets l at (joined_below (k + 1) part)
  unfolding joined_below
  part_written w k part long first second =
      written_more (joined_below k part) (part k) (w * k) first (joined_long k w part (λ j m. long j)) second
      ∙ ap (λ (n : ℕ). sets l at (joined_below n part)) (sym (add-one k))

-- four writes, one behind the other
pub four_written :
    (l l₁ l₂ l₃ l₄ : List ℕ) (at : ℕ) (a b c d : List ℕ) (w₁ w₂ w₃ v₂ v₃ : ℕ) → length a ≡ w₁ → length b ≡ v₂ → length c ≡ v₃ → w₁ + v₂ ≡ w₂ → w₂ + v₃ ≡ w₃ →
    l₁ ≡ sets l at a → l₂ ≡ sets l₁ (at + w₁) b → l₃ ≡ sets l₂ (at + w₂) c → l₄ ≡ sets l₃ (at + w₃) d → l₄ ≡ sets l at (a ++ b ++ c ++ d)
four_written l l₁ l₂ l₃ l₄ at a b c d w₁ w₂ w₃ v₂ v₃ la lb lc e₂ e₃ s₁ s₂ s₃ s₄ =
    let long₂ : length (a ++ b) ≡ w₂ = omega (arith, length-append a b) in
    let long₃ : length (a ++ b ++ c) ≡ w₃ = omega (arith, length-append (a ++ b) c, long₂) in
    let two = written_more l l₁ l₂ at a b w₁ s₁ la s₂ in
    let three = written_more l l₂ l₃ at (a ++ b) c w₂ two long₂ s₃ in
    written_more l l₃ l₄ at (a ++ b ++ c) d w₃ three long₃ s₄

pub all_written :
    (l l₁ : List ℕ) (at n k : ℕ) (part : ℕ → List ℕ) → k ≡ n → l₁ ≡ sets l at (joined_below k part) → l₁ ≡ sets l at (joined_below n part)
all_written l l₁ at n k part e h = h ∙ ap (λ (j : ℕ). sets l at (joined_below j part)) e

-- the parts below k, of n, are written from a place on: what a loop that writes part after part
-- keeps
pub record PartsPut (n : ℕ) (part : ℕ → List ℕ) (l : List ℕ) (at k : ℕ) (l₁ : List ℕ) : Type 0 where
  pub most : k ≤ n
  pub long : length l₁ ≡ length l
  pub put : l₁ ≡ sets l at (joined_below k part)

module _ {n : ℕ} {part : ℕ → List ℕ} {l : List ℕ} where
  pub parts_none : {at : ℕ} → PartsPut n part l at 0 l
  unfolding joined_below
  parts_none = record { most = omega arith; long = refl; put = refl }

  module _ {k : ℕ} {l₁ : List ℕ} where
    pub parts_all : {at : ℕ} → PartsPut n part l at k l₁ → n ≤ k → l₁ ≡ sets l at (joined_below n part)
    parts_all {at} h all = all_written l l₁ at n k part (omega (arith, h.most)) h.put

    -- one part more, of parts of one width
    module _ {l₂ : List ℕ} (w : ℕ) (wide : (j : ℕ) → length (part j) ≡ w) where
      pub parts_more : {at : ℕ} → PartsPut n part l at k l₁ → k < n → length l₂ ≡ length l₁ → l₂ ≡ sets l₁ (at + w * k) (part k) → PartsPut n part l at (k + 1) l₂
      parts_more {at} h below same put =
          record { most = omega arith; long = same ∙ h.long; put = part_written l l₁ l₂ at w k part wide h.put put }

      pub parts_more_front : PartsPut n part l 0 k l₁ → k < n → length l₂ ≡ length l₁ → l₂ ≡ sets l₁ (w * k) (part k) → PartsPut n part l 0 (k + 1) l₂
      parts_more_front h below same put = parts_more h below same (put ∙ ap (λ (at : ℕ). sets l₁ at (part k)) (sym (zero-add (w * k))))

-- ---- the parts of a station

module _ (l : List ℕ) (at : ℕ) where
  pub body_written :
      (b : Body) (k c e u : ℕ) (l₁ l₂ l₃ : List ℕ) → k ≡ kind_of b → c ≡ channel_of b → e ≡ event_of b → u ≡ unsigned (argument_of b) →
      l₁ ≡ sets l at (k ∷ c ∷ 0 ∷ 0 ∷ []) → l₂ ≡ sets l₁ (at + 4) (word_bytes e) → l₃ ≡ sets l₂ (at + 8) (word_bytes u) → l₃ ≡ sets l at (encode_body b)
  unfolding encode_body
  body_written b k c e u l₁ l₂ l₃ kind channel event argument s₁ s₂ s₃ =
      let head = k ∷ c ∷ 0 ∷ 0 ∷ [] in
      let two = written_more l l₁ l₂ at head (word_bytes e) 4 s₁ refl s₂ in
      let long : length (head ++ word_bytes e) ≡ 8 = omega (arith, length-append head (word_bytes e), length_word e) in
      written_more l l₂ l₃ at (head ++ word_bytes e) (word_bytes u) 8 two long s₃
      ∙ (λ i. sets l at ((kind i ∷ channel i ∷ 0 ∷ 0 ∷ []) ++ word_bytes (event i) ++ word_bytes (argument i)))

  -- one entry more
  pub entry_next :
      (f : ℕ → ℕ) (l₁ : List ℕ) (i : ℕ) → l₁ ≡ sets l at (tabulate i f) → set l₁ (at + i) (f i) ≡ sets l at (tabulate (i + 1) f)
  unfolding tabulate
  entry_next f l₁ i h =
      written_more l l₁ (set l₁ (at + i) (f i)) at (tabulate i f) (f i ∷ []) i h (length-tabulate i f) refl
      ∙ ap (λ (n : ℕ). sets l at (tabulate n f)) (sym (add-one i))

  pub entry_none : (f : ℕ → ℕ) → l ≡ sets l at (tabulate 0 f)
  unfolding tabulate
  entry_none f = refl

  pub entries_written : (f : ℕ → ℕ) (l₁ : List ℕ) (n i : ℕ) → i ≡ n → l₁ ≡ sets l at (tabulate i f) → l₁ ≡ sets l at (tabulate n f)
  entries_written f l₁ n i e h = h ∙ ap (λ (j : ℕ). sets l at (tabulate j f)) e

  pub record_written :
      (r : Record) (k c e u : ℕ) (l₁ l₂ l₃ l₄ : List ℕ) → k ≡ kind_of r.body → c ≡ channel_of r.body → e ≡ event_of r.body → u ≡ unsigned (argument_of r.body) →
      l₁ ≡ sets l at (r.station ∷ r.count ∷ k ∷ c ∷ []) → l₂ ≡ sets l₁ (at + 4) (word_bytes e) → l₃ ≡ sets l₂ (at + 8) (word_bytes u) →
      l₄ ≡ sets l₃ (at + 12) (word_bytes r.labels) → l₄ ≡ sets l at (encode_record r)
  unfolding encode_record
  record_written r k c e u l₁ l₂ l₃ l₄ kind channel event argument s₁ s₂ s₃ s₄ =
      four_written l l₁ l₂ l₃ l₄ at (r.station ∷ r.count ∷ k ∷ c ∷ []) (word_bytes e) (word_bytes u) (word_bytes r.labels) 4 8 12 4 4 refl (length_word e) (length_word u)
      refl refl s₁ s₂ s₃ s₄
      ∙ (λ i. sets l at ((r.station ∷ r.count ∷ kind i ∷ channel i ∷ []) ++ word_bytes (event i) ++ word_bytes (argument i) ++ word_bytes r.labels))

  pub cell_written :
      (c : Cell) (a h : ℕ) (l₁ l₂ l₃ l₄ : List ℕ) → a ≡ flag_byte c.acked → h ≡ flag_byte c.held → l₁ ≡ sets l at (a ∷ h ∷ c.label ∷ c.lane.len ∷ []) →
      l₂ ≡ sets l₁ (at + 4) (encode_body c.lane.first) → l₃ ≡ sets l₂ (at + 16) (encode_body c.lane.second) →
      l₄ ≡ sets l₃ (at + 28) (encode_record c.entry) → l₄ ≡ sets l at (encode_cell c)
  unfolding encode_cell
  cell_written c a h l₁ l₂ l₃ l₄ acked held s₁ s₂ s₃ s₄ =
      four_written l l₁ l₂ l₃ l₄ at (a ∷ h ∷ c.label ∷ c.lane.len ∷ []) (encode_body c.lane.first) (encode_body c.lane.second) (encode_record c.entry) 4 16 28 12 12
      refl (length-body c.lane.first) (length-body c.lane.second) refl refl s₁ s₂ s₃ s₄
      ∙ (λ i. sets l at ((acked i ∷ held i ∷ c.label ∷ c.lane.len ∷ []) ++ encode_body c.lane.first ++ encode_body c.lane.second ++ encode_record c.entry))

  pub station_written :
      (s : Station) (n own edition : ℕ) (l₁ l₂ l₃ l₄ : List ℕ) → n ≡ as_byte s.n → own ≡ as_byte s.own → edition ≡ as_byte s.edition →
      l₁ ≡ sets l at (n ∷ own ∷ s.count ∷ edition ∷ []) →
      l₂ ≡ sets l₁ (at + 4) (encode_body s.body) → l₃ ≡ sets l₂ (at + 16) (joined_below 16 (λ k. encode_cell (cell_of s k))) →
      l₄ ≡ sets l₃ (at + waiting_place) (encode_waiting s.waiting) → l₄ ≡ sets l at (encode_station s)
  unfolding encode_station encode_head
  station_written s n own edition l₁ l₂ l₃ l₄ en eo ee s₁ s₂ s₃ s₄ =
      let cells = joined_below 16 (λ k. encode_cell (cell_of s k)) in
      four_written l l₁ l₂ l₃ l₄ at (n ∷ own ∷ s.count ∷ edition ∷ []) (encode_body s.body) cells (encode_waiting s.waiting) 4 16 waiting_place 12 cells_width refl
      (length-body s.body) (joined_long 16 cell_width (λ k. encode_cell (cell_of s k)) (λ k m. length_cell (cell_of s k))) refl refl s₁ s₂ s₃ s₄
      ∙ (λ i. sets l at ((en i ∷ eo i ∷ s.count ∷ ee i ∷ []) ++ encode_body s.body ++ cells ++ encode_waiting s.waiting))

  -- the edits of a desk
  pub edits_written :
      (slots : List Slot) (l₁ : List ℕ) (i : ℕ) → i ≡ 32 → l₁ ≡ sets l at (joined_below i (λ j. encode_body (get_or slots j no_slot).body)) →
      l₁ ≡ sets l at (encode_edits slots)
  unfolding encode_edits
  edits_written slots l₁ i e h = all_written l l₁ at 32 i (λ j. encode_body (get_or slots j no_slot).body) e h

  -- the waiting edits: four bytes, and then those of each desk
  pub waiting_written :
      (w : Waiting) (c m o f : ℕ) (l₁ l₂ l₃ : List ℕ) → c ≡ as_byte w.queue0.len → m ≡ as_byte w.limit → o ≡ as_byte w.queue1.len → f ≡ flag_byte w.one_first →
      l₁ ≡ sets l at (c ∷ m ∷ o ∷ f ∷ []) → l₂ ≡ sets l₁ (at + 4) (encode_edits w.queue0.slots) → l₃ ≡ sets l₂ (at + second_place) (encode_edits w.queue1.slots) →
      l₃ ≡ sets l at (encode_waiting w)
  unfolding encode_waiting
  waiting_written w c m o f l₁ l₂ l₃ count limit other first s₁ s₂ s₃ =
      let four = c ∷ m ∷ o ∷ f ∷ [] in
      let zero = encode_edits w.queue0.slots in
      let one = encode_edits w.queue1.slots in
      let two = written_more l l₁ l₂ at four zero 4 s₁ refl s₂ in
      let long : length (four ++ zero) ≡ second_place = length-append four zero ∙ ap (λ (k : ℕ). 4 + k) (length_edits w.queue0.slots) in
      written_more l l₂ l₃ at (four ++ zero) one second_place two long s₃
      ∙ (λ k. sets l at ((count k ∷ limit k ∷ other k ∷ first k ∷ []) ++ zero ++ one))
