-- A write that stays inside one cell of a station's bytes: they are then the bytes of the station
-- with that cell changed. It is shown for any part of a cell, and then for each part that hearing
-- changes.
use mathlib.Core.Path.{◌≡◌, refl, sym, ap, ap₂, ◌∙◌}
use mathlib.Core.Bool.{Bool, false}
use mathlib.Core.List.{List, [], ◌∷◌, ◌++◌, append-nil}
use Prim.Native.Nat.{ℕ, zero, suc, ◌+◌, ◌*◌, ◌<◌, ◌≤◌}
use native.Mathlib.Decide.{ℕ_discrete}
use native.Mathlib.Nat.{add-zero}
use native.Mathlib.Omega.{arith}
use lib.ListN.{get_or, set, drop, length, length-set, length-append}
use lib.Seq.{sets, sets-eq, set-append_left, get_or-set_same, get_or-set_other, set-get_or, drop-length}
use Rattle.bodies.specs.declared.Body.{Body}
use Rattle.frame_spec.specs.declared.Record.{Record}
use Rattle.frame_spec.specs.Record.{no_record}
use Rattle.frame_spec.specs.Words.{word_at, word_bytes, unsigned}
use Rattle.bodies.specs.Body.{kind_of, event_of, argument_of, channel_of}
use Rattle.queues.specs.declared.Lane.{Lane}
use Rattle.queues.specs.Lane.{no_lane}
use Rattle.station_spec.specs.declared.Station.{Station}
use Rattle.station_spec.specs.State.{Cell, cell_of, record_of, with_label, with_entry, with_lane, with_broadcast, with_arrays}
use Rattle.station_spec.proofs.Setters.{with_ack}
use Rattle.station_bytes_spec.specs.Bytes.{byte_at, flag_byte, joined_below}
use Rattle.station_bytes_spec.specs.Body.{encode_body, encode_record}
use Rattle.station_bytes_spec.specs.Waiting.{encode_waiting}
use Rattle.station_bytes_spec.specs.Station.{encode_cell, encode_head, encode_station}
use Rattle.station_bytes_spec.proofs.Bytes.{Stands, stands_whole, stands_left, stands_right, stands_word, stands_joined, joined_long, joined_ext, length_word}
use Rattle.station_bytes_spec.proofs.Body.{length-body, length-record}
use Rattle.station_bytes_spec.proofs.Station.{length_cell}

-- ---- a write behind a part, before a part, and over all

set_behind : (pre l : List ℕ) (at i x : ℕ) → length pre ≡ at → set (pre ++ l) (at + i) x ≡ pre ++ set l i x
set_behind [] l at i x e = let z : at + i ≡ i = omega arith in ap (λ (j : ℕ). set l j x) z
set_behind (y ∷ pre) l at i x e =
    let z : at + i ≡ suc (length pre + i) = omega arith in
    ap (λ (j : ℕ). set (y ∷ pre ++ l) j x) z ∙ ap (λ (r : List ℕ). y ∷ r) (set_behind pre l (length pre) i x refl)

pub sets_behind : (xs pre l : List ℕ) (at i : ℕ) → length pre ≡ at → sets (pre ++ l) (at + i) xs ≡ pre ++ sets l i xs
sets_behind [] pre l at i e = refl
sets_behind (x ∷ xs) pre l at i e =
    let z : suc (at + i) ≡ at + suc i = omega arith in
    ap (λ (r : List ℕ). sets r (suc (at + i)) xs) (set_behind pre l at i x e)
    ∙ ap (λ (j : ℕ). sets (pre ++ set l i x) j xs) z
    ∙ sets_behind xs pre (set l i x) at (suc i) e

pub sets_before : (xs l post : List ℕ) (i : ℕ) → i + length xs ≤ length l → sets (l ++ post) i xs ≡ sets l i xs ++ post
sets_before [] l post i h = refl
sets_before (x ∷ xs) l post i h =
    ap (λ (r : List ℕ). sets r (suc i) xs) (set-append_left l post i x (omega arith))
    ∙ sets_before xs (set l i x) post (suc i) (omega (arith, length-set l i x))

pub sets_over : (xs l : List ℕ) → length xs ≡ length l → sets l 0 xs ≡ xs
sets_over xs l e =
    let z : 0 + length xs ≡ length l = omega arith in
    sets-eq xs l 0 (omega arith) ∙ ap (λ (j : ℕ). xs ++ drop j l) z ∙ ap (λ (r : List ℕ). xs ++ r) (drop-length l) ∙ append-nil xs

-- ---- one of parts of one width

joined_changed :
    (n k r : ℕ) (f g : ℕ → List ℕ) (xs : List ℕ) → k < n → r + length xs ≤ 44 → ((j : ℕ) → length (f j) ≡ 44) → ((j : ℕ) → (j ≡ k → ⊥) → f j ≡ g j) →
    sets (f k) r xs ≡ g k → sets (joined_below n f) (44 * k + r) xs ≡ joined_below n g
unfolding joined_below
joined_changed zero k r f g xs l room long same here = absurd (omega arith)
joined_changed (suc n) k r f g xs l room long same here =
    elim (ℕ_discrete k n) [
      | yes e ↦
          sets_behind xs (joined_below n f) (f n) (44 * k) r (joined_long n 44 f (λ j m. long j) ∙ ap (λ (j : ℕ). 44 * j) (sym e))
          ∙ ap₂ ◌++◌ (joined_ext n f g (λ j m. same j (λ q. omega arith))) (ap (λ (j : ℕ). sets (f j) r xs) (sym e) ∙ here ∙ ap g e)
      | no d ↦
          sets_before xs (joined_below n f) (f n) (44 * k + r) (omega (arith, joined_long n 44 f (λ j m. long j)))
          ∙ ap₂ ◌++◌ (joined_changed n k r f g xs (omega arith) room long same here) (same n (λ q. d (sym q)))
    ]

-- ---- a cell of which one part is another

abbrev four : Cell → List ℕ
four c = flag_byte c.acked ∷ flag_byte c.held ∷ c.label ∷ c.lane.len ∷ []

abbrev sixteen : Cell → List ℕ
sixteen c = four c ++ encode_body c.lane.first

abbrev parts : Cell → List ℕ
parts c = sixteen c ++ encode_body c.lane.second

abbrev with_hold : Cell → Bool → Cell
with_hold c h = record { label = c.label; acked = c.acked; held = h; entry = c.entry; lane = c.lane }

-- a lane with another length, another first or second body
abbrev pub len_is : ℕ → Lane → Lane
len_is n v = record { len = n; first = v.first; second = v.second }

abbrev pub first_is : Body → Lane → Lane
first_is b v = record { len = v.len; first = b; second = v.second }

abbrev pub second_is : Body → Lane → Lane
second_is b v = record { len = v.len; first = v.first; second = b }

module _ (c : Cell) where
  length-sixteen : length (sixteen c) ≡ 16
  length-sixteen = omega (arith, length-append (four c) (encode_body c.lane.first), length-body c.lane.first)

  length-parts : length (parts c) ≡ 28
  length-parts = omega (arith, length-append (sixteen c) (encode_body c.lane.second), length-sixteen, length-body c.lane.second)

  cell_acked : (a : Bool) → set (encode_cell c) 0 (flag_byte a) ≡ encode_cell (with_ack c a)
  unfolding encode_cell
  cell_acked a = refl

  cell_held : (h : Bool) → set (encode_cell c) 1 (flag_byte h) ≡ encode_cell (with_hold c h)
  unfolding encode_cell
  cell_held h = refl

  cell_label : (l : ℕ) → set (encode_cell c) 2 l ≡ encode_cell (with_label c l)
  unfolding encode_cell
  cell_label l = refl

  pub cell_len : (n : ℕ) → set (encode_cell c) 3 n ≡ encode_cell (with_lane c (len_is n c.lane))
  unfolding encode_cell
  cell_len n = refl

  body_over : (b old : Body) → sets (encode_body old) 0 (encode_body b) ≡ encode_body b
  body_over b old = sets_over (encode_body b) (encode_body old) (length-body b ∙ sym (length-body old))

  pub cell_first : (b : Body) → sets (encode_cell c) 4 (encode_body b) ≡ encode_cell (with_lane c (first_is b c.lane))
  unfolding encode_cell
  cell_first b =
      sets_before (encode_body b) (parts c) (encode_record c.entry) 4 (omega (arith, length-parts, length-body b))
      ∙ ap (λ (x : List ℕ). x ++ encode_record c.entry)
      (sets_before (encode_body b) (sixteen c) (encode_body c.lane.second) 4 (omega (arith, length-sixteen, length-body b))
      ∙ ap (λ (x : List ℕ). x ++ encode_body c.lane.second)
      (sets_behind (encode_body b) (four c) (encode_body c.lane.first) 4 0 refl ∙ ap (λ (x : List ℕ). four c ++ x) (body_over b c.lane.first)))

  pub cell_second : (b : Body) → sets (encode_cell c) 16 (encode_body b) ≡ encode_cell (with_lane c (second_is b c.lane))
  unfolding encode_cell
  cell_second b =
      sets_before (encode_body b) (parts c) (encode_record c.entry) 16 (omega (arith, length-parts, length-body b))
      ∙ ap (λ (x : List ℕ). x ++ encode_record c.entry)
      (sets_behind (encode_body b) (sixteen c) (encode_body c.lane.second) 16 0 length-sixteen
      ∙ ap (λ (x : List ℕ). sixteen c ++ x) (body_over b c.lane.second))

  cell_entry : (r : Record) → sets (encode_cell c) 28 (encode_record r) ≡ encode_cell (with_entry c r)
  unfolding encode_cell
  cell_entry r =
      sets_behind (encode_record r) (parts c) (encode_record c.entry) 28 0 length-parts
      ∙ ap (λ (x : List ℕ). parts c ++ x) (sets_over (encode_record r) (encode_record c.entry) (length-record r ∙ sym (length-record c.entry)))

-- ---- a station of which one cell is another

length_head : (s : Station) → length (encode_head s) ≡ 16
unfolding encode_head
length_head s = omega (arith, length-body s.body)

module _ (s : Station) where
  abbrev cells : List ℕ
  cells = joined_below 16 (λ k. encode_cell (cell_of s k))

  length-cells : length cells ≡ 704
  length-cells = joined_long 16 44 (λ k. encode_cell (cell_of s k)) (λ k m. length_cell (cell_of s k))

  length_front : length (encode_head s ++ cells) ≡ 720
  length_front = omega (arith, length-append (encode_head s) cells, length_head s, length-cells)

  cell_stands : (k : ℕ) → k < 16 → Stands (encode_station s) (16 + 44 * k) (encode_cell (cell_of s k))
  unfolding encode_station
  cell_stands k m =
      stands_joined (encode_station s) 16 16 44 (λ j. encode_cell (cell_of s j)) (λ j q. length_cell (cell_of s j))
      (stands_right (encode_station s) 0 (encode_head s) cells 16 (length_head s)
      (stands_left (encode_station s) 0 (encode_head s ++ cells) (encode_waiting s.waiting) (stands_whole (encode_station s)))) k m

  -- how many bodies a lane has
  pub lane_len : (k : ℕ) → k < 16 → byte_at (encode_station s) (16 + 44 * k + 3) ≡ (get_or s.lanes k no_lane).len
  unfolding encode_cell cell_of
  lane_len k m = (cell_stands k m).is 3 (omega (arith, length_cell (cell_of s k)))

  -- the labels of a record
  pub entry_labels : (k : ℕ) → k < 16 → (record_of s k).labels < 4_294_967_296 → word_at (encode_station s) (16 + 44 * k + 40) ≡ (record_of s k).labels
  unfolding encode_cell encode_record
  entry_labels k m small =
      let c = cell_of s k in
      let r = c.entry in
      let head = r.station ∷ r.count ∷ kind_of r.body ∷ channel_of r.body ∷ [] in
      let event = word_bytes (event_of r.body) in
      let argument = word_bytes (unsigned (argument_of r.body)) in
      let long : length (head ++ event ++ argument) ≡ 12 =
      omega (arith, length-append (head ++ event) argument, length-append head event, length_word (event_of r.body), length_word (unsigned (argument_of r.body))) in
      let place : 16 + 44 * k + 28 + 12 ≡ 16 + 44 * k + 40 = omega arith in
      ap (word_at (encode_station s)) (sym place)
      ∙ stands_word (encode_station s) (16 + 44 * k + 28 + 12) r.labels small
      (stands_right (encode_station s) (16 + 44 * k + 28) (head ++ event ++ argument) (word_bytes r.labels) 12 long
      (stands_right (encode_station s) (16 + 44 * k) (parts c) (encode_record r) 28 (length-parts c) (cell_stands k m)))

  module _ (t : Station) (head : encode_head s ≡ encode_head t) (waiting : s.waiting ≡ t.waiting) (k : ℕ) (m : k < 16) (other : (j : ℕ) → (j ≡ k → ⊥) → cell_of s j ≡ cell_of t j) where
    pub part_changed :
        (r : ℕ) (xs : List ℕ) → r + length xs ≤ 44 → sets (encode_cell (cell_of s k)) r xs ≡ encode_cell (cell_of t k) →
        sets (encode_station s) (16 + 44 * k + r) xs ≡ encode_station t
    unfolding encode_station
    part_changed r xs room here =
        let place : 16 + 44 * k + r ≡ 16 + (44 * k + r) = omega arith in
        sets_before xs (encode_head s ++ cells) (encode_waiting s.waiting) (16 + 44 * k + r) (omega (arith, length_front))
        ∙ ap (λ (x : List ℕ). x ++ encode_waiting s.waiting)
        (ap (λ (j : ℕ). sets (encode_head s ++ cells) j xs) place
        ∙ sets_behind xs (encode_head s) cells 16 (44 * k + r) (length_head s)
        ∙ ap (λ (x : List ℕ). encode_head s ++ x)
        (joined_changed 16 k r (λ j. encode_cell (cell_of s j)) (λ j. encode_cell (cell_of t j)) xs m room (λ j. length_cell (cell_of s j)) (λ j d. ap encode_cell (other j d)) here))
        ∙ (λ i. head i ++ joined_below 16 (λ j. encode_cell (cell_of t j)) ++ encode_waiting (waiting i))

-- ---- a station of which one part is another

pub count_put : (s : Station) (count : ℕ) → set (encode_station s) 2 count ≡ encode_station (with_broadcast s s.body count)
unfolding encode_station encode_head cell_of
count_put s count = refl

module _ (s : Station) (k : ℕ) (m : k < 16) where
  pub acked_put :
      length s.acked ≡ 16 → (a : Bool) →
      set (encode_station s) (16 + 44 * k) (flag_byte a) ≡ encode_station (with_arrays s (set s.acked k a) s.labels s.held s.table s.lanes)
  unfolding encode_head cell_of
  acked_put long a =
      let t = with_arrays s (set s.acked k a) s.labels s.held s.table s.lanes in
      ap (λ (j : ℕ). set (encode_station s) j (flag_byte a)) (sym (add-zero (16 + 44 * k)))
      ∙ part_changed s t refl refl k m
      (λ j d i. with_ack (cell_of s j) (sym (get_or-set_other s.acked k j a false d) i))
      0 (flag_byte a ∷ []) (omega arith)
      (cell_acked (cell_of s k) a ∙ (λ i. encode_cell (with_ack (cell_of s k) (sym (get_or-set_same s.acked k a false (omega arith)) i))))

  pub label_put :
      length s.labels ≡ 16 → (l : ℕ) →
      set (encode_station s) (16 + 44 * k + 2) l ≡ encode_station (with_arrays s s.acked (set s.labels k l) s.held s.table s.lanes)
  unfolding encode_head cell_of
  label_put long l =
      let t = with_arrays s s.acked (set s.labels k l) s.held s.table s.lanes in
      part_changed s t refl refl k m
      (λ j d i. with_label (cell_of s j) (sym (get_or-set_other s.labels k j l 0 d) i))
      2 (l ∷ []) (omega arith)
      (cell_label (cell_of s k) l ∙ (λ i. encode_cell (with_label (cell_of s k) (sym (get_or-set_same s.labels k l 0 (omega arith)) i))))

  pub held_put :
      length s.held ≡ 16 → (h : Bool) →
      set (encode_station s) (16 + 44 * k + 1) (flag_byte h) ≡ encode_station (with_arrays s s.acked s.labels (set s.held k h) s.table s.lanes)
  unfolding encode_head cell_of
  held_put long h =
      let t = with_arrays s s.acked s.labels (set s.held k h) s.table s.lanes in
      part_changed s t refl refl k m
      (λ j d i. with_hold (cell_of s j) (sym (get_or-set_other s.held k j h false d) i))
      1 (flag_byte h ∷ []) (omega arith)
      (cell_held (cell_of s k) h ∙ (λ i. encode_cell (with_hold (cell_of s k) (sym (get_or-set_same s.held k h false (omega arith)) i))))

  pub entry_put :
      length s.table ≡ 16 → (r : Record) →
      sets (encode_station s) (16 + 44 * k + 28) (encode_record r) ≡ encode_station (with_arrays s s.acked s.labels s.held (set s.table k r) s.lanes)
  unfolding encode_head cell_of
  entry_put long r =
      let t = with_arrays s s.acked s.labels s.held (set s.table k r) s.lanes in
      part_changed s t refl refl k m
      (λ j d i. with_entry (cell_of s j) (sym (get_or-set_other s.table k j r no_record d) i))
      28 (encode_record r) (omega (arith, length-record r))
      (cell_entry (cell_of s k) r ∙ (λ i. encode_cell (with_entry (cell_of s k) (sym (get_or-set_same s.table k r no_record (omega arith)) i))))

  -- the station with another lane for station k
  abbrev pub laned : Lane → Station
  laned v = with_arrays s s.acked s.labels s.held s.table (set s.lanes k v)

  pub lane_first : s ≡ laned (get_or s.lanes k no_lane)
  lane_first = λ i. with_arrays s s.acked s.labels s.held s.table (sym (set-get_or s.lanes k no_lane) i)

  -- one write after another into the same lane
  pub lane_put :
      length s.lanes ≡ 16 → (f : Lane → Lane) (v : Lane) (r : ℕ) (xs : List ℕ) → r + length xs ≤ 44 →
      ((c : Cell) → sets (encode_cell c) r xs ≡ encode_cell (with_lane c (f c.lane))) →
      sets (encode_station (laned v)) (16 + 44 * k + r) xs ≡ encode_station (laned (f v))
  unfolding encode_head cell_of
  lane_put long f v r xs room law =
      let same : get_or (set s.lanes k v) k no_lane ≡ v = get_or-set_same s.lanes k v no_lane (omega arith) in
      let new : f v ≡ get_or (set s.lanes k (f v)) k no_lane = sym (get_or-set_same s.lanes k (f v) no_lane (omega arith)) in
      part_changed (laned v) (laned (f v)) refl refl k m
      (λ j d i. with_lane (cell_of s j) ((get_or-set_other s.lanes k j v no_lane d ∙ sym (get_or-set_other s.lanes k j (f v) no_lane d)) i))
      r xs room
      (law (cell_of (laned v) k) ∙ (λ i. encode_cell (with_lane (cell_of s k) ((ap f same ∙ new) i))))
