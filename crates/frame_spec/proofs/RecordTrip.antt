-- One record there and back. A record inside its limits is written as bytes that are inside theirs,
-- and read back as the frame carries it; bytes inside their limits are the bytes of the record that
-- they hold.
use mathlib.Core.Path.{◌≡◌, sym, ap, ◌∙◌}
use mathlib.Core.Bool.{Bool, true}
use mathlib.Core.List.{List, [], ◌∷◌, ◌++◌}
use Prim.Native.Nat.{ℕ, ◌+◌, ◌≤◌, ◌<◌}
use native.Mathlib.Omega.{arith}
use lib.IntN.{ℤ}
use lib.ListN.{get_or, length}
use Rattle.bodies.specs.declared.Body.{Body}
use Rattle.bodies.specs.Body.{kind_of, event_of, argument_of, channel_of, body_of}
use Rattle.bodies.specs.Limits.{numbers_inside, inside_kind, body_inside}
use Rattle.bodies.proofs.BodyLaws.{body_back}
use Rattle.bodies.proofs.LimitLaws.{kind_back, event_back, argument_back, channel_back, inside_back, inside_kind_lem, inside_channel, body_event_fits, body_argument_fits}
use Rattle.labels.specs.Label.{is_label}
use Rattle.labels.specs.Packing.{labels_over, labels_inside, zero_from}
use Rattle.labels.proofs.PackingLaws.{inside_at, inside_make, zeros_at, zeros_make, first_whole}
use Rattle.frame_spec.specs.declared.Record.{Record}
use Rattle.frame_spec.specs.Words.{word_at, word_bytes, signed, unsigned}
use Rattle.frame_spec.specs.Record.{record_label, record_from, record_bytes, framed, bytes_inside, record_fits}
use Rattle.frame_spec.proofs.Labels.{framed_label, framed_zero, framed_less}
use Rattle.frame_spec.proofs.Limits.{fits_open, fits_make, bytes_open, bytes_make}
use Rattle.frame_spec.proofs.Spelled.{spelled, spelled_is, word_back, bytes_back, signed_back, unsigned_small, unsigned_back}

-- ---- a record that is written and read

pub fits_station : (inside : Body → Bool) (n : ℕ) (r : Record) → record_fits inside n r ≡ true → r.station < n
fits_station inside n r h = (fits_open inside n r h).station

-- what a frame carries of a record is inside the same limits
pub framed_fits : (inside : Body → Bool) (n : ℕ) (r : Record) → record_fits inside n r ≡ true → record_fits inside n (framed n r) ≡ true
unfolding framed
framed_fits inside n r h =
    let f = fits_open inside n r h in
    fits_make inside n (framed n r)
    (record {
      station = f.station;
      count = f.count;
      body = f.body;
      labels = λ j l. ap (λ (x : ℕ). is_label x) (framed_label n r j l) ∙ f.labels j l;
    })

module _ (edition n : ℕ) (r : Record) (few : n ≤ 16) (h : record_fits (body_inside edition) n r ≡ true) where
  in_kind : inside_kind r.body ≡ true
  in_kind = inside_kind_lem edition r.body (fits_open (body_inside edition) n r h).body

  -- the words of its bytes
  event_word : word_at (record_bytes n r) 4 ≡ event_of r.body
  unfolding word_at record_bytes word_bytes
  event_word = bytes_back (event_of r.body) (body_event_fits r.body in_kind)

  argument_word : word_at (record_bytes n r) 8 ≡ unsigned (argument_of r.body)
  unfolding word_at record_bytes word_bytes
  argument_word =
      bytes_back (unsigned (argument_of r.body)) (unsigned_small (argument_of r.body) (body_argument_fits r.body in_kind))

  labels_word : word_at (record_bytes n r) 12 ≡ (framed n r).labels
  unfolding word_at record_bytes word_bytes framed
  labels_word = bytes_back (labels_over n (record_label r) 0) (framed_less n r few)

  argument_signed : signed (word_at (record_bytes n r) 8) ≡ argument_of r.body
  argument_signed = ap signed argument_word ∙ signed_back (argument_of r.body) (body_argument_fits r.body in_kind)

  -- it is read back as the frame carries it
  pub record_read : record_from (record_bytes n r) ≡ framed n r
  unfolding record_from record_bytes framed
  record_read =
      let b = r.body in
      let body : body_of (kind_of b) (word_at (record_bytes n r) 4) (signed (word_at (record_bytes n r) 8)) (channel_of b) ≡ b =
      (λ i. body_of (kind_of b) (event_word i) (argument_signed i) (channel_of b)) ∙ body_back b in
      (λ i. record { station = r.station; count = r.count; body = body i; labels = labels_word i })

  -- and its bytes are inside their limits
  pub record_accepted : bytes_inside edition n (record_bytes n r) ≡ true
  unfolding record_bytes inside_kind record_label
  record_accepted =
      let f = fits_open (body_inside edition) n r h in
      let g = fits_open (body_inside edition) n (framed n r) (framed_fits (body_inside edition) n r h) in
      let b = r.body in
      bytes_make edition n (record_bytes n r)
      (record {
        station = f.station;
        count = f.count;
        numbers = (λ i. numbers_inside (kind_of b) (event_word i) (argument_signed i)) ∙ in_kind;
        on = inside_channel edition b f.body;
        labels = ap (labels_inside n) labels_word ∙ inside_make n (framed n r).labels g.labels;
        zeros = ap (zero_from n) labels_word ∙ zeros_make n (framed n r).labels (λ k l b. framed_zero n r k l);
      })

-- ---- bytes that are read and written

-- such bytes hold a record inside its limits, whose labels from n up are 0
module _ (edition n : ℕ) (p : List ℕ) (h : bytes_inside edition n p ≡ true) where
  pub held_fits : record_fits (body_inside edition) n (record_from p) ≡ true
  unfolding record_from record_label
  held_fits =
      let b = bytes_open edition n p h in
      fits_make (body_inside edition) n (record_from p)
      (record {
        station = b.station;
        count = b.count;
        body = inside_back (get_or p 2 0) (word_at p 4) (signed (word_at p 8)) (get_or p 3 0) b.numbers edition b.on;
        labels = inside_at n (word_at p 12) b.labels;
      })

  pub held_numbers : numbers_inside (get_or p 2 0) (word_at p 4) (signed (word_at p 8)) ≡ true
  held_numbers = (bytes_open edition n p h).numbers

  pub held_zeros : (k : ℕ) → n ≤ k → k < 16 → record_label (record_from p) k ≡ 0
  unfolding record_from record_label
  held_zeros = zeros_at n (word_at p 12) (bytes_open edition n p h).zeros

module _ (p : List ℕ) (small : (i : ℕ) → get_or p i 0 < 256) where
  word_small : (at : ℕ) → word_at p at < 4_294_967_296
  unfolding word_at
  word_small at = omega (arith, small at, small (at + 1), small (at + 2), small (at + 3))

  word_spelled : (at : ℕ) → word_bytes (word_at p at) ≡ get_or p at 0 ∷ get_or p (at + 1) 0 ∷ get_or p (at + 2) 0 ∷ get_or p (at + 3) 0 ∷ []
  unfolding word_at
  word_spelled at =
      word_back (get_or p at 0) (get_or p (at + 1) 0) (get_or p (at + 2) 0) (get_or p (at + 3) 0) (small at) (small (at + 1)) (small (at + 2)) (small (at + 3))

  pub bytes_written : (edition n : ℕ) → length p ≡ 16 → bytes_inside edition n p ≡ true → record_bytes n (record_from p) ≡ p
  unfolding record_bytes record_from record_label spelled
  bytes_written edition n long h =
      let f = bytes_open edition n p h in
      let k = get_or p 2 0 in
      let e = word_at p 4 in
      let a = signed (word_at p 8) in
      let c = get_or p 3 0 in
      let event = ap word_bytes (event_back k e a c f.numbers) ∙ word_spelled 4 in
      let argument =
      ap (λ (z : ℤ). word_bytes (unsigned z)) (argument_back k e a c f.numbers)
      ∙ ap word_bytes (unsigned_back (word_at p 8) (word_small 8))
      ∙ word_spelled 8 in
      let labels = ap word_bytes (first_whole n (word_at p 12) (word_small 12) f.zeros) ∙ word_spelled 12 in
      (λ i.
      get_or p 0 0
      ∷ get_or p 1 0
      ∷ kind_back k e a c f.numbers i
      ∷ channel_back k e a c f.numbers edition f.on i
      ∷ event i ++ argument i ++ labels i)
      ∙ sym (spelled_is 16 0 p long)
