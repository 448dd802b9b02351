-- The record limits as facts: what the one test says of a record's fields, of a record and of
-- sixteen bytes, and the other way round. Laws about the limits are proved on the facts.
use Prim.Native.Nat.{ℕ, ◌<◌}
use mathlib.Core.Bool.{Bool, true, false, ◌&&◌, ◌||◌}
use mathlib.Core.List.{List}
use mathlib.Core.Path.{◌≡◌}
use lib.Dec.{ltb}
use lib.ListN.{get_or}
use borrow.Author.Tests.{ltb-true, lt-ltb}
use Rattle.bodies.specs.declared.Body.{Body}
use Rattle.bodies.specs.Limits.{numbers_inside, channel_inside}
use Rattle.labels.specs.Label.{is_label}
use Rattle.labels.specs.Packing.{labels_inside, zero_from}
use Rattle.labels.proofs.PackingLaws.{inside_at, inside_make}
use Rattle.lists.proofs.Laws.{and_both, and_left, and_right}
use Rattle.frame_spec.specs.declared.Record.{Record}
use Rattle.frame_spec.specs.Words.{word_at, signed}
use Rattle.frame_spec.specs.Record.{record_label, count_inside, fields_inside, record_limits, bytes_inside, record_fits}

-- the fields
record FieldsHold (n : ℕ) (free : Bool) (station count : ℕ) (inside : Bool) (labels : ℕ) : Type 0 where
  below : station < n
  counted : (free || count_inside n count) ≡ true
  body : inside ≡ true
  each : labels_inside n labels ≡ true

module _ (n : ℕ) (free : Bool) (station count : ℕ) (inside : Bool) (labels : ℕ) where
  fields_open : fields_inside n free station count inside labels ≡ true → FieldsHold n free station count inside labels
  fields_open h =
      let one = ltb station n in
      let two = free || count_inside n count in
      let last = labels_inside n labels in
      let front : (one && two && inside) ≡ true = and_left (one && two && inside) last h in
      record {
        below = ltb-true station n (and_left one two (and_left (one && two) inside front));
        counted = and_right one two (and_left (one && two) inside front);
        body = and_right (one && two) inside front;
        each = and_right (one && two && inside) last h;
      }

  fields_make : FieldsHold n free station count inside labels → fields_inside n free station count inside labels ≡ true
  fields_make f = and_both (and_both (and_both (lt-ltb station n f.below) f.counted) f.body) f.each

-- a record
pub record LimitsHold (inside : Body → Bool) (n : ℕ) (free : Bool) (r : Record) : Type 0 where
  pub station : r.station < n
  pub count : (free || count_inside n r.count) ≡ true
  pub body : inside r.body ≡ true
  pub labels : (j : ℕ) → j < n → is_label (record_label r j) ≡ true

module _ (inside : Body → Bool) (n : ℕ) (free : Bool) (r : Record) where
  pub limits_open : record_limits inside n free r ≡ true → LimitsHold inside n free r
  unfolding record_label
  limits_open h =
      let f = fields_open n free r.station r.count (inside r.body) r.labels h in
      record { station = f.below; count = f.counted; body = f.body; labels = inside_at n r.labels f.each }

  pub limits_make : LimitsHold inside n free r → record_limits inside n free r ≡ true
  unfolding record_label
  limits_make l =
      fields_make n free r.station r.count (inside r.body) r.labels
      (record { below = l.station; counted = l.count; body = l.body; each = inside_make n r.labels l.labels })

module _ (inside : Body → Bool) (n : ℕ) (r : Record) where
  pub fits_open : record_fits inside n r ≡ true → LimitsHold inside n false r
  unfolding record_fits
  fits_open h = limits_open inside n false r h

  pub fits_make : LimitsHold inside n false r → record_fits inside n r ≡ true
  unfolding record_fits
  fits_make l = limits_make inside n false r l

-- sixteen bytes
pub record BytesHold (edition n : ℕ) (p : List ℕ) : Type 0 where
  pub station : get_or p 0 0 < n
  pub count : count_inside n (get_or p 1 0) ≡ true
  pub numbers : numbers_inside (get_or p 2 0) (word_at p 4) (signed (word_at p 8)) ≡ true
  pub on : channel_inside edition (get_or p 2 0) (get_or p 3 0) ≡ true
  pub labels : labels_inside n (word_at p 12) ≡ true
  pub zeros : zero_from n (word_at p 12) ≡ true

module _ (edition n : ℕ) (p : List ℕ) where
  abbrev numbers : Bool
  numbers = numbers_inside (get_or p 2 0) (word_at p 4) (signed (word_at p 8))

  abbrev channel : Bool
  channel = channel_inside edition (get_or p 2 0) (get_or p 3 0)

  abbrev fields : Bool
  fields = fields_inside n false (get_or p 0 0) (get_or p 1 0) (numbers && channel) (word_at p 12)

  pub bytes_open : bytes_inside edition n p ≡ true → BytesHold edition n p
  unfolding bytes_inside
  bytes_open h =
      let f =
      fields_open n false (get_or p 0 0) (get_or p 1 0) (numbers && channel) (word_at p 12)
      (and_left fields (zero_from n (word_at p 12)) h) in
      record {
        station = f.below;
        count = f.counted;
        numbers = and_left numbers channel f.body;
        on = and_right numbers channel f.body;
        labels = f.each;
        zeros = and_right fields (zero_from n (word_at p 12)) h;
      }

  pub bytes_make : BytesHold edition n p → bytes_inside edition n p ≡ true
  unfolding bytes_inside
  bytes_make b =
      and_both
      (fields_make n false (get_or p 0 0) (get_or p 1 0) (numbers && channel) (word_at p 12)
      (record { below = b.station; counted = b.count; body = and_both b.numbers b.on; each = b.labels }))
      b.zeros
