-- Document 01, "Frame bytes", and document 02, A9: the sixteen bytes of one record.
use Rattle.std.specs.Prelude.{ℕ, ◌*◌, ◌-◌, Bool, false, ◌&&◌, ◌||◌, List, ◌∷◌, ◌++◌, slice_index, nat_le, nat_lt, ◌==◌}
use Rattle.bodies.specs.declared.Body.{Body}
use Rattle.bodies.specs.declared.Body.TheVariants.{Empty}
use Rattle.bodies.specs.Body.{kind_of, event_of, argument_of, channel_of, body_of}
use Rattle.bodies.specs.Limits.{numbers_inside, channel_inside}
use Rattle.labels.specs.Packing.{label_in, labels_over, labels_inside, zero_from}
use Rattle.frame_spec.specs.declared.Record.{Record}
use Rattle.frame_spec.specs.Words.{word_at, word_bytes, signed, unsigned}

-- the label of a record for station k
unfoldable pub record_label : Record → ℕ → ℕ
record_label r k = label_in r.labels k

-- the record that sixteen bytes hold
unfoldable pub record_from : List ℕ → Record
record_from bytes =
    record {
      station = slice_index bytes 0;
      count = slice_index bytes 1;
      body = body_of (slice_index bytes 2) (word_at bytes 4) (signed (word_at bytes 8)) (slice_index bytes 3);
      labels = word_at bytes 12;
    }

-- the sixteen bytes of a record among n stations; its labels from n up are written 0
unfoldable pub record_bytes : ℕ → Record → List ℕ
record_bytes n r =
    r.station
    ∷ r.count
    ∷ kind_of r.body
    ∷ channel_of r.body
    ∷ word_bytes (event_of r.body)
    ++ word_bytes (unsigned (argument_of r.body))
    ++ word_bytes (labels_over n (record_label r) 0)

-- "count at most 2 × (N - 1)"
abbrev pub count_inside : ℕ → ℕ → Bool
count_inside n count = nat_le count (2 * (n - 1))

-- an entry that no record uses, and what is read past the end of a list of records
abbrev pub no_record : Record
no_record = record { station = 0; count = 0; body = Empty; labels = 0 }

-- "Record limits", of the fields of one record among n stations: the station below n, the count by
-- its limit unless it is free, whether the body is inside its limits, and the labels of the n
-- stations 0 to 2
abbrev pub fields_inside : ℕ → Bool → ℕ → ℕ → Bool → ℕ → Bool
fields_inside n free station count inside labels =
    nat_lt station n
    && (free || count_inside n count)
    && inside
    && labels_inside n labels

-- the limits of a record, its body by the test `inside`
abbrev pub record_limits : (Body → Bool) → ℕ → Bool → Record → Bool
record_limits inside n free r = fields_inside n free r.station r.count (inside r.body) r.labels

-- the limits of a record's sixteen bytes in a frame of an edition: the body by the table of kinds,
-- its channel by the edition, and the labels from n up are zero too
unfoldable pub bytes_inside : ℕ → ℕ → List ℕ → Bool
bytes_inside edition n bytes =
    let labels = word_at bytes 12 in
    fields_inside n false (slice_index bytes 0) (slice_index bytes 1)
    (numbers_inside (slice_index bytes 2) (word_at bytes 4) (signed (word_at bytes 8))
    && channel_inside edition (slice_index bytes 2) (slice_index bytes 3)) labels
    && zero_from n labels

-- a record that a frame may carry
unfoldable pub record_fits : (Body → Bool) → ℕ → Record → Bool
record_fits inside n r = record_limits inside n false r

-- such a record, of station k
unfoldable pub place_fits : (Body → Bool) → ℕ → ℕ → Record → Bool
place_fits inside n k r = r.station == k && record_fits inside n r

-- the record as a frame carries it: its labels from n up are 0
unfoldable pub framed : ℕ → Record → Record
framed n r =
    record { station = r.station; count = r.count; body = r.body; labels = labels_over n (record_label r) 0 }
