-- Document 01, "A station and its calls", Hear: what a newer record does, on numbers. The hearer's
-- labels, acknowledgements and count stand in an `Ear`.
use Rattle.std.specs.Prelude.{ℕ, ◌+◌, Bool, false, if◌then◌else◌, not, ◌&&◌, ◌||◌, List}
use Rattle.std.specs.Prelude.{slice_index, slice_index_or, set, nat_le, ◌==◌}
use Rattle.bodies.specs.Body.{is_empty}
use Rattle.bodies.specs.Refusals.{lane_full, refuse_number}
use Rattle.labels.specs.Label.{successor}
use Rattle.labels.specs.declared.Age.{Age}
use Rattle.labels.specs.declared.Age.TheVariants.{Same}
use Rattle.labels.specs.Newer.{age_of}
use Rattle.lists.specs.Below.{all_below}
use Rattle.frame_spec.specs.declared.Record.{Record}
use Rattle.frame_spec.specs.Record.{record_label}
use Rattle.station_spec.specs.Hearing.{follows, saturating_suc}
use Rattle.hearing_spec.specs.declared.Ear.{Ear}
use Rattle.hearing_spec.specs.Buffer.{bytes_at, record_at}

-- sixteen bytes are the same
unfoldable pub same_bytes : List ℕ → List ℕ → Bool
same_bytes p q = all_below 16 (λ i. slice_index p i == slice_index q i)

-- what is decided of the record r of station k, beside `old`, where one is held; `equal` says
-- whether all else is equal
abbrev pub age_beside : Bool → Record → Record → ℕ → Bool → Age
age_beside held old r k equal = age_of held (record_label old k) old.count (record_label r k) r.count equal

-- what is decided of the record of station k at a place, beside the one that is held at another.
-- The hearer's own counts as the same, for it does nothing
unfoldable pub age_at : ℕ → List ℕ → ℕ → ℕ → ℕ → Age
age_at own bytes held at k =
    if k == own
    then Same
    else
    age_beside (not (held == 0)) (record_at bytes held) (record_at bytes at) k
    (same_bytes (bytes_at bytes held) (bytes_at bytes at))

-- the label for the record's station advances
abbrev pub ear_advances : Ear → Record → Bool
ear_advances e r = follows (slice_index e.labels r.station) r

-- its body is to be taken
abbrev pub ear_takes : Ear → Record → Bool
ear_takes e r = ear_advances e r && not (is_empty r.body)

-- the lane of its station has two already
abbrev pub lane_has_two : List ℕ → Record → Bool
lane_has_two lens r = nat_le 2 (slice_index lens r.station)

-- its body is taken
abbrev pub ear_puts : List ℕ → Ear → Record → Bool
ear_puts lens e r = ear_takes e r && not (lane_has_two lens r)

-- the numbers after a newer record of another station: acknowledged, advanced, counted, taken; a
-- lane that has two refuses the frame
unfoldable pub ear_after : ℕ → List ℕ → Ear → Record → Ear
ear_after own lens e r =
    let k = r.station in
    record {
      refusal = refuse_number (ear_takes e r && lane_has_two lens r) lane_full e.refusal;
      count = if ear_advances e r then saturating_suc e.count else e.count;
      acked = set e.acked k (slice_index_or e.acked k false || record_label r own == slice_index e.labels own);
      labels = set e.labels k (if ear_advances e r then successor (slice_index e.labels k) else slice_index e.labels k);
      len = if ear_puts lens e r then e.len + 1 else e.len;
    }

-- how many bodies the lanes have then
unfoldable pub lens_after : List ℕ → Ear → Record → List ℕ
lens_after lens e r = if ear_puts lens e r then set lens r.station (slice_index lens r.station + 1) else lens

-- where the records begin whose bodies are taken, r being at a place
unfoldable pub taken_after : List ℕ → List ℕ → Ear → Record → ℕ → List ℕ
taken_after lens taken e r at = if ear_puts lens e r then set taken e.len at else taken
