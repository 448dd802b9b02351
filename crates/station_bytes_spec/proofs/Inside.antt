-- A station inside its limits is decoded from its encoding, whatever stands from N up and past a
-- length: its limits make N, its own number, its edition, the numbers of waiting edits and their
-- limit bytes, and its types say the rest.
use mathlib.Core.Path.{◌≡◌}
use mathlib.Core.Bool.{true}
use Prim.Native.Nat.{ℕ, ◌<◌}
use native.Mathlib.Omega.{arith}
use lib.ListN.{length}
use Rattle.queues.specs.Waiting.{desk_count, waiting_at}
use Rattle.queues.proofs.WaitingLaws.{limit_most, inside_limit, inside_most}
use Rattle.station_spec.specs.declared.Station.{Station}
use Rattle.station_spec.specs.State.{cell_of}
use Rattle.station_spec.specs.Limits.{station_inside, allowed}
use Rattle.station_spec.proofs.Setters.{Shaped}
use Rattle.station_spec.proofs.StationLimits.{inside_open}
use Rattle.station_bytes_spec.specs.Station.{encode_station, decode_station, is_station}
use Rattle.station_bytes_spec.proofs.Body.{BodyFits}
use Rattle.station_bytes_spec.proofs.Station.{CellFits, StationFits, station_decoded, station_accepted}

-- what the types of a station say of it: the lengths of its arrays, and that its numbers have 32
-- bits
pub record Typed (s : Station) : Type 0 where
  pub shape : Shaped s
  pub body_typed : BodyFits s.body
  pub cell_typed : (k : ℕ) → k < 16 → CellFits (cell_of s k)
  pub edit_typed : (d i : ℕ) → i < 32 → BodyFits (waiting_at s.waiting d i)

module _ (s : Station) (t : Typed s) (h : station_inside s ≡ true) where
  few_wait : (d : ℕ) → desk_count s.waiting d < 256
  few_wait d = omega (arith, inside_most (allowed s) s.waiting (inside_open s h).waiting d)

  limit_small : s.waiting.limit < 256
  limit_small = omega (arith, limit_most s.waiting.limit (inside_limit (allowed s) s.waiting (inside_open s h).waiting))

  pub inside_fits : StationFits s
  inside_fits =
      let i = inside_open s h in
      record {
        n_byte = omega (arith, i.high);
        own_byte = omega (arith, i.high, i.own);
        edition_byte = omega (arith, i.known);
        body_fits = t.body_typed;
        acked_long = t.shape.acked;
        labels_long = t.shape.labels;
        held_long = t.shape.held;
        table_long = t.shape.table;
        lanes_long = t.shape.lanes;
        cell_fits = t.cell_typed;
        waiting_fits = record { count_byte = few_wait; limit_byte = limit_small; sized = t.shape.waiting; edit_fits = t.edit_typed };
      }

  pub inside_decoded : decode_station (encode_station s) 0 ≡ s
  inside_decoded = station_decoded s inside_fits

  pub inside_accepted : is_station (encode_station s) ≡ true
  inside_accepted = station_accepted s inside_fits
