-- Writing the frame of a station: its numbers can be written, and the answers of the definition
-- with the tests on their way decided.
use Prim.Native.Nat.{ℕ, ◌≤◌, ◌<◌}
use native.Mathlib.Omega.{arith}
use mathlib.Core.Path.{◌≡◌, refl}
use mathlib.Core.Bool.{Bool, true, false}
use mathlib.Core.List.{List}
use lib.ListN.{length}
use lib.Dec.{ltb}
use Rattle.frame_spec.specs.Frame.{frame_bytes}
use Rattle.frame_spec.specs.Calls.{table_records, written, buffer_with}
use Rattle.station_spec.specs.declared.Station.{Station}
use Rattle.station_spec.specs.State.{cell_of, sent_records}
use Rattle.station_spec.specs.Limits.{station_inside}
use Rattle.station_spec.specs.Calls.{own_count_inside, frame_of, write_refusal, write_call, buffer_after}
use Rattle.station_spec.specs.Inner.Writing.{as_written}
use Rattle.station_spec.proofs.StationLimits.{Inside}

-- the numbers of a station inside its limits are bytes
pub writable : (s : Station) → Inside s → (s.n ≤ 16) × (s.own < 256) × (s.edition < 256)
writable s c = (c.high, omega (arith, c.own, c.high), omega (arith, c.known))

-- the records that are sent are those of the table
pub frame_is : (s : Station) → frame_bytes s.edition s.n s.own (table_records s.n s.held s.table) ≡ frame_of s
unfolding cell_of table_records sent_records frame_of
frame_is s = refl

module _ (s : Station) (b : List ℕ) where
  pub write_outside : station_inside s ≡ false → record { refusal = 2; len = 0 } ≡ write_call s (length b)
  unfolding write_call write_refusal
  write_outside i = rw i

  pub kept_outside : station_inside s ≡ false → b ≡ buffer_after s b
  unfolding buffer_after write_refusal
  kept_outside i = rw i

  module _ (i : station_inside s ≡ true) where
    pub write_count : own_count_inside s ≡ false → record { refusal = 10; len = 0 } ≡ write_call s (length b)
    unfolding write_call write_refusal
    write_count c = rw (i, c)

    pub kept_count : own_count_inside s ≡ false → b ≡ buffer_after s b
    unfolding buffer_after write_refusal
    kept_count c = rw (i, c)

    module _ (c : own_count_inside s ≡ true) where
      pub write_frame : as_written (written (frame_of s) (length b)) ≡ write_call s (length b)
      unfolding write_call write_refusal written
      write_frame = go (ltb (length b) (length (frame_of s))) refl
        where
          go :
              (t : Bool) → ltb (length b) (length (frame_of s)) ≡ t →
              as_written (written (frame_of s) (length b)) ≡ write_call s (length b)
          go true e = rw (i, c, e)
          go false e = rw (i, c, e)

      pub buffer_frame : buffer_with (frame_of s) b ≡ buffer_after s b
      unfolding buffer_after write_refusal buffer_with
      buffer_frame = go (ltb (length b) (length (frame_of s))) refl
        where
          go : (t : Bool) → ltb (length b) (length (frame_of s)) ≡ t → buffer_with (frame_of s) b ≡ buffer_after s b
          go true e = rw (i, c, e)
          go false e = rw (i, c, e)
