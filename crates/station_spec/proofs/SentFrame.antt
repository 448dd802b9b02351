-- Hearing a written frame is hearing the writer's table: a station's frame reads back as the
-- records that it sent, and every other station among as many accepts it. So a round may hand over
-- records in the place of bytes.
use Rattle.std.specs.Prelude.{Ok}
use Prim.Native.Nat.{ℕ, ◌<◌}
use mathlib.Core.Bool.{true}
use mathlib.Core.Path.{◌≡◌, ap}
use Rattle.bodies.specs.Limits.{body_inside}
use Rattle.frame_spec.specs.Record.{record_fits}
use Rattle.frame_spec.specs.Frame.{records_of, frame_refusal}
use Rattle.frame_spec.specs.Calls.{table_records}
use Rattle.frame_spec.proofs.Limits.{fits_make}
use Rattle.frame_spec.proofs.TableTrip.{table_read, table_accepted}
use Rattle.station_spec.specs.declared.Station.{Station}
use Rattle.station_spec.specs.State.{cell_of, held_of, record_of, sent_records}
use Rattle.station_spec.specs.Hearing.{Hearing, hear_frame}
use Rattle.station_spec.specs.Calls.{own_count_inside, frame_of}
use Rattle.station_spec.proofs.BodyLaws.{allowed_inside}
use Rattle.station_spec.proofs.StationLimits.{Inside}
use Rattle.station_spec.proofs.LimitsSent.{sent_count}

module _ (s : Station) (c : Inside s) (fits : own_count_inside s ≡ true) where
  pub place : (k : ℕ) → k < s.n → held_of s k ≡ true → (record_of s k).station ≡ k
  place k l e = ((c.places k l).held e).station

  pub record_fits_lem : (k : ℕ) → k < s.n → held_of s k ≡ true → record_fits (body_inside s.edition) s.n (record_of s k) ≡ true
  unfolding cell_of
  record_fits_lem k l e =
      let h = (c.places k l).held e in
      fits_make (body_inside s.edition) s.n (record_of s k)
      (record { station = rw h.station l; count = sent_count s c fits k l e; body = allowed_inside s (record_of s k).body h.body; labels = h.labels })

  pub sent_read : records_of (frame_of s) ≡ sent_records s
  unfolding cell_of sent_records table_records frame_of
  sent_read = table_read s.edition s.n s.own s.held s.table c.high place record_fits_lem c.held c.own

  pub sent_accepted : (own : ℕ) → (s.own ≡ own → ⊥) → frame_refusal s.edition (frame_of s) s.n own ≡ Ok tt
  unfolding cell_of sent_records table_records frame_of
  sent_accepted =
      table_accepted s.edition s.n s.own s.held s.table c.high place record_fits_lem c.held c.own c.known

  -- the hearer makes the same of the frame as of the table
  pub hear_sent : (h : Hearing) → hear_frame h (records_of (frame_of s)) ≡ hear_frame h (sent_records s)
  hear_sent h = ap (hear_frame h) sent_read
