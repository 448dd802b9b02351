-- A record is settled at a station: heard now, it would do nothing, for it is neither newer nor
-- conflicting.
use Rattle.std.specs.Prelude.{ℕ, ◌<◌, ◌≡◌, false}
use Rattle.frame_spec.specs.declared.Record.{Record}
use Rattle.station_spec.specs.declared.Station.{Station}
use Rattle.station_spec.proofs.HearRecord.{accepts, conflicts}

pub record Settled (s : Station) (r : Record) : Type 0 where
  pub passed : accepts s r ≡ false
  pub calm : conflicts s r ≡ false

-- of each station below n a record: where it is of that station, it is settled
pub record AllSettled (s : Station) (last : ℕ → Record) : Type 0 where
  pub each : (k : ℕ) → k < s.n → (last k).station ≡ k → Settled s (last k)
