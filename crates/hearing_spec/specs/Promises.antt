-- What the functions of hearing promise. Each holds for every station and every hearing that its
-- notes stand for, for the functions see notes alone.
use Rattle.std.specs.Prelude.{ℕ, ◌≤◌, ◌≡◌, List}
use Rattle.bodies.specs.Refusals.{done, lane_full}
use Rattle.station_spec.specs.declared.Station.{Station}
use Rattle.station_spec.specs.Hearing.{Hearing, hear_record, hear_frame}
use Rattle.station_spec.proofs.Setters.{Shaped}
use Rattle.hearing_spec.specs.Buffer.{size_in, record_at, records_at, hear_senders}
use Rattle.hearing_spec.specs.StandsFor.{Notes, StandsFor, Stands}

-- the station is `own` among n
pub record Named (s : Station) (n own : ℕ) : Type 0 where
  pub n_is : s.n ≡ n
  pub own_is : s.own ≡ own

-- one record, at a place, while no record of its frame conflicted
pub record HearsRecord (own : ℕ) (bytes : List ℕ) (at : ℕ) (x y : Notes) : Type 0 where
  pub hears :
      (s : Station) (h : Hearing) → Named s (size_in bytes) own → StandsFor s bytes x h → Shaped h.station →
      h.refusal ≤ lane_full → StandsFor s bytes y (hear_record h (record_at bytes at))

-- the same, and of which record of each station was heard last; once the record conflicted nobody
-- asks for the notes any more
pub record HearsNext
    (own : ℕ) (bytes : List ℕ) (at : ℕ) (last : List ℕ) (x : Notes) (last' : List ℕ) (y : Notes) : Type 0 where
  pub refusal :
      (s : Station) (h : Hearing) → Named s (size_in bytes) own → Stands s bytes last x h → h.refusal ≤ lane_full →
      y.ear.refusal ≡ (hear_record h (record_at bytes at)).refusal
  pub stands :
      (s : Station) (h : Hearing) → Named s (size_in bytes) own → Stands s bytes last x h → h.refusal ≤ lane_full →
      y.ear.refusal ≤ lane_full → Stands s bytes last' y (hear_record h (record_at bytes at))

-- one step or several, said as what becomes of a hearing of which no frame was refused: the refusal
-- afterwards is that of the hearing, and where there is none, the notes stand for it
pub record Hears
    (own : ℕ) (bytes : List ℕ) (f : Hearing → Hearing) (last : List ℕ) (x : Notes) (last' : List ℕ) (y : Notes) :
    Type 0 where
  pub refusal :
      (s : Station) (h : Hearing) → Named s (size_in bytes) own → Stands s bytes last x h → h.refusal ≡ done →
      y.ear.refusal ≡ (f h).refusal
  pub stands :
      (s : Station) (h : Hearing) → Named s (size_in bytes) own → Stands s bytes last x h → h.refusal ≡ done →
      y.ear.refusal ≡ done → Stands s bytes last' y (f h)

-- the frame that begins at a place
abbrev pub HearsFrame : ℕ → List ℕ → ℕ → List ℕ → Notes → List ℕ → Notes → Type 0
HearsFrame own bytes start = Hears own bytes (λ h. hear_frame h (records_at bytes start))

-- the frames of a mask
abbrev pub HearsMask : ℕ → List ℕ → ℕ → List ℕ → Notes → List ℕ → Notes → Type 0
HearsMask own bytes mask = Hears own bytes (λ h. hear_senders h bytes own mask (size_in bytes))
