-- Document 02, A4: from a fresh group no record that a station hears conflicts with the one that it
-- holds when that frame is heard.
use Rattle.std.specs.Prelude.{ℕ, ◌<◌, true, List, ◌≡◌}
use Rattle.bodies.specs.Refusals.{done}
use Rattle.labels.specs.declared.Age.TheVariants.{Conflicting}
use Rattle.links.specs.Log.{hears_in}
use Rattle.frame_spec.specs.Record.{framed}
use Rattle.station_spec.specs.declared.Setup.{Setup}
use Rattle.station_spec.specs.declared.Station.{Station}
use Rattle.station_spec.specs.State.{held_of, record_of}
use Rattle.station_spec.specs.Hearing.{age_in}
use Rattle.group_spec.specs.State.{station_at}
use Rattle.group_spec.specs.Calls.{group_fresh_refusal, heard_below}
use Rattle.group_spec.specs.History.{Call, history_of}

-- in a round of the group g of n stations: where p hears j, and the frame of j has a record of k,
-- another station than p, that record does not conflict
abbrev pub Calm : ℕ → List Station → List ℕ → Type 0
Calm n g masks =
    (p j k : ℕ) → p < n → k < n → (k ≡ p → ⊥) → hears_in n masks p j ≡ true → held_of (station_at g j) k ≡ true →
    age_in (heard_below g masks p j).station (framed n (record_of (station_at g j) k)) ≡ Conflicting → ⊥

-- every fresh group that is not refused, every list of calls, every round after it
abbrev pub NeverConflicting : Type 0
NeverConflicting =
    (setup : Setup) → group_fresh_refusal setup ≡ done → (calls : List Call) (masks : List ℕ) →
    Calm setup.n (history_of setup calls).group masks
