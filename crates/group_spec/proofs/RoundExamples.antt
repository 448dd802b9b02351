-- Rounds of three stations whose tables do not fit together, computed, as no run from fresh has
-- them. What a record is, is judged against the table as it stands when its frame is heard, so that
-- one conflicts with another that came earlier in the same round; a round that is refused changes
-- nothing.
use Prim.Native.Nat.{ℕ}
use mathlib.Core.Bool.{true}
use mathlib.Core.List.{List, [], ◌∷◌}
use mathlib.Core.Path.{◌≡◌, refl}
use lib.ListN.{set}
use Rattle.bodies.specs.declared.Body.{Body}
use Rattle.bodies.specs.declared.Body.TheVariants.{Neutral, Drop}
use Rattle.bodies.specs.Refusals.{done, lane_full, conflict}
use Rattle.labels.specs.Packing.{packed}
use Rattle.station_spec.specs.declared.Station.{Station}
use Rattle.station_spec.specs.State.{sized, cell_of, with_cell}
use Rattle.group_spec.specs.State.{station_at, group_inside, fresh_group}
use Rattle.group_spec.specs.Calls.{round_refusal, round_call}
use Rattle.group_spec.proofs.Computing.{group_runs}

abbrev fresh : List Station
fresh = fresh_group (sized 3)

-- station i with a record of station k in its table, whose labels are these
abbrev with_record : List Station → ℕ → ℕ → ℕ → Body → List ℕ → List Station
with_record g i k count b labels =
    let s = station_at g i in
    let c = cell_of s k in
    set g i
    (with_cell s k
    (record { label = c.label; acked = c.acked; held = true; entry = record { station = k; count = count; body = b; labels = packed labels }; lane = c.lane }))

-- station i with two bodies in its lane of station k
abbrev with_lane : List Station → ℕ → ℕ → List Station
with_lane g i k =
    let s = station_at g i in
    let c = cell_of s k in
    set g i
    (with_cell s k (record { label = c.label; acked = c.acked; held = c.held; entry = c.entry; lane = record { first = Neutral; second = Neutral; len = 2 } }))

-- station 2 shows station 1 with a drop, while station 1 shows Empty with that label and count
abbrev two_faces : List Station
two_faces = with_record fresh 2 1 0 (Drop 0 5) (0 ∷ 1 ∷ 0 ∷ [])

-- the lane of station 2 is full at station 0, and station 2 sends a body
abbrev full : List Station
full = with_record (with_lane fresh 0 2) 2 2 0 (Drop 0 6) (0 ∷ 0 ∷ 1 ∷ [])

-- all of it, the conflict with what station 0 holds of station 1
abbrev full_and_faces : List Station
full_and_faces = with_record (with_record full 0 1 0 (Drop 0 5) (0 ∷ 1 ∷ 0 ∷ [])) 2 1 0 (Drop 0 5) (0 ∷ 1 ∷ 0 ∷ [])

-- station 2 sends a conflict and a body for the full lane in one frame
abbrev one_frame : List Station
one_frame = with_record (with_record full 0 1 0 (Drop 0 4) (0 ∷ 1 ∷ 0 ∷ [])) 2 1 0 (Drop 0 5) (0 ∷ 1 ∷ 0 ∷ [])

pub record FalseRounds : Type 0 where
  pub inside : (group_inside two_faces ≡ true) × (group_inside full_and_faces ≡ true) × (group_inside one_frame ≡ true)
  -- station 0 hears station 1 or 2 alone, or both one after the other: the second record conflicts
  -- with the first
  pub one_face : (round_refusal two_faces (2 ∷ 0 ∷ 0 ∷ []) ≡ done) × (round_refusal two_faces (4 ∷ 0 ∷ 0 ∷ []) ≡ done)
  pub both_faces : round_refusal two_faces (6 ∷ 0 ∷ 0 ∷ []) ≡ conflict
  -- nothing changes
  pub kept : (round_call two_faces (6 ∷ 0 ∷ 0 ∷ [])).group ≡ two_faces
  -- the full lane alone; the conflict in the frame before it; both in one frame
  pub overfull : round_refusal full (6 ∷ 0 ∷ 0 ∷ []) ≡ lane_full
  pub conflict_before : round_refusal full_and_faces (6 ∷ 0 ∷ 0 ∷ []) ≡ conflict
  pub in_one_frame : round_refusal one_frame (4 ∷ 0 ∷ 0 ∷ []) ≡ conflict

-- all by computation
pub false_rounds : FalseRounds
unfolding group_runs
false_rounds =
    record {
      inside = (refl, refl, refl);
      one_face = (refl, refl);
      both_faces = refl;
      kept = refl;
      overfull = refl;
      conflict_before = refl;
      in_one_frame = refl;
    }
