-- The ways of one record at a place: it is the hearer's own; it is the same as the held one, older,
-- newer, or conflicting. By each, notes that stand for a hearing stand for it once the record is
-- heard. The decision looks at bytes, and they are equal exactly where the records agree.
use Prim.Native.Nat.{ℕ, ◌+◌, ◌<◌, ◌≤◌}
use mathlib.Core.Bool.{Bool, true, false, false≢true}
use mathlib.Core.List.{List}
use mathlib.Core.Path.{◌≡◌, refl, sym, ap, subst, ◌∙◌}
use native.Mathlib.Decide.{ℕ_discrete}
use native.Mathlib.Omega.{arith}
use borrow.Author.Tests.{eq-eqb, ne_eqb}
use lib.ListN.{get_or, drop, length, length-drop}
use lib.Seq.{length-take-le}
use Rattle.labels.specs.declared.Age.{Age}
use Rattle.labels.specs.declared.Age.TheVariants.{Newer, Same, Conflicting, Older}
use Rattle.labels.proofs.NewerLaws.{age_none, age_level}
use Rattle.frame_spec.specs.declared.Record.{Record}
use Rattle.station_spec.specs.declared.Station.{Station}
use Rattle.frame_spec.specs.Record.{record_label}
use Rattle.station_spec.specs.Hearing.{Hearing, agree, age_in}
use Rattle.station_spec.proofs.Setters.{Shaped}
use Rattle.hearing_spec.specs.Buffer.{size_in, bytes_at, record_at}
use Rattle.hearing_spec.specs.StandsFor.{Notes, holds_at, StandsFor}
use Rattle.hearing_spec.specs.Heeding.{same_bytes, age_beside, age_at}
use Rattle.hearing_spec.specs.Room.{takings_room, RecordRoom, Room}
use Rattle.hearing_spec.specs.Promises.{Named, HearsRecord}
use Rattle.hearing_spec.proofs.EqualRecords.{same_agree}
use Rattle.hearing_spec.proofs.Standing.{age_stands, stands_own, stands_same, stands_older, stopped_notes, stands_conflicting}
use Rattle.hearing_spec.proofs.Heeding.{noted, taking_room, stands_newer, newer_room}
use Rattle.hearing_spec.proofs.FrameLoop.{station_at}

-- which ages are the same
is_same : Age → Bool
is_same Newer = false
is_same Same = true
is_same Conflicting = false
is_same Older = false

conflicting_apart : Conflicting ≡ Same → ⊥
unfolding is_same
conflicting_apart e = false≢true (ap is_same e)

newer_apart : Newer ≡ Same → ⊥
unfolding is_same
newer_apart e = false≢true (ap is_same e)

bytes_long : (bytes : List ℕ) (at : ℕ) → at + 16 ≤ length bytes → length (bytes_at bytes at) ≡ 16
bytes_long bytes at l = length-take-le 16 (drop at bytes) (omega (arith, length-drop at bytes))

module _ (own : ℕ) (bytes : List ℕ) (at : ℕ) (x : Notes) (room : Room own bytes x) (here : RecordRoom bytes at) (k : ℕ) (k_is : k ≡ get_or bytes at 0) where
  station_is : (record_at bytes at).station ≡ k
  station_is = station_at bytes at ∙ sym k_is

  abbrev place : ℕ
  place = get_or x.places k 0

  -- what is decided of the record beside the one at its station's place
  abbrev age : Age
  age =
      age_beside (holds_at x.places k) (record_at bytes place) (record_at bytes at) k (same_bytes (bytes_at bytes place) (bytes_at bytes at))

  below : k < size_in bytes
  below = omega (arith, k_is, here.station)

  -- where one is held, of the same label and count, the bytes tell whether the two agree
  equal_is :
      holds_at x.places k ≡ true → (record_at bytes at).count ≡ (record_at bytes place).count →
      agree (size_in bytes) (record_at bytes place) (record_at bytes at) ≡ same_bytes (bytes_at bytes place) (bytes_at bytes at)
  equal_is held count =
      same_agree (size_in bytes) (bytes_at bytes place) (bytes_at bytes at) (bytes_long bytes place (room.inside k below))
      (bytes_long bytes at here.room) (room.written k below held) here.written
      (station_at bytes place ∙ room.station k below held ∙ sym station_is) (sym count)

  module _ (s : Station) (h : Hearing) (name : Named s (size_in bytes) own) (c : StandsFor s bytes x h) (shape : Shaped h.station) where
    under : (record_at bytes at).station < s.n
    under = omega (arith, station_is, below, name.n_is)

    most : s.n ≤ 16
    most = omega (arith, name.n_is, room.high)

    not_own : (k ≡ own → ⊥) → (record_at bytes at).station ≡ s.own → ⊥
    not_own other z = other (sym station_is ∙ z ∙ name.own_is)

    -- the code decides what the station decides
    age_is : age_in h.station (record_at bytes at) ≡ age
    age_is =
        age_stands s most bytes x h c shape (record_at bytes at) under
        ∙ (λ i.
        age_beside (holds_at x.places (station_is i)) (record_at bytes (get_or x.places (station_is i) 0)) (record_at bytes at) (station_is i)
        (agree (name.n_is i) (record_at bytes (get_or x.places (station_is i) 0)) (record_at bytes at)))
        ∙ go (holds_at x.places k) refl
      where
        o : Record
        o = record_at bytes place

        r : Record
        r = record_at bytes at

        equal : Bool
        equal = same_bytes (bytes_at bytes place) (bytes_at bytes at)

        go :
            (t : Bool) → holds_at x.places k ≡ t →
            age_beside t o r k (agree (size_in bytes) o r) ≡ age_beside t o r k equal
        go true e =
            age_level true (record_label o k) o.count (record_label r k) r.count (agree (size_in bytes) o r) equal
            (λ label count. equal_is e count)
        go false e =
            age_none false (record_label o k) o.count (record_label r k) r.count (agree (size_in bytes) o r) refl
            ∙ sym (age_none false (record_label o k) o.count (record_label r k) r.count equal refl)

  case_own : k ≡ own → HearsRecord own bytes at x x
  case_own i =
      record {
        hears =
            λ s h name c shape calm.
            stands_own s (most s h name c shape) bytes x h c shape (record_at bytes at) (under s h name c shape)
            (station_is ∙ i ∙ sym name.own_is);
      }

  module _ (other : k ≡ own → ⊥) where
    case_same : age ≡ Same → HearsRecord own bytes at x x
    case_same e =
        record {
          hears =
              λ s h name c shape calm.
              stands_same s (most s h name c shape) bytes x h c shape (record_at bytes at) (under s h name c shape)
              (not_own s h name c shape other) (age_is s h name c shape ∙ e);
        }

    case_older : age ≡ Older → HearsRecord own bytes at x x
    case_older e =
        record {
          hears =
              λ s h name c shape calm.
              stands_older s (most s h name c shape) bytes x h c shape (record_at bytes at) (under s h name c shape)
              (not_own s h name c shape other) (age_is s h name c shape ∙ e);
        }

    case_conflicting : age ≡ Conflicting → HearsRecord own bytes at x (stopped_notes x)
    case_conflicting e =
        record {
          hears =
              λ s h name c shape calm.
              stands_conflicting s (most s h name c shape) bytes x h c shape (record_at bytes at) (under s h name c shape)
              (not_own s h name c shape other) (age_is s h name c shape ∙ e);
        }

    case_conflicting_room : Room own bytes (stopped_notes x)
    case_conflicting_room =
        record {
          high = room.high;
          own_below = room.own_below;
          short = room.short;
          places_long = room.places_long;
          inside = room.inside;
          station = room.station;
          written = room.written;
          lanes = room.lanes;
          taken = room.taken;
        }

    -- where the lane has fewer than two there is room for a taking
    case_room : get_or x.lens k 0 < 2 → x.ear.len < takings_room
    case_room = taking_room (size_in bytes) own x.lens x.taken x.ear.len room.high room.own_below room.lanes k below other

    case_newer : 0 < at → age ≡ Newer → HearsRecord own bytes at x (noted own at (record_at bytes at) x)
    case_newer some e =
        record {
          hears =
              λ s h name c shape calm.
              stands_newer s (most s h name c shape) own name.own_is bytes x h c shape room.places_long room.lanes.lens_long at
              (under s h name c shape) (λ z. absurd (omega (arith, z, some)))
              (subst (λ (j : ℕ). get_or x.lens j 0 ≤ 2) (sym station_is) (room.lanes.two k below))
              (λ z.
              omega (arith, room.lanes.taken_long, case_room (subst (λ (j : ℕ). get_or x.lens j 0 < 2) station_is z)))
              calm (not_own s h name c shape other) (age_is s h name c shape ∙ e);
        }

    case_newer_room : Room own bytes (noted own at (record_at bytes at) x)
    case_newer_room =
        newer_room own bytes x room at here (record_at bytes at) (station_at bytes at) (λ z. other (sym station_is ∙ z))

  -- what the code decides, the own record among it
  own_same : k ≡ own → age_at own bytes place at k ≡ Same
  unfolding age_at
  own_same i = rw (eq-eqb k own i)

  other_aged : (k ≡ own → ⊥) → age_at own bytes place at k ≡ age
  unfolding age_at
  other_aged d = rw (ne_eqb k own d)

  -- where it is not the same, the record is of another station
  not_same : (a : Age) → (a ≡ Same → ⊥) → age_at own bytes place at k ≡ a → k ≡ own → ⊥
  not_same a d e i = d (sym e ∙ own_same i)

  pub passed_same : age_at own bytes place at k ≡ Same → HearsRecord own bytes at x x
  passed_same e =
      elim (ℕ_discrete k own) [
        | yes i ↦ case_own i
        | no d ↦ case_same d (sym (other_aged d) ∙ e)
      ]

  pub passed_older : age_at own bytes place at k ≡ Older → HearsRecord own bytes at x x
  passed_older e =
      elim (ℕ_discrete k own) [
        | yes i ↦ case_own i
        | no d ↦ case_older d (sym (other_aged d) ∙ e)
      ]

  pub conflicted :
      age_at own bytes place at k ≡ Conflicting → HearsRecord own bytes at x (stopped_notes x) × Room own bytes (stopped_notes x)
  conflicted e =
      let d = not_same Conflicting conflicting_apart e in
      (case_conflicting d (sym (other_aged d) ∙ e), case_conflicting_room d)

  module _ (newer : age_at own bytes place at k ≡ Newer) where
    other : k ≡ own → ⊥
    other = not_same Newer newer_apart newer

    pub heeded_room : get_or x.lens k 0 < 2 → x.ear.len < takings_room
    heeded_room = case_room other

    pub heeded :
        0 < at → HearsRecord own bytes at x (noted own at (record_at bytes at) x) × Room own bytes (noted own at (record_at bytes at) x)
    heeded some = (case_newer other some (sym (other_aged other) ∙ newer), case_newer_room other)
