-- How hearing begins, and what comes of it. The own frame has what the table holds, so the notes
-- stand for silence; what the functions of hearing promise of all notes then gives what is heard.
use Prim.Native.Nat.{ℕ, ◌+◌, ◌≤◌, ◌<◌}
use mathlib.Core.Bool.{Bool, true, false, cond}
use mathlib.Core.List.{List}
use mathlib.Core.Path.{◌≡◌, refl, sym, subst, ◌∙◌}
use native.Mathlib.Omega.{arith}
use lib.Dec.{eqb}
use lib.ListN.{get_or, length, replicate}
use Rattle.lists.proofs.Laws.{set_below_inside, length-set_below}
use Rattle.queues.specs.Lane.{no_lane}
use Rattle.station_spec.specs.Limits.{allowed}
use Rattle.station_spec.specs.declared.Station.{Station}
use Rattle.station_spec.specs.State.{cell_of, lane_at}
use Rattle.station_spec.specs.Hearing.{Hearing, initial_hearing}
use Rattle.station_spec.proofs.Setters.{Shaped}
use Rattle.station_spec.proofs.StationLimits.{Inside, inside_open}
use Rattle.station_spec.proofs.LimitsLane.{lane_most}
use Rattle.hearing_spec.specs.declared.Ear.{Ear}
use Rattle.hearing_spec.specs.Buffer.{size_in}
use Rattle.hearing_spec.specs.Room.{takings_room, Room, LastRoom}
use Rattle.hearing_spec.specs.StandsFor.{Notes, notes, StandsFor}
use Rattle.hearing_spec.specs.Promises.{Hears}
use Rattle.hearing_spec.proofs.Standing.{stands_first}
use Rattle.hearing_spec.proofs.Heeding.{takings_most}
use Rattle.hearing_spec.proofs.Acting.{heard_and_acted}
use Rattle.listening.specs.Listened.{Listens}
use Rattle.listening.proofs.OwnFrame.{own_long, own_held, own_top, own_room, own_station, own_written}
use Rattle.listening.specs.OwnPlaces.{places_of}
use Rattle.listening.specs.Begins.{quiet, lens_of, own_places, Beginning}
use Rattle.listening.specs.Listening.{MayListen}

-- the places of its records may be put into sixteen places
pub may_put : (s : Station) (bytes : List ℕ) (start : ℕ) → MayListen s bytes start → size_in bytes ≤ 16
may_put s bytes start may = omega (arith, may.size, (inside_open s may.inside).high)

-- what is put down, as the function goes
pub begins :
    {s : Station} {bytes none put last lens : List ℕ} {ear : Ear} {start : ℕ} → MayListen s bytes start → Shaped s → none ≡ replicate 16 0 →
    put ≡ places_of bytes start none (get_or bytes (start + 2) 0) → last ≡ own_places bytes start → lens ≡ lens_of s → quiet s ≡ ear →
    Beginning s bytes start put last lens ear
begins may shape empty p l e q =
    record { may = may; shape = shape; places_are = sym (rw empty at p); last_is = sym l; lens_are = sym e; ear_is = q }

module _ {s : Station} {bytes : List ℕ} {start : ℕ} {put last lens : List ℕ} {ear : Ear} (b : Beginning s bytes start put last lens ear) where
  may : MayListen s bytes start
  may = b.may

  inside : Inside s
  inside = inside_open s may.inside

  abbrev places : List ℕ
  places = own_places bytes start

  places_long : length places ≡ 16
  places_long = own_long s inside bytes start may.own_room may.own_frame

  places_in : (k : ℕ) → k < s.n → get_or places k 0 + 16 ≤ length bytes
  places_in = own_room s inside bytes start may.own_room may.own_frame

  lens_are : (k : ℕ) → k < 16 → get_or (lens_of s) k 0 ≡ (lane_at s k).len
  unfolding cell_of
  lens_are k l = set_below_inside 16 (λ j. (get_or s.lanes j no_lane).len) (replicate 16 0) k 0 l (omega arith)

  lane_two : (k : ℕ) → k < s.n → (lane_at s k).len ≤ 2
  lane_two k l = go (eqb k s.own) (lane_most (allowed s) (cond (eqb k s.own) 1 2) (lane_at s k) (inside.places k l).lane)
    where
      go : (t : Bool) → (lane_at s k).len ≤ cond t 1 2 → (lane_at s k).len ≤ 2
      go true h = omega arith
      go false h = h

  pub begun_last : LastRoom bytes last
  begun_last = subst (LastRoom bytes) b.last_is (record { long = places_long; inside = λ k l. places_in k (omega (arith, may.size)) })

  module _ (taken : List ℕ) (taken_long : length taken ≡ takings_room) where
    -- what hearing begins with
    abbrev first : Notes
    first = notes places (lens_of s) taken (quiet s)

    first-room : Room s.own bytes first
    first-room =
        record {
          high = omega (arith, may.size, inside.high);
          own_below = omega (arith, may.size, inside.own);
          short = may.short;
          places_long = places_long;
          inside = λ k l. places_in k (omega (arith, may.size));
          station = λ k l. own_station s inside bytes start may.own_room may.own_frame k (omega (arith, may.size));
          written = λ k l. own_written s inside bytes start may.own_room may.own_frame k (omega (arith, may.size));
          lanes =
              record {
                lens_long = length-set_below 16 (λ k. (get_or s.lanes k no_lane).len) (replicate 16 0);
                taken_long = taken_long;
                two = λ k l. two k (omega (arith, may.size));
                few = omega arith;
              };
          taken = λ i l. absurd (omega arith);
        }
      where
        two : (k : ℕ) → k < s.n → get_or (lens_of s) k 0 ≤ 2
        two k l = omega (arith, lens_are k (omega (arith, inside.high)), lane_two k l)

    first_stands : StandsFor s bytes first (initial_hearing s)
    first_stands =
        stands_first s bytes first inside.high
        (own_held s inside bytes start may.own_room may.own_frame)
        (own_top s inside bytes start may.own_room may.own_frame)
        (λ k l. lens_are k (omega (arith, inside.high)))
        refl refl refl refl refl

    -- what was heard
    heard_first :
        (f : Hearing → Hearing) (last' places' lens' taken' : List ℕ) (e : Ear) →
        Hears s.own bytes f places first last' (notes places' lens' taken' e) → Room s.own bytes (notes places' lens' taken' e) →
        Listens s bytes f places' taken' e
    heard_first f last' places' lens' taken' e does room =
        let h =
        heard_and_acted s bytes f first (notes places' lens' taken' e) last' inside.high may.size b.shape
        (own_held s inside bytes start may.own_room may.own_frame)
        (own_top s inside bytes start may.own_room may.own_frame)
        (λ k l held. ((inside.places k l).held held).station)
        first_stands does in
        record {
          readable =
              record {
                high = room.high;
                places_long = room.places_long;
                places_in = room.inside;
                takings = record { long = room.lanes.taken_long; few = takings_most (size_in bytes) s.own lens' taken' e.len room.high room.own_below room.lanes; records = room.taken };
              };
          refusal = h.0;
          station = h.2;
          takings = λ fine. sym ((h.1 fine).takings (sym h.0 ∙ fine));
        }

    -- the same of the notes that were put down
    abbrev begun : Notes
    begun = notes put lens taken ear

    notes_are : ◌≡◌ {A = Notes} first begun
    notes_are i = notes (b.places_are i) (b.lens_are i) taken (b.ear_is i)

    pub begun-room : Room s.own bytes begun
    begun-room = subst (Room s.own bytes) notes_are first-room

    pub listened :
        (f : Hearing → Hearing) (last' places' lens' taken' : List ℕ) (e : Ear) →
        Hears s.own bytes f last begun last' (notes places' lens' taken' e) → Room s.own bytes (notes places' lens' taken' e) →
        Listens s bytes f places' taken' e
    listened f last' places' lens' taken' e does room =
        heard_first f last' places' lens' taken' e
        (subst (λ (x : Notes). Hears s.own bytes f places x last' (notes places' lens' taken' e)) (sym notes_are)
        (subst (λ (l : List ℕ). Hears s.own bytes f l begun last' (notes places' lens' taken' e)) (sym b.last_is) does))
        room
