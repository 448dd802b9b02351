-- A record, and the loop over a frame. A record that has the bytes of the last one of its station
-- is passed over; any other is heard, and is then the last. The invariant at record r: the notes
-- stand for the hearing of the first r records, none of which conflicted, and the record of each
-- station heard last is settled. A record that conflicts ends the frame, for its refusal stays
-- whatever follows.
use Prim.Native.Nat.{ℕ, zero, suc, ◌+◌, ◌-◌, ◌*◌, ◌<◌, ◌≤◌}
use mathlib.Core.List.{List, [], ◌∷◌}
use mathlib.Core.Path.{◌≡◌, sym, ap, subst, ◌∙◌}
use native.Mathlib.Decide.{ℕ_discrete}
use native.Mathlib.Omega.{arith}
use lib.ListN.{get_or, set, take, drop, length-set}
use lib.Seq.{get_or-take, get_or-drop, get_or-set_same, get_or-set_other, drop-drop}
use borrow.Author.Tests.{eq-eqb}
use native.Mathlib.Nat.{zero-add, suc-add}
use Rattle.bodies.specs.Refusals.{done, lane_full, conflict}
use Rattle.lists.specs.Below.{tabulate}
use Rattle.lists.proofs.Laws.{tabulate_ext}
use Rattle.frame_spec.specs.declared.Record.{Record}
use Rattle.frame_spec.specs.Record.{record_from}
use Rattle.frame_spec.specs.Frame.{records_of, part}
use Rattle.station_spec.specs.declared.Station.{Station}
use Rattle.station_spec.specs.Hearing.{Hearing, hear_record, hear_records, hear_frame}
use Rattle.station_spec.proofs.Cells.{hear_records-append, hear_records_one, hear_records_none}
use Rattle.station_spec.proofs.LimitsHearing.{hear_record-shaped}
use Rattle.station_spec.proofs.FrameConflicts.{conflict_stays}
use Rattle.hearing_spec.specs.Buffer.{size_in, record_at, records_at, first_records}
use Rattle.hearing_spec.specs.StandsFor.{Notes, StandsFor, Stands}
use Rattle.hearing_spec.specs.Room.{RecordRoom, Room, LastRoom, FrameRoom}
use Rattle.hearing_spec.specs.Promises.{Named, HearsRecord, HearsNext, HearsFrame}
use Rattle.hearing_spec.proofs.Settled.{repeated, settled_again}

-- the station of the record at a place is its first byte
pub station_at : (bytes : List ℕ) (at : ℕ) → (record_at bytes at).station ≡ get_or bytes at 0
unfolding record_from
station_at bytes at =
    get_or-take 16 (drop at bytes) 0 0 (omega arith) ∙ get_or-drop at bytes 0 0
    ∙ ap (λ (m : ℕ). get_or bytes m 0) (let z : at + 0 ≡ at = omega arith in z)

-- one record more
first_more :
    (h : Hearing) (bytes : List ℕ) (start r : ℕ) →
    hear_records h (first_records bytes start (suc r))
    ≡ hear_record (hear_records h (first_records bytes start r)) (record_at bytes (start + 4 + 16 * r))
unfolding tabulate
first_more h bytes start r =
    hear_records-append h (first_records bytes start r) (record_at bytes (start + 4 + 16 * r) ∷ [])
    ∙ hear_records_one (hear_records h (first_records bytes start r)) (record_at bytes (start + 4 + 16 * r))

first_none : (h : Hearing) (bytes : List ℕ) (start : ℕ) → hear_records h (first_records bytes start 0) ≡ h
unfolding tabulate
first_none h bytes start = hear_records_none h

-- all of them are the frame's
first_all : (bytes : List ℕ) (start : ℕ) → first_records bytes start (get_or (drop start bytes) 2 0) ≡ records_at bytes start
unfolding records_of
first_all bytes start =
    tabulate_ext (get_or (drop start bytes) 2 0) (λ k. record_at bytes (start + 4 + 16 * k)) (λ k. record_from (part (drop start bytes) k))
    (λ k l.
    ap (λ (m : ℕ). record_at bytes m) (let z : start + 4 + 16 * k ≡ start + (4 + 16 * k) = omega arith in z)
    ∙ ap (λ (l : List ℕ). record_from (take 16 l)) (sym (drop-drop (4 + 16 * k) start bytes)))

-- once a record conflicted the others change nothing of the refusal
first_stays :
    (h : Hearing) (bytes : List ℕ) (start r d : ℕ) → (hear_records h (first_records bytes start r)).refusal ≡ conflict →
    (hear_records h (first_records bytes start (d + r))).refusal ≡ conflict
first_stays h bytes start r zero e = rw zero-add e
first_stays h bytes start r (suc d) e =
    rw (suc-add d r, first_more h bytes start (d + r))
    (conflict_stays (hear_records h (first_records bytes start (d + r))) (record_at bytes (start + 4 + 16 * (d + r))) (first_stays h bytes start r d e))

-- a frame that is heard, where none was refused before
pub frame_heard_is : (h : Hearing) (rs : List Record) → h.refusal ≡ done → hear_frame h rs ≡ hear_records h rs
unfolding hear_frame
frame_heard_is h rs e = rw (eq-eqb h.refusal done e)

-- a record at a place, heard or passed over
module _ (own : ℕ) (bytes : List ℕ) (at : ℕ) (here : RecordRoom bytes at) (last : List ℕ) (last_room : LastRoom bytes last) (x : Notes) (room : Room own bytes x) where
  below : (record_at bytes at).station < size_in bytes
  below = rw (station_at bytes at) here.station

  under : (s : Station) (h : Hearing) → Named s (size_in bytes) own → Stands s bytes last x h → (record_at bytes at).station < h.station.n
  under s h i c = omega (arith, below, i.n_is, c.numbers.gathered.n)

  -- it has the bytes of the last one of its station
  pub next_passed :
      take 16 (drop (get_or last (get_or bytes at 0) 0) bytes) ≡ take 16 (drop at bytes) → HearsNext own bytes at last x last x
  next_passed equal =
      record {
        refusal = λ s h i c f. c.numbers.refusal ∙ ap (λ (g : Hearing). g.refusal) (sym (same s h i c));
        stands = λ s h i c f calm. subst (Stands s bytes last x) (sym (same s h i c)) c;
      }
    where
      same :
          (s : Station) (h : Hearing) → Named s (size_in bytes) own → Stands s bytes last x h → hear_record h (record_at bytes at) ≡ h
      same s h i c =
          repeated h (λ k. record_at bytes (get_or last k 0)) c.settled (record_at bytes at) (under s h i c)
          (ap (λ (k : ℕ). record_at bytes (get_or last k 0)) (station_at bytes at) ∙ ap record_from equal)

  -- any other record
  abbrev last' : List ℕ
  last' = set last (get_or bytes at 0) at

  last_here : get_or last' (get_or bytes at 0) 0 ≡ at
  last_here = get_or-set_same last (get_or bytes at 0) at 0 (omega (arith, here.station, room.high, last_room.long))

  pub next_last : LastRoom bytes last'
  next_last =
      record {
        long = length-set last (get_or bytes at 0) at ∙ last_room.long;
        inside =
            λ k l. elim (ℕ_discrete k (get_or bytes at 0)) [
              | yes i ↦ rw (i, last_here) here.room
              | no d ↦ rw (get_or-set_other last (get_or bytes at 0) k at 0 d) (last_room.inside k l)
            ];
      }

  module _ (y : Notes) (does : HearsRecord own bytes at x y) where
    pub next_heard : HearsNext own bytes at last x last' y
    next_heard =
        record { refusal = λ s h i c f. (numbers s h i c f).refusal; stands = λ s h i c f calm. stands s h i c f calm }
      where
        numbers :
            (s : Station) (h : Hearing) → Named s (size_in bytes) own → Stands s bytes last x h → h.refusal ≤ lane_full →
            StandsFor s bytes y (hear_record h (record_at bytes at))
        numbers s h i c f = does.hears s h i c.numbers c.shaped f

        stands :
            (s : Station) (h : Hearing) → Named s (size_in bytes) own → Stands s bytes last x h → h.refusal ≤ lane_full →
            y.ear.refusal ≤ lane_full → Stands s bytes last' y (hear_record h (record_at bytes at))
        stands s h i c f calm =
            let q = record_at bytes at in
            let most : h.station.n ≤ 16 = omega (arith, i.n_is, c.numbers.gathered.n, room.high) in
            record {
              numbers = numbers s h i c f;
              settled =
                  settled_again h (λ k. record_at bytes (get_or last k 0)) c.settled q (under s h i c) c.shaped most
                  (λ z. absurd (omega (arith, z, calm, (numbers s h i c f).refusal)))
                  (λ k. record_at bytes (get_or last' k 0))
                  (ap (λ (k : ℕ). record_at bytes (get_or last' k 0)) (station_at bytes at) ∙ ap (λ (m : ℕ). record_at bytes m) last_here)
                  (λ k d. ap (λ (m : ℕ). record_at bytes m) (get_or-set_other last (get_or bytes at 0) k at 0 (λ z. d (z ∙ sym (station_at bytes at)))));
              shaped = hear_record-shaped h q c.shaped;
            }

-- the invariant at record r, since the notes were x₀ and the places of the last records last₀
pub record FrameInv (own : ℕ) (bytes : List ℕ) (start : ℕ) (last₀ : List ℕ) (x₀ : Notes) (last : List ℕ) (x : Notes) (r : ℕ) : Type 0 where
  pub room : Room own bytes x
  pub last_room : LastRoom bytes last
  pub stands :
      (s : Station) (h : Hearing) → Named s (size_in bytes) own → Stands s bytes last₀ x₀ h → h.refusal ≡ done →
      Stands s bytes last x (hear_records h (first_records bytes start r))
  pub calm :
      (s : Station) (h : Hearing) → Named s (size_in bytes) own → Stands s bytes last₀ x₀ h → h.refusal ≡ done →
      (hear_records h (first_records bytes start r)).refusal ≤ lane_full

-- a record of a frame
pub record_room : (bytes : List ℕ) (start r : ℕ) → FrameRoom bytes start → r < get_or bytes (start + 2) 0 → RecordRoom bytes (start + 4 + 16 * r)
record_room bytes start r frame more =
    record { room = omega (arith, more, frame.room); station = frame.stations r more; written = frame.written r more }

module _ (own : ℕ) (bytes : List ℕ) (start : ℕ) (last₀ : List ℕ) (x₀ : Notes) where
  pub frame_first : Room own bytes x₀ → LastRoom bytes last₀ → FrameInv own bytes start last₀ x₀ last₀ x₀ 0
  frame_first room last =
      record {
        room = room;
        last_room = last;
        stands = λ s h i c f. rw (first_none h bytes start) c;
        calm = λ s h i c f. rw (first_none h bytes start) (omega (arith, f));
      }

  module _ (last : List ℕ) (x : Notes) (r : ℕ) (inv : FrameInv own bytes start last₀ x₀ last x r) where
    -- the end of the frame
    pub frame_end : r ≡ get_or bytes (start + 2) 0 → HearsFrame own bytes start last₀ x₀ last x
    frame_end over = record { refusal = λ s h i c f. (here s h i c f).numbers.refusal; stands = λ s h i c f z. here s h i c f }
      where
        all : r ≡ get_or (drop start bytes) 2 0
        all = omega (arith, over, get_or-drop start bytes 2 0)

        here :
            (s : Station) (h : Hearing) → Named s (size_in bytes) own → Stands s bytes last₀ x₀ h → h.refusal ≡ done →
            Stands s bytes last x (hear_frame h (records_at bytes start))
        here s h i c f =
            subst (λ (g : Hearing). Stands s bytes last x g)
            (ap (λ (m : ℕ). hear_records h (first_records bytes start m)) all ∙ ap (hear_records h) (first_all bytes start)
            ∙ sym (frame_heard_is h (records_at bytes start) f))
            (inv.stands s h i c f)

    -- one record more
    module _ (last' : List ℕ) (y : Notes) (does : HearsNext own bytes (start + 4 + 16 * r) last x last' y) where
      refused :
          (s : Station) (h : Hearing) → Named s (size_in bytes) own → Stands s bytes last₀ x₀ h → h.refusal ≡ done →
          y.ear.refusal ≡ (hear_records h (first_records bytes start (suc r))).refusal
      refused s h i c f =
          does.refusal s (hear_records h (first_records bytes start r)) i (inv.stands s h i c f) (inv.calm s h i c f)
          ∙ ap (λ (g : Hearing). g.refusal) (sym (first_more h bytes start r))

      -- it conflicts
      pub frame_conflicts : r < get_or bytes (start + 2) 0 → y.ear.refusal ≡ conflict → HearsFrame own bytes start last₀ x₀ last' y
      frame_conflicts more e = record { refusal = refusal; stands = λ s h i c f z. absurd (omega (arith, e, z)) }
        where
          all : get_or bytes (start + 2) 0 - suc r + suc r ≡ get_or (drop start bytes) 2 0
          all = omega (arith, more, get_or-drop start bytes 2 0)

          refusal :
              (s : Station) (h : Hearing) → Named s (size_in bytes) own → Stands s bytes last₀ x₀ h → h.refusal ≡ done →
              y.ear.refusal ≡ (hear_frame h (records_at bytes start)).refusal
          refusal s h i c f =
              e
              ∙ sym (first_stays h bytes start (suc r) (get_or bytes (start + 2) 0 - suc r) (sym (refused s h i c f) ∙ e))
              ∙ ap (λ (m : ℕ). (hear_records h (first_records bytes start m)).refusal) all
              ∙ ap (λ (rs : List Record). (hear_records h rs).refusal) (first_all bytes start)
              ∙ ap (λ (g : Hearing). g.refusal) (sym (frame_heard_is h (records_at bytes start) f))

      -- it does not
      pub frame_more :
          Room own bytes y → LastRoom bytes last' → (x.ear.refusal ≤ lane_full → y.ear.refusal ≤ lane_full) →
          FrameInv own bytes start last₀ x₀ last' y (suc r)
      frame_more room last_room fine =
          record {
            room = room;
            last_room = last_room;
            stands =
                λ s h i c f.
                subst (Stands s bytes last' y) (sym (first_more h bytes start r))
                (does.stands s (hear_records h (first_records bytes start r)) i (inv.stands s h i c f) (inv.calm s h i c f) (here s h i c f));
            calm = λ s h i c f. omega (arith, here s h i c f, refused s h i c f);
          }
        where
          here :
              (s : Station) (h : Hearing) → Named s (size_in bytes) own → Stands s bytes last₀ x₀ h → h.refusal ≡ done →
              y.ear.refusal ≤ lane_full
          here s h i c f = fine (omega (arith, (inv.stands s h i c f).numbers.refusal, inv.calm s h i c f))
