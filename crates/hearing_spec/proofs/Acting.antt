-- What a caller of hearing uses: how the notes begin, and that what was heard, taken into the
-- station that began, is the station that has heard.
use Prim.Native.Nat.{ℕ, ◌<◌, ◌≤◌}
use mathlib.Core.Bool.{Bool, true, false}
use mathlib.Core.List.{List}
use mathlib.Core.Path.{◌≡◌, refl, sym, ap, ◌∙◌}
use native.Mathlib.Omega.{arith}
use lib.Dec.{eqb}
use lib.ListN.{get_or}
use borrow.Author.Tests.{eqb-true, not-false}
use Rattle.bodies.specs.Refusals.{done}
use Rattle.frame_spec.specs.Record.{framed}
use Rattle.station_spec.specs.declared.Station.{Station}
use Rattle.station_spec.specs.State.{held_of, record_of}
use Rattle.station_spec.specs.Hearing.{Hearing, initial_hearing}
use Rattle.station_spec.proofs.Setters.{Shaped}
use Rattle.hearing_spec.specs.Buffer.{size_in, record_at}
use Rattle.hearing_spec.specs.Settled.{Settled, AllSettled}
use Rattle.hearing_spec.specs.StandsFor.{Notes, holds_at, top_at, StandsFor, Stands, acts_on}
use Rattle.hearing_spec.specs.Promises.{Named, Hears}
use Rattle.hearing_spec.proofs.Settled.{held_settled}
use Rattle.hearing_spec.proofs.Gathering.{acted_is}
use Rattle.hearing_spec.proofs.FrameLoop.{station_at}

-- where `last` has the places of the own frame, what it names is settled. Byte 0 is N, which is no
-- record's station, so place 0 names nothing
pub settled_first :
    (s : Station) (bytes places : List ℕ) → s.n ≤ 16 → s.n ≡ size_in bytes →
    ((k : ℕ) → k < s.n → held_of s k ≡ holds_at places k) →
    ((k : ℕ) → k < s.n → top_at s bytes places k ≡ framed s.n (record_of s k)) →
    ((k : ℕ) → k < s.n → held_of s k ≡ true → (record_of s k).station ≡ k) → AllSettled s (λ k. record_at bytes (get_or places k 0))
settled_first s bytes places most size held tops stations = record { each = each }
  where
    each : (k : ℕ) → k < s.n → (record_at bytes (get_or places k 0)).station ≡ k → Settled s (record_at bytes (get_or places k 0))
    each k l e = go (holds_at places k) refl
      where
        go : (t : Bool) → holds_at places k ≡ t → Settled s (record_at bytes (get_or places k 0))
        go true h =
            let is : record_at bytes (get_or places k 0) ≡ framed s.n (record_of s k) =
            (let z : top_at s bytes places k ≡ record_at bytes (get_or places k 0) = rw h in sym z ∙ tops k l) in
            rw is (held_settled s k l most (held k l ∙ h) (stations k l (held k l ∙ h)))
        go false h =
            let z : get_or places k 0 ≡ 0 = eqb-true (get_or places k 0) 0 (not-false (eqb (get_or places k 0) 0) h) in
            let w : (record_at bytes 0).station ≡ k = ap (λ (m : ℕ). (record_at bytes m).station) (sym z) ∙ e in
            absurd (omega (arith, w, station_at bytes 0, size))

-- what was heard, taken into the station that began, is the station of the hearing
pub acted_stands :
    (s : Station) (bytes : List ℕ) (x : Notes) (h : Hearing) → StandsFor s bytes x h → Shaped s → Shaped h.station → h.refusal ≡ done →
    acts_on s bytes x ≡ h.station
acted_stands s bytes x h c shape₀ shape fine =
    sym (acted_is s h.station h.takings (top_at s bytes x.places) (holds_at x.places) shape₀ shape c.gathered c.held
    ∙ rw (c.takings fine, c.count, c.acked, c.labels))

-- all of it: notes that stand for silence give, after hearing, the refusal; and where there is
-- none, the station
pub heard_and_acted :
    (s : Station) (bytes : List ℕ) (f : Hearing → Hearing) (x y : Notes) (last : List ℕ) → s.n ≤ 16 → s.n ≡ size_in bytes → Shaped s →
    ((k : ℕ) → k < s.n → held_of s k ≡ holds_at x.places k) →
    ((k : ℕ) → k < s.n → top_at s bytes x.places k ≡ framed s.n (record_of s k)) →
    ((k : ℕ) → k < s.n → held_of s k ≡ true → (record_of s k).station ≡ k) →
    StandsFor s bytes x (initial_hearing s) → Hears s.own bytes f x.places x last y →
    (y.ear.refusal ≡ (f (initial_hearing s)).refusal) × (y.ear.refusal ≡ done → StandsFor s bytes y (f (initial_hearing s)))
    × (y.ear.refusal ≡ done → acts_on s bytes y ≡ (f (initial_hearing s)).station)
heard_and_acted s bytes f x y last most size shape held tops stations begins does =
    let named : Named s (size_in bytes) s.own = record { n_is = size; own_is = refl } in
    let first : Stands s bytes x.places x (initial_hearing s) =
    record { numbers = begins; settled = settled_first s bytes x.places most size held tops stations; shaped = shape } in (
      does.refusal s (initial_hearing s) named first refl,
      λ fine. (does.stands s (initial_hearing s) named first refl fine).numbers,
      λ fine.
          let now = does.stands s (initial_hearing s) named first refl fine in
          acted_stands s bytes y (f (initial_hearing s)) now.numbers shape now.shaped (sym now.numbers.refusal ∙ fine),
    )
