-- A newer record: what it does to the numbers stands for what it does to the station, and the notes
-- keep their room. Its body is taken, put into a lane with fewer than two; or nothing is taken; or
-- the lane has two, and the frame is refused.
use Prim.Native.Nat.{ℕ, suc, max, ◌+◌, ◌*◌, ◌<◌, ◌≤◌}
use mathlib.Core.Bool.{Bool, true, false, cond, not, ◌&&◌, ◌||◌, true≢false}
use mathlib.Core.List.{List, [], ◌∷◌, ◌++◌, append-nil, map, map-append}
use mathlib.Core.Path.{◌≡◌, refl, sym, ap, subst, ◌∙◌}
use native.Mathlib.Decide.{ℕ_discrete}
use native.Mathlib.Numerals.{add-one}
use native.Mathlib.Omega.{arith}
use lib.Dec.{eqb, leb}
use lib.ListN.{get_or, set, take, length, length-set}
use lib.Seq.{get_or-set_same, get_or-set_other, take-suc-set}
use borrow.Author.Tests.{eq-eqb, ne_eqb, leb-true, leb-false}
use Rattle.bodies.specs.Refusals.{done, lane_full, refuse_number}
use Rattle.labels.specs.Label.{successor}
use Rattle.lists.specs.Inner.Total.{total}
use Rattle.lists.proofs.Total.{total_gap, total_raised}
use Rattle.frame_spec.specs.declared.Record.{Record}
use Rattle.queues.specs.declared.Lane.{Lane}
use Rattle.queues.specs.Lane.{pushed}
use Rattle.queues.proofs.LaneLaws.{len_pushed}
use Rattle.queues.proofs.LaneSteps.{push_two}
use Rattle.station_spec.specs.declared.Station.{Station}
use Rattle.station_spec.specs.declared.Taking.{Taking}
use Rattle.station_spec.specs.State.{Cell, label_of, acked_of, held_of, lane_at}
use Rattle.frame_spec.specs.Record.{record_label}
use Rattle.labels.specs.declared.Age.TheVariants.{Newer}
use Rattle.station_spec.specs.Hearing.{Hearing, age_in, advances, takes, overfills, saturating_suc, heard_newer, hear_record}
use Rattle.station_spec.proofs.HearRecord.{heard_one, hear_newer, not_refused}
use Rattle.station_spec.proofs.Setters.{Shaped, acked_at, label_at}
use Rattle.station_spec.proofs.Cells.{heard_count, heard_here, heard_other, heard_acked, heard_labels}
use Rattle.hearing_spec.specs.declared.Ear.{Ear}
use Rattle.hearing_spec.specs.Buffer.{size_in, record_at, taking_at}
use Rattle.hearing_spec.specs.Gathered.{Gathered}
use Rattle.hearing_spec.specs.StandsFor.{Notes, notes, holds_at, top_at, StandsFor}
use Rattle.hearing_spec.specs.Heeding.{ear_advances, ear_takes, ear_puts, lane_has_two, ear_after, lens_after, taken_after}
use Rattle.hearing_spec.specs.Room.{takings_room, Written, LanesRoom, RecordRoom, Room}
use Rattle.hearing_spec.proofs.Gathering.{taking_of, gathered_newer, gathered_ext}

-- the notes after a newer record r at a place
abbrev pub noted : ℕ → ℕ → Record → Notes → Notes
noted own at r x =
    notes (set x.places r.station at) (lens_after x.lens x.ear r) (taken_after x.lens x.taken x.ear r at)
    (ear_after own x.lens x.ear r)

-- where the lane of another station has fewer than two, fewer are taken than there is room for
pub taking_room :
    (n own : ℕ) (lens taken : List ℕ) (len : ℕ) → n ≤ 16 → own < n → LanesRoom n own lens taken len →
    (k : ℕ) → k < n → (k ≡ own → ⊥) → get_or lens k 0 < 2 → len < takings_room
taking_room n own lens taken len high o c k l other room =
    let raised : total n g ≡ suc (total n f) = total_raised n f g k l raised_here raised_other in
    let gap : total n g + 2 ≤ n * 2 = total_gap n 2 g each own o own_none in
    omega (arith, c.few, raised, gap)
  where
    f : ℕ → ℕ
    f j = cond (eqb j own) 0 (get_or lens j 0)

    g : ℕ → ℕ
    g j = cond (eqb j k) (suc (get_or lens k 0)) (f j)

    raised_here : g k ≡ suc (f k)
    raised_here = rw (eq-eqb k k refl, ne_eqb k own other)

    raised_other : (j : ℕ) → j < n → (j ≡ k → ⊥) → g j ≡ f j
    raised_other j b d = rw (ne_eqb j k d)

    own_none : g own ≡ 0
    own_none = rw (ne_eqb own k (λ z. other (sym z)), eq-eqb own own refl)

    each : (j : ℕ) → j < n → g j ≤ 2
    each j b =
        elim (ℕ_discrete j k) [
          | yes i ↦ rw (eq-eqb j k i) (omega arith)
          | no d ↦ rw (ne_eqb j k d) (go (eqb j own))
        ]
      where
        go : (t : Bool) → cond t 0 (get_or lens j 0) ≤ 2
        go true = omega arith
        go false = c.two j b

-- as many takings as there is room for
pub takings_most :
    (n own : ℕ) (lens taken : List ℕ) (len : ℕ) → n ≤ 16 → own < n → LanesRoom n own lens taken len → len ≤ takings_room
takings_most n own lens taken len high o c =
    let gap : total n f + 2 ≤ n * 2 = total_gap n 2 f each own o (rw (eq-eqb own own refl)) in
    omega (arith, c.few, gap)
  where
    f : ℕ → ℕ
    f j = cond (eqb j own) 0 (get_or lens j 0)

    each : (j : ℕ) → j < n → f j ≤ 2
    each j b = go (eqb j own)
      where
        go : (t : Bool) → cond t 0 (get_or lens j 0) ≤ 2
        go true = omega arith
        go false = c.two j b

-- while no record of the frame conflicted, a full lane's refusal is the larger one
full_larger : (full : Bool) (refusal : ℕ) → refusal ≤ lane_full → refuse_number full lane_full refusal ≡ max refusal (refuse_number full lane_full done)
full_larger true refusal l = omega arith
full_larger false refusal l = omega arith

pub after_calm : (own : ℕ) (lens : List ℕ) (e : Ear) (r : Record) → e.refusal ≤ lane_full → (ear_after own lens e r).refusal ≤ lane_full
unfolding ear_after
after_calm own lens e r l = go (ear_takes e r && lane_has_two lens r)
  where
    go : (full : Bool) → refuse_number full lane_full e.refusal ≤ lane_full
    go true = omega arith
    go false = l

-- a lane of two that gets a third has two
len_full : (l : Lane) (b : _) → 2 ≤ l.len → (pushed l b).len ≡ 2
len_full l b h = ap (λ (z : Lane). z.len) (sym (push_two l b h))

module _ (s : Station) (most : s.n ≤ 16) (own : ℕ) (mine : s.own ≡ own) (bytes : List ℕ) (x : Notes) (h : Hearing) (c : StandsFor s bytes x h)
    (shape : Shaped h.station) (places_long : length x.places ≡ 16) (lens_long : length x.lens ≡ 16) (at : ℕ)
    (below : (record_at bytes at).station < s.n) (some : at ≡ 0 → ⊥) (two : get_or x.lens (record_at bytes at).station 0 ≤ 2)
    (room : get_or x.lens (record_at bytes at).station 0 < 2 → x.ear.len < length x.taken) (calm : h.refusal ≤ lane_full) where
  abbrev r : Record
  r = record_at bytes at

  abbrev k : ℕ
  k = r.station

  abbrev st : Station
  st = h.station

  abbrev y : Notes
  y = noted own at r x

  -- the tests on numbers are those on the station
  label_is : (j : ℕ) → get_or x.ear.labels j 0 ≡ label_of st j
  label_is j = ap (λ (l : List ℕ). get_or l j 0) c.labels ∙ label_at st j

  advances_is : ear_advances x.ear r ≡ advances st r
  advances_is = ap (λ (l : ℕ). eqb (record_label r k) (successor l)) (label_is k)

  takes_is : ear_takes x.ear r ≡ takes st r
  takes_is = rw advances_is

  two_is : lane_has_two x.lens r ≡ leb 2 (lane_at st k).len
  two_is = ap (leb 2) (c.bodies k below)

  -- the table
  top_here : top_at s bytes y.places k ≡ r
  top_here = rw (get_or-set_same x.places k at 0 (omega arith), ne_eqb at 0 some)

  top_other : (j : ℕ) → (j ≡ k → ⊥) → top_at s bytes y.places j ≡ top_at s bytes x.places j
  top_other j d = rw (get_or-set_other x.places k j at 0 d)

  tops : (j : ℕ) → j < s.n → cond (eqb j k) r (top_at s bytes x.places j) ≡ top_at s bytes y.places j
  tops j l =
      elim (ℕ_discrete j k) [
        | yes i ↦ rw (i, eq-eqb k k refl) (sym top_here)
        | no d ↦ rw (ne_eqb j k d) (sym (top_other j d))
      ]

  held' : (j : ℕ) → j < s.n → held_of (heard_newer st r) j ≡ holds_at y.places j
  held' j l =
      elim (ℕ_discrete j k) [
        | yes i ↦
            rw (i, get_or-set_same x.places k at 0 (omega arith), ne_eqb at 0 some)
            (ap (λ (z : Cell). z.held) (heard_here st r shape (omega arith)))
        | no d ↦ rw (get_or-set_other x.places k j at 0 d) (ap (λ (z : Cell). z.held) (heard_other st r j d) ∙ c.held j l)
      ]

  gathered' : Gathered s (heard_newer st r) (h.takings ++ taking_of st r) (top_at s bytes y.places)
  gathered' =
      gathered_ext s (heard_newer st r) (h.takings ++ taking_of st r) (λ j. cond (eqb j k) r (top_at s bytes x.places j))
      (top_at s bytes y.places) tops (gathered_newer s most st h.takings (top_at s bytes x.places) c.gathered shape r below)

  -- the numbers
  refusal' : y.ear.refusal ≡ max h.refusal (refuse_number (overfills st r) lane_full done)
  unfolding ear_after
  refusal' = (λ i. refuse_number (takes_is i && two_is i) lane_full (c.refusal i)) ∙ full_larger (overfills st r) h.refusal calm

  count' : y.ear.count ≡ (heard_newer st r).count
  unfolding ear_after
  count' = (λ i. cond (advances_is i) (saturating_suc (c.count i)) (c.count i)) ∙ sym (heard_count st r)

  own_is : own ≡ st.own
  own_is = sym (c.gathered.own ∙ mine)

  acked_is : get_or x.ear.acked k false ≡ acked_of st k
  acked_is = ap (λ (l : List Bool). get_or l k false) c.acked ∙ acked_at st k

  own_label_is : get_or x.ear.labels own 0 ≡ label_of st st.own
  own_label_is = label_is own ∙ ap (label_of st) own_is

  acked' : y.ear.acked ≡ (heard_newer st r).acked
  unfolding ear_after
  acked' =
      (λ i. set (c.acked i) k (acked_is i || eqb (record_label r (own_is i)) (own_label_is i))) ∙ sym (heard_acked st r)

  labels' : y.ear.labels ≡ (heard_newer st r).labels
  unfolding ear_after
  labels' =
      (λ i. set (c.labels i) k (cond (advances_is i) (successor (label_is k i)) (label_is k i))) ∙ sym (heard_labels st r)

  -- the lanes
  bodies' : (j : ℕ) → j < s.n → get_or y.lens j 0 ≡ (lane_at (heard_newer st r) j).len
  unfolding lens_after
  bodies' j l =
      elim (ℕ_discrete j k) [
        | yes i ↦
            rw i
            (ap (λ (t : Bool). get_or (cond (t && not (lane_has_two x.lens r)) more x.lens) k 0) takes_is
            ∙ here (takes st r) (lane_has_two x.lens r) refl
            ∙ ap (λ (z : Cell). z.lane.len) (sym (heard_here st r shape (omega arith))))
        | no d ↦ other (ear_puts x.lens x.ear r) d ∙ c.bodies j l ∙ ap (λ (z : Cell). z.lane.len) (sym (heard_other st r j d))
      ]
    where
      more : List ℕ
      more = set x.lens k (get_or x.lens k 0 + 1)

      here :
          (t u : Bool) → lane_has_two x.lens r ≡ u →
          get_or (cond (t && not u) more x.lens) k 0 ≡ (cond t (pushed (lane_at st k) r.body) (lane_at st k)).len
      here true true e =
          omega (
            arith,
            c.bodies k below,
            leb-true 2 (get_or x.lens k 0) e,
            len_full (lane_at st k) r.body (omega (arith, c.bodies k below, leb-true 2 (get_or x.lens k 0) e)),
          )
      here true false e =
          get_or-set_same x.lens k (get_or x.lens k 0 + 1) 0 (omega arith)
          ∙ omega (
            arith,
            c.bodies k below,
            len_pushed (lane_at st k) r.body (omega (arith, c.bodies k below, leb-false 2 (get_or x.lens k 0) e)),
          )
      here false u e = c.bodies k below

      other : (t : Bool) → (j ≡ k → ⊥) → get_or (cond t more x.lens) j 0 ≡ get_or x.lens j 0
      other true d = get_or-set_other x.lens k j (get_or x.lens k 0 + 1) 0 d
      other false d = refl

  takings' :
      max h.refusal (refuse_number (overfills st r) lane_full done) ≡ done →
      h.takings ++ taking_of st r ≡ map (taking_at bytes) (take y.ear.len y.taken)
  unfolding ear_after taken_after
  takings' fine =
      rw takes_is
      (go (takes st r) (lane_has_two x.lens r) refl (rw (← two_is) at (not_refused (overfills st r) h.refusal fine).0)
      (not_refused (overfills st r) h.refusal fine).1)
    where
      go :
          (t u : Bool) → lane_has_two x.lens r ≡ u → (t && u) ≡ false → h.refusal ≡ done →
          h.takings ++ cond t (taking_at bytes at ∷ []) []
          ≡ map (taking_at bytes) (take (cond (t && not u) (x.ear.len + 1) x.ear.len) (cond (t && not u) (set x.taken x.ear.len at) x.taken))
      go true true e z f = absurd (true≢false z)
      go true false e z f =
          rw (
            add-one x.ear.len,
            take-suc-set x.taken x.ear.len at (room (leb-false 2 (get_or x.lens k 0) e)),
            map-append (taking_at bytes) (take x.ear.len x.taken) (at ∷ []),
          )
          (ap (λ (z : List Taking). z ++ (taking_at bytes at ∷ [])) (c.takings f))
      go false u e z f = append-nil h.takings ∙ c.takings f

  pub stands_newer : (k ≡ s.own → ⊥) → age_in st r ≡ Newer → StandsFor s bytes y (hear_record h r)
  unfolding heard_one
  stands_newer other e =
      rw (hear_newer h r (λ z. other (z ∙ c.gathered.own)) e)
      (record {
        gathered = gathered';
        held = held';
        refusal = refusal';
        count = count';
        acked = acked';
        labels = labels';
        bodies = bodies';
        takings = takings';
      })

-- the room of the notes after a newer record
module _ (own : ℕ) (bytes : List ℕ) (x : Notes) (c : Room own bytes x) (at : ℕ) (here : RecordRoom bytes at) (r : Record)
    (station : r.station ≡ get_or bytes at 0) (other : r.station ≡ own → ⊥) where
  abbrev q : ℕ
  q = r.station

  q_below : q < size_in bytes
  q_below = omega (arith, station, here.station)

  lanes_kept :
      (t u : Bool) → lane_has_two x.lens r ≡ u →
      LanesRoom (size_in bytes) own (cond (t && not u) (set x.lens q (get_or x.lens q 0 + 1)) x.lens)
      (cond (t && not u) (set x.taken x.ear.len at) x.taken) (cond (t && not u) (x.ear.len + 1) x.ear.len)
  lanes_kept true true e = c.lanes
  lanes_kept false u e = c.lanes
  lanes_kept true false e =
      record {
        lens_long = length-set x.lens q (get_or x.lens q 0 + 1) ∙ c.lanes.lens_long;
        taken_long = length-set x.taken x.ear.len at ∙ c.lanes.taken_long;
        two = two;
        few = omega (arith, c.lanes.few, more);
      }
    where
      lens' : List ℕ
      lens' = set x.lens q (get_or x.lens q 0 + 1)

      same : get_or lens' q 0 ≡ get_or x.lens q 0 + 1
      same = get_or-set_same x.lens q (get_or x.lens q 0 + 1) 0 (omega (arith, q_below, c.high, c.lanes.lens_long))

      two : (j : ℕ) → j < size_in bytes → get_or lens' j 0 ≤ 2
      two j l =
          elim (ℕ_discrete j q) [
            | yes i ↦ rw i (omega (arith, same, leb-false 2 (get_or x.lens q 0) e))
            | no d ↦ rw (get_or-set_other x.lens q j (get_or x.lens q 0 + 1) 0 d) (c.lanes.two j l)
          ]

      more : total (size_in bytes) (λ j. cond (eqb j own) 0 (get_or lens' j 0)) ≡ suc (total (size_in bytes) (λ j. cond (eqb j own) 0 (get_or x.lens j 0)))
      more =
          total_raised (size_in bytes) (λ j. cond (eqb j own) 0 (get_or x.lens j 0)) (λ j. cond (eqb j own) 0 (get_or lens' j 0)) q q_below
          (rw (ne_eqb q own other) (same ∙ add-one (get_or x.lens q 0)))
          (λ j l d. ap (λ (m : ℕ). cond (eqb j own) 0 m) (get_or-set_other x.lens q j (get_or x.lens q 0 + 1) 0 d))

  taken_kept :
      (t u : Bool) → lane_has_two x.lens r ≡ u → (i : ℕ) → i < cond (t && not u) (x.ear.len + 1) x.ear.len →
      RecordRoom bytes (get_or (cond (t && not u) (set x.taken x.ear.len at) x.taken) i 0)
  taken_kept true true e i l = c.taken i l
  taken_kept false u e i l = c.taken i l
  taken_kept true false e i l =
      elim (ℕ_discrete i x.ear.len) [
        | yes z ↦ rw (z, get_or-set_same x.taken x.ear.len at 0 len_room) here
        | no d ↦ rw (get_or-set_other x.taken x.ear.len i at 0 d) (c.taken i (omega arith))
      ]
    where
      len_room : x.ear.len < length x.taken
      len_room =
          omega (
            arith,
            c.lanes.taken_long,
            taking_room (size_in bytes) own x.lens x.taken x.ear.len c.high c.own_below c.lanes q q_below other
                (leb-false 2 (get_or x.lens q 0) e),
          )

  pub newer_room : Room own bytes (noted own at r x)
  unfolding ear_after lens_after taken_after
  newer_room =
      record {
        high = c.high;
        own_below = c.own_below;
        short = c.short;
        places_long = length-set x.places q at ∙ c.places_long;
        inside = inside;
        station = stations;
        written = written;
        lanes = lanes_kept (ear_takes x.ear r) (lane_has_two x.lens r) refl;
        taken = taken_kept (ear_takes x.ear r) (lane_has_two x.lens r) refl;
      }
    where
      here_is : (j : ℕ) → j ≡ q → get_or (set x.places q at) j 0 ≡ at
      here_is j i = rw i (get_or-set_same x.places q at 0 (omega (arith, q_below, c.high, c.places_long)))

      other_is : (j : ℕ) → (j ≡ q → ⊥) → get_or (set x.places q at) j 0 ≡ get_or x.places j 0
      other_is j d = get_or-set_other x.places q j at 0 d

      inside : (j : ℕ) → j < size_in bytes → get_or (set x.places q at) j 0 + 16 ≤ length bytes
      inside j l =
          elim (ℕ_discrete j q) [
            | yes i ↦ omega (arith, here_is j i, here.room)
            | no d ↦ rw (other_is j d) (c.inside j l)
          ]

      stations : (j : ℕ) → j < size_in bytes → holds_at (set x.places q at) j ≡ true → get_or bytes (get_or (set x.places q at) j 0) 0 ≡ j
      stations j l h =
          elim (ℕ_discrete j q) [
            | yes i ↦ ap (λ (m : ℕ). get_or bytes m 0) (here_is j i) ∙ sym station ∙ sym i
            | no d ↦ ap (λ (m : ℕ). get_or bytes m 0) (other_is j d) ∙ c.station j l (ap (λ (m : ℕ). not (eqb m 0)) (sym (other_is j d)) ∙ h)
          ]

      written : (j : ℕ) → j < size_in bytes → holds_at (set x.places q at) j ≡ true → Written bytes (get_or (set x.places q at) j 0)
      written j l h =
          elim (ℕ_discrete j q) [
            | yes i ↦ subst (Written bytes) (sym (here_is j i)) here.written
            | no d ↦ subst (Written bytes) (sym (other_is j d)) (c.written j l (ap (λ (m : ℕ). not (eqb m 0)) (sym (other_is j d)) ∙ h))
          ]
