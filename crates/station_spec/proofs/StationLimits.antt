-- The limits of a station as facts: what the test says of the station and of each place, and the
-- other way round. Laws about the limits are proved on the facts.
use Prim.Native.Nat.{ℕ, ◌≤◌, ◌<◌}
use native.Mathlib.Omega.{arith}
use mathlib.Core.Bool.{Bool, true, false, cond, not, ◌&&◌, ◌||◌, false≢true}
use mathlib.Core.Path.{◌≡◌, refl, sym, subst}
use lib.Dec.{leb, ltb, eqb}
use borrow.Author.Tests.{leb-true, ltb-true, le-leb, lt-ltb, eqb-true, eq-eqb}
use Rattle.bodies.specs.declared.Body.{Body}
use Rattle.bodies.specs.Limits.{is_edition}
use Rattle.labels.specs.Label.{is_label}
use Rattle.frame_spec.specs.declared.Record.{Record}
use Rattle.frame_spec.specs.Record.{record_label, count_inside, record_limits}
use Rattle.frame_spec.proofs.Limits.{limits_open, limits_make}
use Rattle.frame_spec.specs.Frame.{valid_number}
use Rattle.lists.specs.Below.{all_below}
use Rattle.lists.proofs.Laws.{and_both, and_left, and_right, all_below_at, all_below_make}
use Rattle.station_spec.specs.declared.Station.{Station}
use Rattle.station_spec.specs.State.{Cell, cell_of, label_of, acked_of, held_of, record_of, lane_at}
use Rattle.queues.specs.Queue.{queue_capacity}
use Rattle.queues.specs.Waiting.{waiting_inside, has_room, desk_count, next_desk}
use Rattle.queues.proofs.WaitingLaws.{inside_most, room_most}
use Rattle.station_spec.specs.Limits.{lane_inside, record_inside, allowed, place_inside, station_inside}

-- a record of station k inside the limits of the table of station own
pub record RecordHolds (inside : Body → Bool) (n own k : ℕ) (r : Record) : Type 0 where
  pub station : r.station ≡ k
  pub count : (eqb k own || count_inside n r.count) ≡ true
  pub body : inside r.body ≡ true
  pub labels : (j : ℕ) → j < n → is_label (record_label r j) ≡ true

-- what station own has of station k, inside its limits
pub record CellHolds (inside : Body → Bool) (n own k : ℕ) (c : Cell) : Type 0 where
  pub label : is_label c.label ≡ true
  pub held : c.held ≡ true → RecordHolds inside n own k c.entry
  pub lane : lane_inside inside (cond (eqb k own) 1 2) c.lane ≡ true

abbrev pub PlaceHolds : Station → ℕ → Type 0
PlaceHolds s k = CellHolds (allowed s) s.n s.own k (cell_of s k)

-- a station inside the limits of station `number` among `size`, by a test of bodies
pub record InsideAs (inside : Body → Bool) (size number : ℕ) (s : Station) : Type 0 where
  pub known : s.edition < 2
  pub low : 1 ≤ size
  pub high : size ≤ 16
  pub own : number < size
  pub acked : acked_of s number ≡ true
  pub held : held_of s number ≡ true
  pub body : inside s.body ≡ true
  pub waiting : waiting_inside inside s.waiting ≡ true
  pub places : (k : ℕ) → k < size → CellHolds inside size number k (cell_of s k)

-- inside its limits
abbrev pub Inside : Station → Type 0
Inside s = InsideAs (allowed s) s.n s.own s

pub inside_as :
    (inside : Body → Bool) (n own : ℕ) (s : Station) → allowed s ≡ inside → s.n ≡ n → s.own ≡ own → InsideAs inside n own s → Inside s
inside_as inside n own s g e f c =
    subst (λ (x : Body → Bool). InsideAs x s.n s.own s) (sym g)
    (subst (λ (m : ℕ). InsideAs inside m s.own s) (sym e) (subst (λ (p : ℕ). InsideAs inside n p s) (sym f) c))

or_not_make : (a b : Bool) → (a ≡ true → b ≡ true) → (not a || b) ≡ true
or_not_make true b h = h refl
or_not_make false b h = refl

or_not_use : (a b : Bool) → (not a || b) ≡ true → a ≡ true → b ≡ true
or_not_use true b h e = h
or_not_use false b h e = absurd (false≢true e)

record_open : (inside : Body → Bool) (n own k : ℕ) (r : Record) → record_inside inside n own k r ≡ true → RecordHolds inside n own k r
unfolding record_inside
record_open inside n own k r h =
    let l = limits_open inside n (eqb k own) r (and_right (eqb r.station k) (record_limits inside n (eqb k own) r) h) in
    record {
      station = eqb-true r.station k (and_left (eqb r.station k) (record_limits inside n (eqb k own) r) h);
      count = l.count;
      body = l.body;
      labels = l.labels;
    }

record_make : (inside : Body → Bool) (n own k : ℕ) (r : Record) → k < n → RecordHolds inside n own k r → record_inside inside n own k r ≡ true
unfolding record_inside
record_make inside n own k r b c =
    and_both (eq-eqb r.station k c.station)
    (limits_make inside n (eqb k own) r
    (record { station = rw c.station b; count = c.count; body = c.body; labels = c.labels }))

place_open : (s : Station) (k : ℕ) → place_inside s k ≡ true → PlaceHolds s k
unfolding place_inside
place_open s k h =
    let label = is_label (label_of s k) in
    let recorded = record_inside (allowed s) s.n s.own k (record_of s k) in
    let lane = lane_inside (allowed s) (cond (eqb k s.own) 1 2) (lane_at s k) in
    let front : (label && (not (held_of s k) || recorded)) ≡ true = and_left (label && (not (held_of s k) || recorded)) lane h in
    record {
      label = and_left label (not (held_of s k) || recorded) front;
      held =
          λ e. record_open (allowed s) s.n s.own k (record_of s k)
          (or_not_use (held_of s k) recorded (and_right label (not (held_of s k) || recorded) front) e);
      lane = and_right (label && (not (held_of s k) || recorded)) lane h;
    }

place_make : (s : Station) (k : ℕ) → k < s.n → PlaceHolds s k → place_inside s k ≡ true
unfolding place_inside
place_make s k b c =
    and_both
    (and_both c.label
    (or_not_make (held_of s k) (record_inside (allowed s) s.n s.own k (record_of s k)) (λ e. record_make (allowed s) s.n s.own k (record_of s k) b (c.held e))))
    c.lane

pub inside_open : (s : Station) → station_inside s ≡ true → Inside s
unfolding station_inside
inside_open s h =
    let valid = valid_number s.n s.own in
    let known = is_edition s.edition in
    let acked = acked_of s s.own in
    let held = held_of s s.own in
    let body = allowed s s.body in
    let waiting = waiting_inside (allowed s) s.waiting in
    let places = all_below s.n (place_inside s) in
    let front = valid && known && acked && held && body && waiting in
    let h₆ : front ≡ true = and_left front places h in
    let h₅ : (valid && known && acked && held && body) ≡ true = and_left (valid && known && acked && held && body) waiting h₆ in
    let h₄ : (valid && known && acked && held) ≡ true = and_left (valid && known && acked && held) body h₅ in
    let h₃ : (valid && known && acked) ≡ true = and_left (valid && known && acked) held h₄ in
    let h₂ : (valid && known) ≡ true = and_left (valid && known) acked h₃ in
    let h₁ : valid ≡ true = and_left valid known h₂ in
    let size : (leb 1 s.n && leb s.n 16) ≡ true = and_left (leb 1 s.n && leb s.n 16) (ltb s.own s.n) h₁ in
    record {
      known = ltb-true s.edition 2 (and_right valid known h₂);
      low = leb-true 1 s.n (and_left (leb 1 s.n) (leb s.n 16) size);
      high = leb-true s.n 16 (and_right (leb 1 s.n) (leb s.n 16) size);
      own = ltb-true s.own s.n (and_right (leb 1 s.n && leb s.n 16) (ltb s.own s.n) h₁);
      acked = and_right (valid && known) acked h₃;
      held = and_right (valid && known && acked) held h₄;
      body = and_right (valid && known && acked && held) body h₅;
      waiting = and_right (valid && known && acked && held && body) waiting h₆;
      places =
          λ k l. place_open s k
          (all_below_at s.n (place_inside s) (and_right front places h) k l);
    }

pub inside_make : (s : Station) → Inside s → station_inside s ≡ true
unfolding station_inside
inside_make s c =
    and_both
    (and_both
    (and_both
    (and_both
    (and_both
    (and_both
    (and_both (and_both (le-leb 1 s.n c.low) (le-leb s.n 16 c.high)) (lt-ltb s.own s.n c.own))
    (lt-ltb s.edition 2 c.known))
    c.acked)
    c.held)
    c.body)
    c.waiting)
    (all_below_make s.n (place_inside s) (λ k l. place_make s k l (c.places k l)))

-- what a proof asks most often of a station inside its limits
pub inside_high : (s : Station) → station_inside s ≡ true → s.n ≤ 16
inside_high s h = (inside_open s h).high

pub inside_own : (s : Station) → station_inside s ≡ true → s.own < 16
inside_own s h = let i = inside_open s h in omega (arith, i.high, i.own)

pub inside_room : (s : Station) → station_inside s ≡ true → desk_count s.waiting (next_desk s.waiting) ≤ queue_capacity
inside_room s h = inside_most (allowed s) s.waiting (inside_open s h).waiting (next_desk s.waiting)

pub inside_more : (s : Station) (d : ℕ) → station_inside s ≡ true → has_room s.waiting d ≡ true → desk_count s.waiting d < queue_capacity
inside_more s d h r = room_most (allowed s) s.waiting d (inside_open s h).waiting r
