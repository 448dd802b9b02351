-- Every step of a station keeps what its types say: the lengths of its arrays, that the numbers of
-- its bodies have 32 bits, and that the labels of its records are a word. Each step is made of
-- setters, and a setter puts in what fits already.
use mathlib.Core.Path.{◌≡◌, refl, sym, ap, subst, ◌∙◌}
use mathlib.Core.Bool.{Bool, true, false, cond}
use mathlib.Core.List.{List, [], ◌∷◌}
use Prim.Native.Nat.{ℕ, ◌-◌, ◌<◌, ◌≤◌}
use native.Mathlib.Decide.{ℕ_discrete}
use native.Mathlib.Omega.{arith}
use lib.Dec.{eqb, ltb}
use lib.ListN.{get_or}
use borrow.Author.Tests.{ltb-true, ltb-false, leb-true}
use Rattle.bodies.specs.declared.Body.{Body}
use Rattle.bodies.specs.declared.Body.TheVariants.{Empty, Neutral}
use Rattle.bodies.specs.Body.{is_empty}
use Rattle.lists.proofs.Keeps.{cond_keeps}
use Rattle.labels.proofs.PackingLaws.{label_less, over_less}
use Rattle.labels.specs.Label.{is_label}
use Rattle.frame_spec.specs.declared.Record.{Record}
use Rattle.frame_spec.specs.Record.{record_label}
use Rattle.queues.specs.declared.Lane.{Lane}
use Rattle.queues.specs.declared.Waiting.{Waiting}
use Rattle.queues.specs.Lane.{pushed, popped}
use Rattle.queues.specs.Waiting.{waiting_count, with_posted, next_edit, without_next}
use Rattle.station_spec.specs.declared.Station.{Station}
use Rattle.station_spec.specs.declared.Setup.{Setup}
use Rattle.station_spec.specs.State.{fresh_labels, fresh_record, fresh_station, Cell, cell_of, label_of, record_of, lane_at, with_entry, with_lane, with_waiting, with_broadcast, with_cell, with_acked, with_lanes}
use Rattle.station_spec.specs.Limits.{station_inside}
use Rattle.bodies.specs.Refusals.{done}
use Rattle.labels.specs.declared.Age.{Age}
use Rattle.labels.specs.declared.Age.TheVariants.{Newer, Same, Conflicting, Older}
use Rattle.station_spec.specs.Hearing.{Hearing, takes, replaced, age_in, heard_as, heard_newer, hear_record, hear_records, hear_frame}
use Rattle.station_spec.specs.Turn.{airs, after_airing, broadcast_ends, may_start, starts_edit, started_body, begins, takes_own, after_end, own_record, with_own_record, after_turn}
use Rattle.station_spec.specs.Calls.{posted}
use Rattle.station_spec.proofs.Setters.{Shaped, fresh_at, fresh_word, fresh_self, fresh_own, fresh_other, with_ack, waiting_cell, broadcast_cell, cell_self, cell_here, cell_other, acked_self, acked_below, acked_above, acked_shaped, lanes_self, lanes_below, lanes_above, broadcast_shaped}
use Rattle.station_spec.proofs.Shape.{heard_newer-shaped, aired_self, aired_shaped, begins-shaped, after_end-shaped, with_own_record-shaped}
use Rattle.station_spec.proofs.StationLimits.{inside_open}
use Rattle.station_spec.proofs.LimitsTurn.{turn_inside}
use Rattle.station_bytes_spec.proofs.Body.{BodyFits, RecordFits}
use Rattle.station_bytes_spec.proofs.Station.{CellFits}
use Rattle.station_bytes_spec.proofs.Bodies.{empty_fits, neutral_fits, none_fit, LaneFits, pushed_fits, popped_fits, EditsFit, posted_fit, started_fit, next_fits}

-- the numbers of a station's bodies and records fit
pub record Fitting (s : Station) : Type 0 where
  pub body : BodyFits s.body
  pub cells : (k : ℕ) → k < 16 → CellFits (cell_of s k)
  pub edits : EditsFit s.waiting

lane_of : (c : Cell) → CellFits c → LaneFits c.lane
lane_of c f = record { first = f.first_fits; second = f.second_fits }

cell_of_lem : (c : Cell) → RecordFits c.entry → LaneFits c.lane → CellFits c
cell_of_lem c e l = record { entry_fits = e; first_fits = l.first; second_fits = l.second }

-- ---- setters

module _ (s : Station) (f : Fitting s) where
  pub waiting-fitting : (w : Waiting) → EditsFit w → Fitting (with_waiting s w)
  waiting-fitting w e =
      record { body = f.body; cells = λ k l. subst CellFits (sym (waiting_cell s w k)) (f.cells k l); edits = e }

  pub broadcast_fitting : (b : Body) (count : ℕ) → BodyFits b → Fitting (with_broadcast s b count)
  broadcast_fitting b count g =
      record { body = g; cells = λ k l. subst CellFits (sym (broadcast_cell s b count k)) (f.cells k l); edits = f.edits }

  pub cell-fitting : Shaped s → (k : ℕ) (c : Cell) → CellFits c → Fitting (with_cell s k c)
  cell-fitting shape k c g =
      record {
        body = subst BodyFits (sym (cell_self s k c).body) f.body;
        cells = λ j l.
            elim (ℕ_discrete j k) [
              | yes e ↦
                  subst (λ (i : ℕ). CellFits (cell_of (with_cell s k c) i)) (sym e)
                  (subst CellFits (sym (cell_here s k c shape (omega arith))) g)
              | no d ↦ subst CellFits (sym (cell_other s k c j d)) (f.cells j l)
            ];
        edits = subst EditsFit (sym (cell_self s k c).waiting) f.edits;
      }

  pub acked_fitting : Shaped s → s.n ≤ 16 → (acked : ℕ → Bool) → Fitting (with_acked s acked)
  acked_fitting shape high acked =
      record {
        body = subst BodyFits (sym (acked_self s acked).body) f.body;
        cells = λ k l. go k l (ltb k s.n) refl;
        edits = subst EditsFit (sym (acked_self s acked).waiting) f.edits;
      }
    where
      go : (k : ℕ) → k < 16 → (t : Bool) → ltb k s.n ≡ t → CellFits (cell_of (with_acked s acked) k)
      go k l true e =
          subst CellFits (sym (acked_below s acked shape high k (ltb-true k s.n e)))
          (cell_of_lem (with_ack (cell_of s k) (acked k)) (f.cells k l).entry_fits (lane_of (cell_of s k) (f.cells k l)))
      go k l false e = subst CellFits (sym (acked_above s acked k (ltb-false k s.n e))) (f.cells k l)

  pub lanes_fitting : Shaped s → s.n ≤ 16 → (lane : ℕ → Lane) → ((k : ℕ) → k < 16 → LaneFits (lane k)) → Fitting (with_lanes s lane)
  lanes_fitting shape high lane g =
      record {
        body = subst BodyFits (sym (lanes_self s lane).body) f.body;
        cells = λ k l. go k l (ltb k s.n) refl;
        edits = subst EditsFit (sym (lanes_self s lane).waiting) f.edits;
      }
    where
      go : (k : ℕ) → k < 16 → (t : Bool) → ltb k s.n ≡ t → CellFits (cell_of (with_lanes s lane) k)
      go k l true e =
          subst CellFits (sym (lanes_below s lane shape high k (ltb-true k s.n e)))
          (cell_of_lem (with_lane (cell_of s k) (lane k)) (f.cells k l).entry_fits (g k l))
      go k l false e = subst CellFits (sym (lanes_above s lane k (ltb-false k s.n e))) (f.cells k l)

-- ---- fresh

pub fresh_fitting : (setup : Setup) (own : ℕ) → own < 16 → Fitting (fresh_station setup own)
fresh_fitting setup own l =
    record {
      body = subst BodyFits (sym (fresh_self setup own).body) empty_fits;
      cells = go;
      edits = subst EditsFit (sym (fresh_self setup own).waiting) (none_fit setup.limit);
    }
  where
    own_fits : RecordFits (fresh_record own)
    own_fits =
        record {
          labels_fit =
              subst (λ (w : ℕ). w < 4_294_967_296) (sym (fresh_word own))
              (over_less 16 16 (λ k. get_or (fresh_labels own) k 0) 0 (λ j m. omega (arith, fresh_at own j m)) (omega arith) (omega arith));
          body_fits = empty_fits;
        }

    go : (k : ℕ) → k < 16 → CellFits (cell_of (fresh_station setup own) k)
    go k m =
        elim (ℕ_discrete k own) [
          | yes e ↦
              subst (λ (i : ℕ). CellFits (cell_of (fresh_station setup own) i)) (sym e)
              (subst CellFits (sym (fresh_own setup own l)) (record { entry_fits = own_fits; first_fits = empty_fits; second_fits = empty_fits }))
          | no d ↦
              subst CellFits (sym (fresh_other setup own k m d))
              (record {
                entry_fits = record { labels_fit = omega arith; body_fits = empty_fits };
                first_fits = empty_fits;
                second_fits = empty_fits;
              })
        ]

-- ---- post

pub posted-fitting : (s : Station) (d : ℕ) (b : Body) → Fitting s → BodyFits b → Fitting (posted s d b)
unfolding posted
posted-fitting s d b f g = waiting-fitting s f (with_posted s.waiting d b) (posted_fit s.waiting f.edits d b g)

-- ---- hearing

module _ (s : Station) (shape : Shaped s) (f : Fitting s) (high : s.n ≤ 16) (r : Record) (low : r.station < 16) (g : RecordFits r) where
  replaced_fits : (old : Record) → RecordFits old → RecordFits (replaced s.n old r)
  unfolding replaced record_label
  replaced_fits old h =
      record { labels_fit = over_less s.n 16 (record_label r) old.labels (λ j l. label_less r.labels j) high h.labels_fit; body_fits = g.body_fits }

  pub heard_fitting : Fitting (heard_newer s r)
  unfolding heard_newer
  heard_fitting =
      let k = r.station in
      let c = f.cells k low in
      let t = with_broadcast s s.body _ in
      cell-fitting t (broadcast_fitting s f s.body _ f.body) (broadcast_shaped s s.body _ shape) k _
      (cell_of_lem _ (replaced_fits (record_of s k) c.entry_fits)
      (cond_keeps LaneFits (takes s r) (pushed (lane_at s k) r.body) (lane_at s k)
      (pushed_fits (lane_at s k) (lane_of (cell_of s k) c) r.body g.body_fits) (lane_of (cell_of s k) c)))

-- ---- a turn

module _ (s : Station) (shape : Shaped s) (f : Fitting s) (high : s.n ≤ 16) (low : s.own < 16) where
  aired_fitting : Fitting (after_airing s)
  unfolding after_airing
  aired_fitting =
      cond_keeps Fitting (airs s) (with_lanes s (λ k. popped (lane_at s k))) s
      (lanes_fitting s f shape high (λ k. popped (lane_at s k)) (λ k l. popped_fits (lane_at s k) (lane_of (cell_of s k) (f.cells k l)))) f

  started_fits : BodyFits (started_body s)
  unfolding started_body
  started_fits =
      cond_keeps BodyFits (broadcast_ends s) _ Empty
      (cond_keeps BodyFits (may_start s) _ Empty
      (cond_keeps BodyFits (ltb 0 (waiting_count s.waiting)) (next_edit s.waiting) Neutral (next_fits s.waiting f.edits) neutral_fits) empty_fits)
      empty_fits

module _ (s : Station) (shape : Shaped s) (f : Fitting s) (high : s.n ≤ 16) (low : s.own < 16) (b : Body) (g : BodyFits b) where
  begins-fitting : Fitting (begins s b)
  unfolding begins
  begins-fitting =
      let t₁ = with_broadcast s b 0 in
      let f₁ = broadcast_fitting s f b 0 g in
      let s₁ = broadcast_shaped s b 0 shape in
      let t = with_acked t₁ (λ k. eqb k s.own) in
      let f₂ = acked_fitting t₁ f₁ s₁ high (λ k. eqb k s.own) in
      let s₂ = acked_shaped t₁ (λ k. eqb k s.own) s₁ in
      let c = f₂.cells s.own low in
      cell-fitting t f₂ s₂ s.own _ (cell_of_lem _ c.entry_fits (lane_of (cell_of t s.own) c))

  takes_own-fitting : Fitting (takes_own s b)
  unfolding takes_own
  takes_own-fitting =
      let c = f.cells s.own low in
      cond_keeps Fitting (is_empty b) s (with_cell s s.own _) f
      (cell-fitting s f shape s.own _ (cell_of_lem _ c.entry_fits (pushed_fits (lane_at s s.own) (lane_of (cell_of s s.own) c) b g)))

begins_self : (s : Station) (b : Body) → ((begins s b).n ≡ s.n) × ((begins s b).own ≡ s.own)
unfolding begins with_cell with_acked
begins_self s b = (refl, refl)

takes_own_self : (s : Station) (b : Body) → ((takes_own s b).n ≡ s.n) × ((takes_own s b).own ≡ s.own)
unfolding takes_own with_cell
takes_own_self s b = go (is_empty b)
  where
    go :
        (t : Bool) →
        ((cond t s (with_cell s s.own (with_lane (cell_of s s.own) (pushed (lane_at s s.own) b)))).n ≡ s.n)
        × ((cond t s (with_cell s s.own (with_lane (cell_of s s.own) (pushed (lane_at s s.own) b)))).own ≡ s.own)
    go true = (refl, refl)
    go false = (refl, refl)

module _ (s : Station) (shape : Shaped s) (f : Fitting s) (high : s.n ≤ 16) (low : s.own < 16) where
  pub after_end-fitting : Fitting (after_end s)
  unfolding after_end
  after_end-fitting =
      let t = after_airing s in
      let shape₁ = aired_shaped s shape in
      let f₁ = aired_fitting s shape f high low in
      let b = started_body s in
      let g = started_fits s shape f high low in
      let high₁ : t.n ≤ 16 = omega (arith, (aired_self s).n) in
      let low₁ : t.own < 16 = omega (arith, (aired_self s).own) in
      let next = begins t b in
      let f₂ = begins-fitting t shape₁ f₁ high₁ low₁ b g in
      let shape₂ = begins-shaped t b shape₁ in
      let f₃ =
      takes_own-fitting next shape₂ f₂ (omega (arith, (begins_self t b).0)) (omega (arith, (begins_self t b).1)) b g in
      cond_keeps Fitting (broadcast_ends s) _ t
      (waiting-fitting (takes_own next b) f₃ _
      (cond_keeps EditsFit (starts_edit s) (without_next s.waiting) s.waiting (started_fit s.waiting f.edits) f.edits))
      f₁

  after_end_self : ((after_end s).n ≡ s.n) × ((after_end s).own ≡ s.own)
  unfolding after_end
  after_end_self = go (broadcast_ends s)
    where
      a : Station
      a = after_airing s

      go :
          (t : Bool) →
          ((cond t (with_waiting (takes_own (begins a (started_body s)) (started_body s)) (cond (starts_edit s) (without_next s.waiting) s.waiting)) a).n ≡ s.n)
          × ((cond t (with_waiting (takes_own (begins a (started_body s)) (started_body s)) (cond (starts_edit s) (without_next s.waiting) s.waiting)) a).own ≡ s.own)
      go true = (
        (takes_own_self (begins a (started_body s)) (started_body s)).0 ∙ (begins_self a (started_body s)).0 ∙ (aired_self s).n,
        (takes_own_self (begins a (started_body s)) (started_body s)).1 ∙ (begins_self a (started_body s)).1 ∙ (aired_self s).own,
      )
      go false = ((aired_self s).n, (aired_self s).own)

-- the own record rewritten: its labels are labels, for the station after its turn is inside its
-- limits
label_kept : (t : Station) → Shaped t → (k : ℕ) → k < 16 → label_of (with_own_record t) k ≡ label_of t k
unfolding with_own_record
label_kept t shape k l =
    let c = with_entry (cell_of t t.own) (own_record t) in
    elim (ℕ_discrete k t.own) [
      | yes e ↦
          subst (λ (i : ℕ). label_of (with_cell t t.own c) i ≡ label_of t i) (sym e)
          (ap (λ (x : Cell). x.label) (cell_here t t.own c shape (omega arith)))
      | no d ↦ ap (λ (x : Cell). x.label) (cell_other t t.own c k d)
    ]

with_own_record_self : (t : Station) → (with_own_record t).n ≡ t.n
unfolding with_own_record with_cell
with_own_record_self t = refl

module _ (s : Station) (shape : Shaped s) (f : Fitting s) (inside : station_inside s ≡ true) where
  abbrev t : Station
  t = after_end s

  high : s.n ≤ 16
  high = (inside_open s inside).high

  low : s.own < 16
  low = omega (arith, (inside_open s inside).own, (inside_open s inside).high)

  t-fitting : Fitting t
  t-fitting = after_end-fitting s shape f high low

  t_shape : Shaped t
  t_shape = after_end-shaped s shape

  t_size : t.n ≡ s.n
  t_size = (after_end_self s shape f high low).0

  t_own : t.own < 16
  t_own = omega (arith, low, (after_end_self s shape f high low).1)

  after_size : (after_turn s).n ≡ s.n
  unfolding after_turn
  after_size = with_own_record_self t ∙ t_size

  label_small : (k : ℕ) → k < t.n → label_of t k < 4
  unfolding after_turn
  label_small k l =
      let after = inside_open (after_turn s) (turn_inside s shape inside) in
      let few : is_label (label_of (after_turn s) k) ≡ true = (after.places k (omega (arith, after_size, t_size))).label in
      omega (arith, leb-true (label_of (with_own_record t) k) 2 few, label_kept t t_shape k (omega (arith, t_size, high)))

  own_fits : RecordFits (own_record t)
  unfolding own_record
  own_fits =
      record {
        labels_fit =
            over_less t.n 16 (label_of t) (record_of t t.own).labels label_small (omega (arith, t_size, high))
            (t-fitting.cells t.own t_own).entry_fits.labels_fit;
        body_fits = t-fitting.body;
      }

  pub turn_fitting : Fitting (after_turn s)
  unfolding after_turn with_own_record
  turn_fitting =
      cell-fitting t t-fitting t_shape t.own _ (cell_of_lem _ own_fits (lane_of (cell_of t t.own) (t-fitting.cells t.own t_own)))

  pub turn_shaped : Shaped (after_turn s)
  unfolding after_turn
  turn_shaped = with_own_record-shaped t t_shape

-- ---- the records of a frame

pub data AllFit : List Record → Type 0 where
  none : AllFit []
  more : {r : Record} {rs : List Record} → r.station < 16 → RecordFits r → AllFit rs → AllFit (r ∷ rs)

heard_size : (s : Station) (r : Record) → (heard_newer s r).n ≡ s.n
unfolding heard_newer with_cell
heard_size s r = refl

-- what a station that hears keeps
pub record Keeps (s : Station) : Type 0 where
  pub shape : Shaped s
  pub fitting : Fitting s
  pub size : s.n ≤ 16

heard_keeps : (s : Station) → Keeps s → (r : Record) → r.station < 16 → RecordFits r → Keeps (heard_newer s r)
heard_keeps s k r low g =
    record {
      shape = heard_newer-shaped s r k.shape;
      fitting = heard_fitting s k.shape k.fitting k.size r low g;
      size = omega (arith, k.size, heard_size s r);
    }

age-keeps : (h : Hearing) → Keeps h.station → (r : Record) → r.station < 16 → RecordFits r → (a : Age) → Keeps (heard_as h r a).station
unfolding heard_as
age-keeps h k r low g Newer = heard_keeps h.station k r low g
age-keeps h k r low g Same = k
age-keeps h k r low g Conflicting = k
age-keeps h k r low g Older = k

record-keeps : (h : Hearing) → Keeps h.station → (r : Record) → r.station < 16 → RecordFits r → Keeps (hear_record h r).station
unfolding hear_record
record-keeps h k r low g = go (eqb r.station h.station.own)
  where
    go : (t : Bool) → Keeps (cond {A = Hearing} t h (heard_as h r (age_in h.station r))).station
    go true = k
    go false = age-keeps h k r low g (age_in h.station r)

records_keep : (rs : List Record) (h : Hearing) → AllFit rs → Keeps h.station → Keeps (hear_records h rs).station
unfolding hear_records
records_keep [] h none k = k
records_keep (r ∷ rs) h (more low g all) k = records_keep rs (hear_record h r) all (record-keeps h k r low g)

pub frame_keeps : (h : Hearing) (rs : List Record) → AllFit rs → Keeps h.station → Keeps (hear_frame h rs).station
unfolding hear_frame
frame_keeps h rs all k = go (eqb h.refusal done)
  where
    go : (t : Bool) → Keeps (cond t (hear_records h rs) h).station
    go true = records_keep rs h all k
    go false = k
