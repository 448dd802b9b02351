-- A station while it hears. One fold carries all of it: N, the own number, the waiting edits, the
-- body and the own lane stay; the shape and the limits are kept as long as no frame is refused; and
-- every taking stands in a lane of another station, so from silence on there are at most 30.
use Prim.Native.Nat.{ℕ, suc, max, ◌+◌, ◌*◌, ◌≤◌, ◌<◌}
use mathlib.Core.Bool.{Bool, true, false, cond}
use mathlib.Core.List.{List, [], ◌∷◌, ◌++◌, append-nil}
use mathlib.Core.Path.{◌≡◌, refl, sym, ap, subst, ◌∙◌}
use native.Mathlib.Decide.{ℕ_discrete}
use native.Mathlib.Omega.{arith}
use lib.Dec.{eqb}
use lib.ListN.{length, length-append}
use borrow.Author.Tests.{leb-false, eq-eqb, ne_eqb}
use Rattle.bodies.specs.declared.Body.{Body}
use Rattle.bodies.specs.Refusals.{done, lane_full, refuse_number}
use Rattle.frame_spec.specs.declared.Record.{Record}
use Rattle.lists.specs.Inner.Total.{total}
use Rattle.lists.proofs.Keeps.{cond_keeps}
use Rattle.lists.proofs.Total.{total_ext, total_gap, total_raised}
use Rattle.station_spec.specs.declared.Station.{Station}
use Rattle.station_spec.specs.State.{Cell, lane_at}
use Rattle.station_spec.specs.Limits.{allowed, station_inside}
use Rattle.station_spec.specs.Hearing.{Hearing, initial_hearing, takes, overfills, heard_newer, hear_record, hear_records, hear_frame}
use Rattle.station_spec.proofs.BodyLaws.{allowed_same}
use Rattle.station_spec.proofs.HearRecord.{accepts, heard_one, stopped, hear_record_cases, not_refused}
use Rattle.station_spec.proofs.Setters.{Shaped}
use Rattle.station_spec.proofs.Shape.{heard_newer-shaped}
use Rattle.queues.specs.Lane.{pushed}
use Rattle.queues.proofs.LaneLaws.{len_pushed}
use Rattle.station_spec.proofs.LimitsLane.{lane_most}
use Rattle.station_spec.proofs.StationLimits.{Inside, inside_open, inside_make}
use Rattle.station_spec.proofs.Cells.{heard_n, heard_own, heard_edition, heard_waiting, heard_body, heard_here, heard_other}
use Rattle.station_spec.proofs.LimitsHear.{Carried, accepts_other, heard_holds}

-- how many bodies stand in the lane of another station, and in all of those
abbrev other_len : ℕ → Station → ℕ → ℕ
other_len own s k = cond (eqb k own) 0 (lane_at s k).len

unfoldable pub other_lens : Station → ℕ
other_lens s = total s.n (other_len s.own s)

pub other_lens_most : (s : Station) → Inside s → other_lens s ≤ 30
unfolding other_lens
other_lens_most s c =
    let gap : total s.n (other_len s.own s) + 2 ≤ s.n * 2 =
    total_gap s.n 2 (other_len s.own s) each s.own c.own (rw (eq-eqb s.own s.own refl)) in
    omega (arith, c.high)
  where
    each : (k : ℕ) → k < s.n → other_len s.own s k ≤ 2
    each k l = go (eqb k s.own) refl
      where
        go : (t : Bool) → eqb k s.own ≡ t → cond t 0 (lane_at s k).len ≤ 2
        go true e = omega arith
        go false e = lane_most (allowed s) 2 (lane_at s k) (rw e at (c.places k l).lane)

module _ (s : Station) (r : Record) (other : r.station ≡ s.own → ⊥) (shape : Shaped s) (b : r.station < 16) where
  len_same : (j : ℕ) → (j ≡ r.station → ⊥) → other_len s.own (heard_newer s r) j ≡ other_len s.own s j
  len_same j ne = ap (λ (c : Cell). cond (eqb j s.own) 0 c.lane.len) (heard_other s r j ne)

  len_here :
      other_len s.own (heard_newer s r) r.station
      ≡ (cond (takes s r) (pushed (lane_at s r.station) r.body) (lane_at s r.station)).len
  len_here = rw (ne_eqb r.station s.own other) (ap (λ (c : Cell). c.lane.len) (heard_here s r shape b))

  lens_heard : other_lens (heard_newer s r) ≡ total s.n (other_len s.own (heard_newer s r))
  unfolding other_lens
  lens_heard = let n = heard_n s r in let own = heard_own s r in λ i. total (n i) (other_len (own i) (heard_newer s r))

  -- nothing is taken
  other_lens_kept : takes s r ≡ false → other_lens (heard_newer s r) ≡ other_lens s
  unfolding other_lens
  other_lens_kept e = lens_heard ∙ total_ext s.n (other_len s.own (heard_newer s r)) (other_len s.own s) each
    where
      each : (k : ℕ) → k < s.n → other_len s.own (heard_newer s r) k ≡ other_len s.own s k
      each k l =
          elim (ℕ_discrete k r.station) [
            | yes same ↦ rw same (len_here ∙ rw (e, ne_eqb r.station s.own other))
            | no ne ↦ len_same k ne
          ]

  -- a body is taken
  other_lens_raised :
      r.station < s.n → takes s r ≡ true → (lane_at s r.station).len < 2 → other_lens (heard_newer s r) ≡ suc (other_lens s)
  unfolding other_lens
  other_lens_raised l e room =
      lens_heard
      ∙ total_raised s.n (other_len s.own s) (other_len s.own (heard_newer s r)) r.station l
      (len_here ∙ rw (e, ne_eqb r.station s.own other) (len_pushed (lane_at s r.station) r.body room))
      (λ k m ne. len_same k ne)

-- what holds of a hearing h that began as a
pub record Hears (a h : Hearing) : Type 0 where
  pub n : h.station.n ≡ a.station.n
  pub own : h.station.own ≡ a.station.own
  pub edition : h.station.edition ≡ a.station.edition
  pub waiting : h.station.waiting ≡ a.station.waiting
  pub body : h.station.body ≡ a.station.body
  pub lane : lane_at h.station a.station.own ≡ lane_at a.station a.station.own
  pub shaped : Shaped h.station
  pub inside : h.refusal ≡ done → Inside h.station
  pub takings : h.refusal ≡ done → length h.takings ≤ length a.takings + other_lens h.station

-- every record of a list may stand in a frame among n
abbrev pub AllCarried : (Body → Bool) → ℕ → List Record → Type 0
AllCarried inside n [] = Unit {0}
AllCarried inside n (r ∷ rs) = Carried inside n r × AllCarried inside n rs

module _ (a : Hearing) (c : Inside a.station) where
  pub hears_none : Shaped a.station → Hears a a
  hears_none shape =
      record {
        n = refl;
        own = refl;
        edition = refl;
        waiting = refl;
        body = refl;
        lane = refl;
        shaped = shape;
        inside = λ f. c;
        takings = λ f. omega arith;
      }

  module _ (h : Hearing) (r : Record) (hs : Hears a h) (carry : Carried (allowed a.station) a.station.n r) where
    here : Carried (allowed h.station) h.station.n r
    here =
        subst (λ (x : Body → Bool). Carried x h.station.n r) (sym (allowed_same h.station a.station hs.edition))
        (subst (λ (m : ℕ). Carried (allowed a.station) m r) (sym hs.n) carry)

    below : r.station < 16
    below = omega (arith, c.high, carry.station)

    takings_most :
        accepts h.station r ≡ true → max h.refusal (refuse_number (overfills h.station r) lane_full done) ≡ done →
        length (h.takings ++ cond (takes h.station r) (record { source = r.station; body = r.body } ∷ []) [])
        ≤ length a.takings + other_lens (heard_newer h.station r)
    takings_most e f = go (takes h.station r) refl
      where
        so_far : length h.takings ≤ length a.takings + other_lens h.station
        so_far = hs.takings (not_refused (overfills h.station r) h.refusal f).1

        go :
            (t : Bool) → takes h.station r ≡ t →
            length (h.takings ++ cond t (record { source = r.station; body = r.body } ∷ []) [])
            ≤ length a.takings + other_lens (heard_newer h.station r)
        go true taken =
            let room : (lane_at h.station r.station).len < 2 =
            leb-false 2 (lane_at h.station r.station).len (rw taken at (not_refused (overfills h.station r) h.refusal f).0) in
            let more : other_lens (heard_newer h.station r) ≡ suc (other_lens h.station) =
            other_lens_raised h.station r (accepts_other h.station r e) hs.shaped below here.station taken room in
            rw (length-append h.takings (record { source = r.station; body = r.body } ∷ [])) (omega (arith, so_far))
        go false passed =
            let same : other_lens (heard_newer h.station r) ≡ other_lens h.station =
            other_lens_kept h.station r (accepts_other h.station r e) hs.shaped below passed in
            rw (append-nil h.takings) (omega (arith, so_far))

    hears_newer : accepts h.station r ≡ true → Hears a (heard_one h r)
    unfolding heard_one
    hears_newer e =
        let apart = not_refused (overfills h.station r) h.refusal in
        record {
          n = heard_n h.station r ∙ hs.n;
          own = heard_own h.station r ∙ hs.own;
          edition = heard_edition h.station r ∙ hs.edition;
          waiting = heard_waiting h.station r ∙ hs.waiting;
          body = heard_body h.station r ∙ hs.body;
          lane =
              ap (λ (x : Cell). x.lane) (heard_other h.station r a.station.own (λ z. accepts_other h.station r e (sym z ∙ sym hs.own))) ∙ hs.lane;
          shaped = heard_newer-shaped h.station r hs.shaped;
          inside =
              λ f. heard_holds h.station r hs.shaped (hs.inside (apart f).1) here e (apart f).0;
          takings = takings_most e;
        }

    -- a refused hearing is as it was
    hears-stopped : Hears a (stopped h)
    hears-stopped =
        record {
          n = hs.n;
          own = hs.own;
          edition = hs.edition;
          waiting = hs.waiting;
          body = hs.body;
          lane = hs.lane;
          shaped = hs.shaped;
          inside = λ f. absurd (omega (arith, f));
          takings = λ f. absurd (omega (arith, f));
        }

    pub hears_record : Hears a (hear_record h r)
    hears_record = hear_record_cases (Hears a) h r hears_newer (λ e. hears-stopped) (λ e f. hs)

  pub hears_records : (h : Hearing) (rs : List Record) → Hears a h → AllCarried (allowed a.station) a.station.n rs → Hears a (hear_records h rs)
  unfolding hear_records
  hears_records h [] hs all = hs
  hears_records h (r ∷ rs) hs all = hears_records (hear_record h r) rs (hears_record h r hs all.0) all.1

  pub hears_frame : (h : Hearing) (rs : List Record) → Hears a h → AllCarried (allowed a.station) a.station.n rs → Hears a (hear_frame h rs)
  unfolding hear_frame
  hears_frame h rs hs all = cond_keeps (Hears a) (eqb h.refusal done) (hear_records h rs) h (hears_records h rs hs all) hs

-- the shape is kept whether or not the station is inside its limits
pub hear_record-shaped : (h : Hearing) (r : Record) → Shaped h.station → Shaped (hear_record h r).station
unfolding heard_one
hear_record-shaped h r c = hear_record_cases (λ x. Shaped x.station) h r (λ e. heard_newer-shaped h.station r c) (λ e. c) (λ e f. c)

pub hear_records-shaped : (h : Hearing) (rs : List Record) → Shaped h.station → Shaped (hear_records h rs).station
unfolding hear_records
hear_records-shaped h [] shape = shape
hear_records-shaped h (r ∷ rs) shape = hear_records-shaped (hear_record h r) rs (hear_record-shaped h r shape)

-- at most two in the lane of each of at most fifteen others
pub takings_bounded : (s : Station) (h : Hearing) → Hears (initial_hearing s) h → h.refusal ≡ done → length h.takings ≤ 30
takings_bounded s h hs f = omega (arith, hs.takings f, other_lens_most h.station (hs.inside f))

pub hear_record_inside :
    (h : Hearing) (r : Record) → Shaped h.station → station_inside h.station ≡ true → Carried (allowed h.station) h.station.n r →
    (hear_record h r).refusal ≡ done → station_inside (hear_record h r).station ≡ true
hear_record_inside h r shape i carry f =
    let c = inside_open h.station i in
    inside_make (hear_record h r).station ((hears_record h c h r (hears_none h c shape) carry).inside f)

pub hear_records_inside :
    (h : Hearing) (rs : List Record) → Shaped h.station → station_inside h.station ≡ true → AllCarried (allowed h.station) h.station.n rs →
    (hear_records h rs).refusal ≡ done → station_inside (hear_records h rs).station ≡ true
hear_records_inside h rs shape i all f =
    let c = inside_open h.station i in
    inside_make (hear_records h rs).station ((hears_records h c h rs (hears_none h c shape) all).inside f)

pub hear_frame_inside :
    (h : Hearing) (rs : List Record) → Shaped h.station → station_inside h.station ≡ true → AllCarried (allowed h.station) h.station.n rs →
    (hear_frame h rs).refusal ≡ done → station_inside (hear_frame h rs).station ≡ true
hear_frame_inside h rs shape i all f =
    let c = inside_open h.station i in
    inside_make (hear_frame h rs).station ((hears_frame h c h rs (hears_none h c shape) all).inside f)

-- the takings of one frame
pub frame_takings_bounded :
    (s : Station) (rs : List Record) → Shaped s → station_inside s ≡ true → AllCarried (allowed s) s.n rs →
    (hear_records (initial_hearing s) rs).refusal ≡ done → length (hear_records (initial_hearing s) rs).takings ≤ 30
frame_takings_bounded s rs shape i all f =
    let c = inside_open s i in
    takings_bounded s (hear_records (initial_hearing s) rs) (hears_records (initial_hearing s) c (initial_hearing s) rs (hears_none (initial_hearing s) c shape) all) f
