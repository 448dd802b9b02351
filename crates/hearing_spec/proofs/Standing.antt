-- The notes of hearing stand for the hearing at first, and stay so where a record does nothing or
-- conflicts. What is decided of a record by the bytes at two places is what the station decides,
-- for the record at the held one's place is the one in its table, as far as a decision looks at it.
use Prim.Native.Nat.{ℕ, ◌<◌, ◌≤◌}
use mathlib.Core.Bool.{Bool, true, false, cond}
use mathlib.Core.List.{List, []}
use mathlib.Core.Path.{◌≡◌, refl, sym, ap, ◌∙◌}
use native.Mathlib.Omega.{arith}
use lib.ListN.{get_or}
use Rattle.bodies.specs.Refusals.{done, conflict}
use Rattle.labels.specs.declared.Age.TheVariants.{Same, Conflicting, Older}
use Rattle.labels.specs.Newer.{age_of}
use Rattle.labels.proofs.NewerLaws.{age_none}
use Rattle.frame_spec.specs.declared.Record.{Record}
use Rattle.frame_spec.specs.Record.{framed, record_label}
use Rattle.station_spec.specs.declared.Station.{Station}
use Rattle.station_spec.specs.State.{held_of, record_of, lane_at, own_label}
use Rattle.station_spec.specs.Hearing.{Hearing, initial_hearing, agree, age_in, replaced, hear_record}
use Rattle.station_spec.proofs.HearRecord.{hear_own, hear_same, hear_older, hear_conflicting}
use Rattle.station_spec.proofs.Agree.{agree-replaced}
use Rattle.station_spec.proofs.Setters.{Shaped}
use Rattle.station_spec.proofs.Cells.{replaced_label, replaced_count}
use Rattle.hearing_spec.specs.declared.Ear.{Ear}
use Rattle.hearing_spec.specs.Buffer.{record_at}
use Rattle.hearing_spec.specs.StandsFor.{Notes, notes, holds_at, top_at, StandsFor}
use Rattle.hearing_spec.specs.Heeding.{age_beside}
use Rattle.hearing_spec.proofs.Gathering.{gathered_none, gathered_ext}

-- the notes once a record conflicted
abbrev pub stopped_ear : Ear → Ear
stopped_ear e = record { refusal = conflict; count = e.count; acked = e.acked; labels = e.labels; len = e.len }

abbrev pub stopped_notes : Notes → Notes
stopped_notes x = notes x.places x.lens x.taken (stopped_ear x.ear)

-- at first: the own frame has what the table holds
pub stands_first :
    (s : Station) (bytes : List ℕ) (x : Notes) → s.n ≤ 16 →
    ((k : ℕ) → k < s.n → held_of s k ≡ holds_at x.places k) →
    ((k : ℕ) → k < s.n → top_at s bytes x.places k ≡ framed s.n (record_of s k)) →
    ((k : ℕ) → k < s.n → get_or x.lens k 0 ≡ (lane_at s k).len) →
    x.ear.refusal ≡ done → x.ear.count ≡ s.count → x.ear.acked ≡ s.acked → x.ear.labels ≡ s.labels → x.ear.len ≡ 0 →
    StandsFor s bytes x (initial_hearing s)
stands_first s bytes x most held tops lanes e₁ e₂ e₃ e₄ e₅ =
    record {
      gathered =
          gathered_ext s s [] (λ k. framed s.n (record_of s k)) (top_at s bytes x.places) (λ k l. sym (tops k l)) (gathered_none s most);
      held = held;
      refusal = e₁;
      count = e₂;
      acked = e₃;
      labels = e₄;
      bodies = lanes;
      takings = λ f. rw e₅;
    }

module _ (s : Station) (most : s.n ≤ 16) (bytes : List ℕ) (x : Notes) (h : Hearing) (c : StandsFor s bytes x h) (shape : Shaped h.station)
    (r : Record) (below : r.station < s.n) where
  abbrev k : ℕ
  k = r.station

  abbrev st : Station
  st = h.station

  -- what the record is beside the held one, by the bytes at that one's place
  pub age_stands :
      let o = record_at bytes (get_or x.places k 0) in
      age_in st r ≡ age_beside (holds_at x.places k) o r k (agree s.n o r)
  age_stands = go (holds_at x.places k) refl
    where
      o : Record
      o = record_at bytes (get_or x.places k 0)

      go : (t : Bool) → holds_at x.places k ≡ t → age_in st r ≡ age_beside t o r k (agree s.n o r)
      go true e =
          let is : record_of st k ≡ replaced s.n (record_of s k) o =
          c.gathered.table k below ∙ ap (λ (t : Bool). replaced s.n (record_of s k) (cond t o (framed s.n (record_of s k)))) e in
          let held : held_of st k ≡ true = c.held k below ∙ e in
          let label : record_label (record_of st k) k ≡ record_label o k = ap (λ (q : Record). record_label q k) is ∙ replaced_label s.n (record_of s k) o k below in
          let count : (record_of st k).count ≡ o.count = ap (λ (q : Record). q.count) is ∙ replaced_count s.n (record_of s k) o in
          let equal : agree st.n (record_of st k) r ≡ agree s.n o r =
          (λ i. agree (c.gathered.n i) (is i) r) ∙ agree-replaced s.n (record_of s k) o r in
          λ i. age_of (held i) (label i) (count i) (own_label r) r.count (equal i)
      go false e =
          age_none (held_of st k) (record_label (record_of st k) k) (record_of st k).count (own_label r) r.count (agree st.n (record_of st k) r)
          (c.held k below ∙ e)
          ∙ sym (age_none false (record_label o k) o.count (own_label r) r.count (agree s.n o r) refl)

  -- a record of the hearer itself
  pub stands_own : k ≡ s.own → StandsFor s bytes x (hear_record h r)
  stands_own e = rw (hear_own h r (e ∙ sym c.gathered.own)) c

  module _ (other : k ≡ s.own → ⊥) where
    not_own : k ≡ st.own → ⊥
    not_own z = other (z ∙ c.gathered.own)

    -- one that does nothing
    pub stands_same : age_in st r ≡ Same → StandsFor s bytes x (hear_record h r)
    stands_same e = rw (hear_same h r not_own e) c

    pub stands_older : age_in st r ≡ Older → StandsFor s bytes x (hear_record h r)
    stands_older e = rw (hear_older h r not_own e) c

    -- one that conflicts: the refusal is put down, and nothing else
    pub stands_conflicting : age_in st r ≡ Conflicting → StandsFor s bytes (stopped_notes x) (hear_record h r)
    stands_conflicting e =
        rw (hear_conflicting h r not_own e)
        (record {
          gathered = c.gathered;
          held = c.held;
          refusal = refl;
          count = c.count;
          acked = c.acked;
          labels = c.labels;
          bodies = c.bodies;
          takings = λ z. absurd (omega (arith, z));
        })
