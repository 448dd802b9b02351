-- A record that was heard without a conflict is settled: the station does not heed it any more, and
-- it conflicts with nothing. Hearing a record of another station leaves it settled, and hearing a
-- settled record does nothing. So a record that equals the one of its station heard last may be
-- passed over.
use Prim.Native.Nat.{ℕ, ◌<◌, ◌≤◌}
use mathlib.Core.Bool.{Bool, true, false, not, ◌&&◌, and-false}
use mathlib.Core.Path.{◌≡◌, refl, sym, ap, subst, ◌∙◌}
use native.Mathlib.Decide.{ℕ_discrete}
use native.Mathlib.Omega.{arith}
use lib.Dec.{eqb}
use Rattle.bodies.specs.Refusals.{conflict}
use Rattle.labels.proofs.NewerLaws.{newer_self}
use Rattle.labels.specs.Newer.{is_newer}
use Rattle.frame_spec.specs.declared.Record.{Record}
use Rattle.frame_spec.specs.Record.{framed, record_label}
use Rattle.station_spec.specs.declared.Station.{Station}
use Rattle.station_spec.specs.State.{Cell, held_of, record_of, own_label}
use Rattle.station_spec.specs.Hearing.{Hearing, agree, heard_newer, hear_record}
use Rattle.station_spec.proofs.HearRecord.{conflicts, level, heard_one, hear_record_cases, hear_record_skips}
use Rattle.station_spec.proofs.FrameConflicts.{newer_leaves}
use Rattle.station_spec.proofs.Agree.{agree_make, agree-replaced}
use Rattle.station_spec.proofs.Setters.{Shaped}
use Rattle.station_spec.proofs.Cells.{heard_n, heard_own, heard_here, heard_other, replaced_label, replaced_count, framed_station, framed_count, framed_body}
use Rattle.frame_spec.proofs.Labels.{framed_label}
use Rattle.hearing_spec.specs.Settled.{Settled, AllSettled}

none : (a b c : Bool) → (a && (b && (c && false))) ≡ false
none true true true = refl
none true true false = refl
none true false c = refl
none false b c = refl

module _ (s : Station) (r : Record) where
  -- a record that has the own label and the count of the held one, and agrees with it
  pub settled_equal :
      held_of s r.station ≡ true → record_label (record_of s r.station) r.station ≡ own_label r →
      (record_of s r.station).count ≡ r.count → agree s.n (record_of s r.station) r ≡ true → Settled s r
  settled_equal e₁ e₂ e₃ e₄ =
      record {
        passed = rw (e₁, e₂, e₃, newer_self (own_label r) r.count) (and-false (not (eqb r.station s.own)));
        calm = calm;
      }
    where
      k : ℕ
      k = r.station

      calm : conflicts s r ≡ false
      calm =
          ap
          (λ (t : Bool).
          not (eqb k s.own)
          && (not (is_newer (held_of s k) (record_label (record_of s k) k) (record_of s k).count (own_label r) r.count) && (level s r && not t)))
          e₄
          ∙ none (not (eqb k s.own))
          (not (is_newer (held_of s k) (record_label (record_of s k) k) (record_of s k).count (own_label r) r.count)) (level s r)

module _ (s : Station) (r : Record) where
  -- (i) for a newer record
  pub newer_settled : Shaped s → r.station < s.n → s.n ≤ 16 → Settled (heard_newer s r) r
  newer_settled shape below most =
      let here = heard_here s r shape (omega arith) in
      settled_equal (heard_newer s r) r (ap (λ (c : Cell). c.held) here)
      (ap (λ (c : Cell). record_label c.entry r.station) here ∙ replaced_label s.n (record_of s r.station) r r.station below)
      (ap (λ (c : Cell). c.entry.count) here ∙ replaced_count s.n (record_of s r.station) r)
      ((λ i. agree (heard_n s r i) (here i).entry r) ∙ agree-replaced s.n (record_of s r.station) r r
      ∙ agree_make s.n r r refl (λ j l. refl))

  -- (ii) for a newer record
  pub newer_keeps : (q : Record) → (q.station ≡ r.station → ⊥) → Settled s q → Settled (heard_newer s r) q
  newer_keeps q d c =
      let own = heard_own s r in
      let cell = heard_other s r q.station d in
      record {
        passed =
            (λ i.
            not (eqb q.station (own i))
            && is_newer (cell i).held (record_label (cell i).entry q.station) (cell i).entry.count (own_label q) q.count)
            ∙ c.passed;
        calm = newer_leaves s r q d ∙ c.calm;
      }

module _ (h : Hearing) (r : Record) where
  pub record_n : (hear_record h r).station.n ≡ h.station.n
  unfolding heard_one
  record_n =
      hear_record_cases (λ x. x.station.n ≡ h.station.n) h r (λ e. heard_n h.station r) (λ e. refl) (λ e f. refl)

  -- (i) a record that was heard without a conflict is settled
  pub heard_settled :
      Shaped h.station → r.station < h.station.n → h.station.n ≤ 16 → ((hear_record h r).refusal ≡ conflict → ⊥) →
      Settled (hear_record h r).station r
  unfolding heard_one
  heard_settled shape below most =
      hear_record_cases (λ x. (x.refusal ≡ conflict → ⊥) → Settled x.station r) h r (λ e d. newer_settled h.station r shape below most)
      (λ e d. absurd (d refl))
      (λ e f d. record { passed = e; calm = f })

  -- (ii) hearing a record of another station leaves a settled one settled
  pub heard_leaves : (q : Record) → (q.station ≡ r.station → ⊥) → Settled h.station q → Settled (hear_record h r).station q
  unfolding heard_one
  heard_leaves q d c =
      hear_record_cases (λ x. Settled x.station q) h r (λ e. newer_keeps h.station r q d c) (λ e. c) (λ e f. c)

  -- (iii) hearing a settled record does nothing
  pub settled_skips : Settled h.station r → hear_record h r ≡ h
  settled_skips c = hear_record_skips h r c.passed c.calm

-- what a station holds is settled at it, as its frame carries it
pub held_settled :
    (s : Station) (k : ℕ) → k < s.n → s.n ≤ 16 → held_of s k ≡ true → (record_of s k).station ≡ k → Settled s (framed s.n (record_of s k))
held_settled s k below most held e =
    let q = framed s.n (record_of s k) in
    let at : q.station ≡ k = framed_station s.n (record_of s k) ∙ e in
    settled_equal s q (ap (held_of s) at ∙ held)
    (ap (λ (j : ℕ). record_label (record_of s j) j) at ∙ sym (framed_label s.n (record_of s k) k below) ∙ ap (record_label q) (sym at))
    (ap (λ (j : ℕ). (record_of s j).count) at ∙ sym (framed_count s.n (record_of s k)))
    (ap (λ (j : ℕ). agree s.n (record_of s j) q) at
    ∙ agree_make s.n (record_of s k) q (sym (framed_body s.n (record_of s k))) (λ j l. sym (framed_label s.n (record_of s k) j l)))

-- what the loop over a frame uses: a record that equals the last of its station does nothing; any
-- other is settled once it is heard, and is then the last of its station
module _ (h : Hearing) (last : ℕ → Record) (c : AllSettled h.station last) (r : Record) (below : r.station < h.station.n) where
  pub repeated : last r.station ≡ r → hear_record h r ≡ h
  repeated e =
      settled_skips h r
      (subst (λ (q : Record). Settled h.station q) e (c.each r.station below (ap (λ (q : Record). q.station) e)))

  pub settled_again :
      Shaped h.station → h.station.n ≤ 16 → ((hear_record h r).refusal ≡ conflict → ⊥) → (next : ℕ → Record) → next r.station ≡ r →
      ((k : ℕ) → (k ≡ r.station → ⊥) → next k ≡ last k) → AllSettled (hear_record h r).station next
  settled_again shape most fine next e others = record { each = each }
    where
      each : (k : ℕ) → k < (hear_record h r).station.n → (next k).station ≡ k → Settled (hear_record h r).station (next k)
      each k l at =
          elim (ℕ_discrete k r.station) [
            | yes i ↦ rw (i, e) (heard_settled h r shape below most fine)
            | no d ↦
                (let z : (last k).station ≡ k = ap (λ (q : Record). q.station) (sym (others k d)) ∙ at in
                rw (others k d) (heard_leaves h r (last k) (λ w. d (sym z ∙ w)) (c.each k (omega (arith, record_n h r)) z)))
          ]
