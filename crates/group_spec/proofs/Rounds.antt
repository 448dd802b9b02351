-- All rounds: the fresh group is as round 0 leaves it, what happens between two rounds touches no
-- cell, and a round's hearing and turn lead on. One induction over the rounds.
use Prim.Native.Nat.{ℕ, zero, suc, ◌%◌, ◌<◌}
use mathlib.Core.Path.{◌≡◌, refl, sym, ap, ◌∙◌, subst}
use native.Mathlib.Decide.{ℕ_discrete}
use native.Mathlib.Omega.{arith}
use borrow.Author.Tests.{eq-eqb}
use lib.ListN.{length}
use lib.Dec.{eqb}
use Rattle.links.specs.Relay.{Links}
use Rattle.links.specs.Inner.Clock.{news}
use Rattle.links.specs.Inner.Number.{num, num_of, got, got_of}
use Rattle.links.proofs.Clock.{news_own, news_start}
use Rattle.links.proofs.Number.{num_zero, start_zero}
use Rattle.links.proofs.Hearing.{counted_zero}
use Rattle.links.proofs.Got.{got_none, got_own}
use Rattle.frame_spec.specs.Record.{record_label}
use Rattle.station_spec.specs.declared.Station.{Station}
use Rattle.station_spec.specs.State.{Cell, fresh_record, fresh_station}
use Rattle.station_spec.specs.Turn.{after_turn}
use Rattle.group_spec.specs.State.{station_at, size_of}
use Rattle.group_spec.proofs.Run.{Run, links_of, hearing_in}
use Rattle.station_spec.proofs.Setters.{SameButWaiting, fresh_self, fresh_own, fresh_other, fresh_label_own, fresh_label_other, fresh_shaped}
use Rattle.group_spec.proofs.Members.{fresh_at, fresh_shape}
use Rattle.group_spec.proofs.Through.{through_at, through_length}
use Rattle.group_spec.proofs.Version.{Stands, CellStands, CellAt}
use Rattle.group_spec.proofs.Standing.{Formed}
use Rattle.group_spec.proofs.RoundHeard.{After, hear_round, heard_version_lem}
use Rattle.group_spec.proofs.TurnStep.{turn_step}

module _ (R : Run) where
  abbrev L : Links
  L = links_of R

  -- the waiting edits play no part
  pub after_same : (u p : ℕ) (s t : Station) → SameButWaiting s t → After R u p s → After R u p t
  after_same u p s t e a =
      record {
        formed =
            record {
              size = sym e.n ∙ a.formed.size;
              own = sym e.own ∙ a.formed.own;
              shape = e.shape a.formed.shape;
            };
        body = sym e.body ∙ a.body;
        count = sym e.count ∙ a.count;
        cells = λ q l. subst (λ (c : Cell). CellStands R u p q (news L u p q) c) (e.cells q) (a.cells q l);
      }

  -- the fresh group
  module _ (p : ℕ) (lp : p < R.n) where
    pub first_at : station_at (R.after 0) p ≡ fresh_station R.setup p
    first_at = ap (λ g. station_at g p) R.first ∙ fresh_at R.setup (omega (arith, R.given, R.high)) p (omega (arith, R.given))

    fresh_labels : (q : ℕ) → q < R.n → Dec (q ≡ p) → record_label (fresh_record p) q ≡ got L 0 p q % 3
    fresh_labels q l (yes e) =
        let high = R.high in
        subst (λ i. record_label (fresh_record p) i ≡ got L 0 p i % 3) (sym e)
        (fresh_label_own R.setup p (omega arith) ∙ ap (λ (i : ℕ). i % 3) (sym (got_own L 0 p ∙ num_zero L p)))
    fresh_labels q l (no d) =
        let high = R.high in
        fresh_label_other R.setup p q (omega arith) d
        ∙ ap (λ (i : ℕ). i % 3) (sym (got_none L 0 p q (news_start L p q (λ e. d (sym e)))))

    fresh_cell :
        (q : ℕ) → q < R.n → Dec (q ≡ p) →
        CellAt R 0 p q (news L 0 p q) (fresh_station R.setup p)
    unfolding got_of num_of
    fresh_cell q l (yes e) =
        let high = R.high in
        subst (λ i. CellAt R 0 p i (news L 0 p i) (fresh_station R.setup p))
        (sym e)
        (subst (λ v. CellAt R 0 p p v (fresh_station R.setup p))
        (sym (news_own L 0 p))
        (subst (λ (c : Cell). CellStands R 0 p p 1 c) (sym (fresh_own R.setup p (omega arith)))
        (record {
          is_held = refl;
          is_acked = sym (eq-eqb (got L 0 p p) (num L 0 p) (got_own L 0 p));
          is_label = ap (λ (i : ℕ). i % 3) (sym (num_zero L p));
          stands =
              λ w f.
              subst (λ i. Stands R (fresh_record p) p i) (omega (arith, f))
              (record {
                station = refl;
                count = sym (counted_zero L p);
                body =
                    sym (fresh_self R.setup p).body
                    ∙ ap (λ (s : Station). s.body) (sym first_at)
                    ∙ ap (λ (t : ℕ). (station_at (R.after t) p).body) (sym (start_zero L p));
                labels = λ k b. fresh_labels k b (ℕ_discrete k p);
              });
        })))
    fresh_cell q l (no d) =
        let high = R.high in
        subst (λ v. CellAt R 0 p q v (fresh_station R.setup p))
        (sym (news_start L p q (λ e. d (sym e))))
        (subst (λ (c : Cell). CellStands R 0 p q 0 c) (sym (fresh_other R.setup p q (omega arith) d))
        (record {
          is_held = refl;
          is_acked = ap (λ (m : ℕ). eqb 0 m) (sym (num_zero L p));
          is_label = refl;
          stands = λ w f. absurd (omega (arith, f));
        }))

    fresh_formed : Formed R p (fresh_station R.setup p)
    fresh_formed = record { size = (fresh_self R.setup p).n ∙ R.given; own = (fresh_self R.setup p).own; shape = fresh_shaped R.setup p }

    fresh_after : After R 0 p (station_at (R.after 0) p)
    fresh_after =
        record {
          formed = subst (λ s. Formed R p s) (sym first_at) fresh_formed;
          body = ap (λ (t : ℕ). (station_at (R.after t) p).body) (sym (start_zero L p));
          count = ap (λ (s : Station). s.count) first_at ∙ (fresh_self R.setup p).count ∙ sym (counted_zero L p);
          cells =
              λ q l.
              subst (λ s. CellAt R 0 p q (news L 0 p q) s) (sym first_at)
              (fresh_cell q l (ℕ_discrete q p));
        }

  -- sixteen stations
  pub after_length : (u : ℕ) → length (R.after u) ≡ 16
  after_length zero = ap length R.first ∙ (fresh_shape R.setup (omega (arith, R.given, R.high))).places
  after_length (suc u) =
      ap length (R.step u) ∙ through_length (R.ready u) (R.masks (suc u)) ∙ R.length_ready u ∙ after_length u

  round_station :
      (u p : ℕ) → p < R.n → size_of (R.ready u) ≡ R.n → station_at (R.after (suc u)) p ≡ after_turn (hearing_in R u p).station
  round_station u p lp e =
      let high = R.high in
      ap (λ g. station_at g p) (R.step u)
      ∙ through_at (R.ready u) (R.masks (suc u)) p (omega arith) (omega (arith, R.length_ready u, after_length u))

  -- every round
  pub after_all : (u p : ℕ) → p < R.n → After R u p (station_at (R.after u) p)
  after_all zero p lp = fresh_after p lp
  after_all (suc u) p lp =
      let all : (j : ℕ) → j < R.n → After R u j (station_at (R.ready u) j) =
      λ j l. after_same u j (station_at (R.after u) j) (station_at (R.ready u) j) (R.posts u j) (after_all u j l) in
      turn_step R (hearing_in R u p) u p lp (station_at (R.ready u) p) _ (hear_round R u p lp all)
      (λ q d. heard_version_lem R u p lp all q (λ e. d (sym e)))
      (all p lp).body
      (round_station u p lp (all 0 R.low).formed.size)

  pub ready_all : (u p : ℕ) → p < R.n → After R u p (station_at (R.ready u) p)
  ready_all u p lp = after_same u p (station_at (R.after u) p) (station_at (R.ready u) p) (R.posts u p) (after_all u p lp)

  -- station p after round u + 1
  pub after_at : (u p : ℕ) → p < R.n → station_at (R.after (suc u)) p ≡ after_turn (hearing_in R u p).station
  after_at u p lp = round_station u p lp (ready_all u 0 R.low).formed.size
