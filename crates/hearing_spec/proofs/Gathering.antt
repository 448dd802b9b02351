-- Hearing records one after the other leaves in the table the newest record of each station, and in
-- the lanes the takings in order. A newer record replaces one that replaced another, so the last of
-- them decides; each taking is put behind those before it.
use Prim.Native.Nat.{ℕ, ◌<◌, ◌≤◌}
use mathlib.Core.Bool.{Bool, true, false, cond}
use mathlib.Core.List.{List, [], ◌∷◌, ◌++◌}
use mathlib.Core.Path.{◌≡◌, refl, sym, ap, ◌∙◌}
use native.Mathlib.Decide.{ℕ_discrete}
use native.Mathlib.Omega.{arith}
use lib.Dec.{eqb}
use lib.ListN.{get_or, set}
use lib.Seq.{set-get_or}
use borrow.Author.Tests.{eq-eqb, ne_eqb}
use Rattle.lists.specs.Below.{set_below}
use Rattle.frame_spec.specs.declared.Record.{Record}
use Rattle.frame_spec.specs.Record.{framed}
use Rattle.queues.specs.declared.Lane.{Lane}
use Rattle.queues.specs.Lane.{no_lane, pushed}
use Rattle.station_spec.specs.declared.Station.{Station}
use Rattle.station_spec.specs.declared.Taking.{Taking}
use Rattle.station_spec.specs.State.{Cell, held_of, record_of}
use Rattle.station_spec.specs.Hearing.{takes, replaced, heard_newer}
use Rattle.station_spec.proofs.Setters.{Shaped, lane_at_lem, table_made, held_made, station_made}
use Rattle.station_spec.proofs.Cells.{heard_n, heard_own, heard_edition, heard_waiting, heard_body, heard_here, heard_other, heard_lanes, replaced_twice, replaced-framed}
use Rattle.hearing_spec.specs.Gathered.{pushed_all, acted_on, Gathered}

pub pushed_all-append : (l : List Lane) (xs ys : List Taking) → pushed_all l (xs ++ ys) ≡ pushed_all (pushed_all l xs) ys
unfolding pushed_all
pushed_all-append l [] ys = refl
pushed_all-append l (x ∷ xs) ys = pushed_all-append (set l x.source (pushed (get_or l x.source no_lane) x.body)) xs ys

-- the taking of a record, where its body is taken
abbrev pub taking_of : Station → Record → List Taking
taking_of st r = cond (takes st r) (record { source = r.station; body = r.body } ∷ []) []

-- the lanes after a newer record
lanes_heard : (s : Station) (r : Record) → (heard_newer s r).lanes ≡ pushed_all s.lanes (taking_of s r)
unfolding pushed_all
lanes_heard s r = heard_lanes s r ∙ rw (← lane_at_lem s r.station) (go (takes s r))
  where
    lane : Lane
    lane = get_or s.lanes r.station no_lane

    go :
        (t : Bool) →
        set s.lanes r.station (cond t (pushed lane r.body) lane)
        ≡ pushed_all s.lanes (cond t (record { source = r.station; body = r.body } ∷ []) [])
    go true = refl
    go false = set-get_or s.lanes r.station no_lane

pub gathered_ext :
    (s st : Station) (ts : List Taking) (f g : ℕ → Record) → ((k : ℕ) → k < s.n → f k ≡ g k) → Gathered s st ts f → Gathered s st ts g
gathered_ext s st ts f g e c =
    record {
      n = c.n;
      own = c.own;
      edition = c.edition;
      waiting = c.waiting;
      body = c.body;
      table = λ k l. c.table k l ∙ ap (λ (q : Record). replaced s.n (record_of s k) q) (e k l);
      table_above = c.table_above;
      held_above = c.held_above;
      lanes = c.lanes;
    }

module _ (s : Station) (most : s.n ≤ 16) where
  -- at first
  pub gathered_none : Gathered s s [] (λ k. framed s.n (record_of s k))
  unfolding pushed_all
  gathered_none =
      record {
        n = refl;
        own = refl;
        edition = refl;
        waiting = refl;
        body = refl;
        table = λ k l. sym (replaced-framed s.n (record_of s k));
        table_above = λ k l. refl;
        held_above = λ k l. refl;
        lanes = refl;
      }

  -- one newer record
  pub gathered_newer :
      (st : Station) (ts : List Taking) (tops : ℕ → Record) → Gathered s st ts tops → Shaped st → (r : Record) → r.station < s.n →
      Gathered s (heard_newer st r) (ts ++ taking_of st r) (λ k. cond (eqb k r.station) r (tops k))
  gathered_newer st ts tops c shape r below =
      record {
        n = heard_n st r ∙ c.n;
        own = heard_own st r ∙ c.own;
        edition = heard_edition st r ∙ c.edition;
        waiting = heard_waiting st r ∙ c.waiting;
        body = heard_body st r ∙ c.body;
        table = table;
        table_above = λ k l. ap (λ (z : Cell). z.entry) (heard_other st r k (λ e. absurd (omega arith))) ∙ c.table_above k l;
        held_above = λ k l. ap (λ (z : Cell). z.held) (heard_other st r k (λ e. absurd (omega arith))) ∙ c.held_above k l;
        lanes =
            lanes_heard st r ∙ ap (λ (l : List Lane). pushed_all l (taking_of st r)) c.lanes
            ∙ sym (pushed_all-append s.lanes ts (taking_of st r));
      }
    where
      table :
          (k : ℕ) → k < s.n → record_of (heard_newer st r) k ≡ replaced s.n (record_of s k) (cond (eqb k r.station) r (tops k))
      table k l =
          elim (ℕ_discrete k r.station) [
            | yes e ↦
                (let here : record_of (heard_newer st r) r.station ≡ replaced s.n (record_of st r.station) r =
                ap (λ (z : Cell). z.entry) (heard_here st r shape (omega arith)) ∙ ap (λ (m : ℕ). replaced m (record_of st r.station) r) c.n in
                rw (e, eq-eqb r.station r.station refl)
                (here ∙ ap (λ (q : Record). replaced s.n q r) (c.table r.station below)
                ∙ replaced_twice s.n (record_of s r.station) (tops r.station) r))
            | no d ↦ rw (ne_eqb k r.station d) (ap (λ (z : Cell). z.entry) (heard_other st r k d) ∙ c.table k l)
          ]

-- so the station is the one that began, with these records, takings and numbers
pub acted_is :
    (s st : Station) (ts : List Taking) (tops : ℕ → Record) (holds : ℕ → Bool) → Shaped s → Shaped st → Gathered s st ts tops →
    ((k : ℕ) → k < s.n → held_of st k ≡ holds k) → st ≡ acted_on s tops holds ts st.count st.acked st.labels
unfolding acted_on
acted_is s st ts tops holds shape₀ shape c held =
    station_made s st (set_below s.n holds s.held) (set_below s.n (λ k. replaced s.n (record_of s k) (tops k)) s.table)
    (pushed_all s.lanes ts)
    (record { n = c.n; own = c.own; edition = c.edition; waiting = c.waiting; body = c.body; count = refl })
    (held_made s st shape₀ shape s.n holds held c.held_above)
    (table_made s st shape₀ shape s.n (λ k. replaced s.n (record_of s k) (tops k)) c.table c.table_above)
    c.lanes
