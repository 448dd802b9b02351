-- A fresh station is inside its limits, and so is a station that accepts a post: it only gets one
-- more waiting edit.
use Prim.Native.Nat.{ℕ, ◌≤◌, ◌<◌}
use mathlib.Core.Bool.{true, cond, ◌&&◌, true≢false}
use mathlib.Core.Path.{◌≡◌, refl, sym, ap, subst, ◌∙◌}
use native.Mathlib.Decide.{ℕ_discrete}
use native.Mathlib.Omega.{arith}
use lib.Dec.{leb, ltb, eqb}
use borrow.Author.Tests.{leb-true, ltb-true, eq-eqb, le-leb}
use Rattle.bodies.specs.declared.Body.{Body}
use Rattle.bodies.specs.declared.Body.TheVariants.{Empty}
use Rattle.bodies.specs.Limits.{is_edition, may_wait}
use Rattle.frame_spec.specs.Record.{record_label}
use Rattle.frame_spec.specs.Frame.{valid_number}
use Rattle.lists.proofs.Laws.{and_left, and_right}
use Rattle.station_spec.specs.declared.Setup.{Setup}
use Rattle.station_spec.specs.declared.Station.{Station}
use Rattle.queues.specs.Waiting.{limit_inside, has_room, with_posted, waiting_inside}
use Rattle.queues.proofs.WaitingLaws as waiting
use Rattle.station_spec.specs.State.{Cell, cell_of, fresh_record, fresh_station}
use Rattle.station_spec.specs.Limits.{allowed, station_inside}
use Rattle.station_spec.specs.Calls.{posted}
use Rattle.station_spec.proofs.BodyLaws.{empty-allowed, allowed_same}
use Rattle.station_spec.proofs.Setters.{Shaped, waiting_cell, fresh_at, fresh_label, fresh_self, fresh_own, fresh_other}
use Rattle.station_spec.proofs.LimitsLane.{lane_none}
use Rattle.station_spec.proofs.StationLimits.{RecordHolds, CellHolds, Inside, inside_as, inside_open, inside_make}

module _ (setup : Setup) (own : ℕ) (high : setup.n ≤ 16) (below : own < setup.n) where
  own_holds : RecordHolds (allowed (fresh_station setup own)) setup.n own own (fresh_record own)
  own_holds =
      record {
        station = refl;
        count = rw (eq-eqb own own refl);
        body = empty-allowed (fresh_station setup own);
        labels = λ j l. le-leb (record_label (fresh_record own) j) 2 (rw (fresh_label own j (omega arith)) (fresh_at own j (omega arith)));
      }

  fresh_cell : (k : ℕ) → k < setup.n → CellHolds (allowed (fresh_station setup own)) setup.n own k (cell_of (fresh_station setup own) k)
  fresh_cell k l =
      elim (ℕ_discrete k own) [
        | yes same ↦
            subst (λ (j : ℕ). CellHolds (allowed (fresh_station setup own)) setup.n own j (cell_of (fresh_station setup own) j)) (sym same)
            (rw (fresh_own setup own (omega arith))
            (record { label = refl; held = λ e. own_holds; lane = lane_none (allowed (fresh_station setup own)) (cond (eqb own own) 1 2) Empty Empty }))
        | no ne ↦
            rw (fresh_other setup own k (omega arith) ne)
            (record { label = refl; held = λ e. absurd (true≢false (sym e)); lane = lane_none (allowed (fresh_station setup own)) (cond (eqb k own) 1 2) Empty Empty })
      ]

  pub fresh_holds : limit_inside setup.limit ≡ true → setup.edition < 2 → Inside (fresh_station setup own)
  fresh_holds limited known =
      let self = fresh_self setup own in
      let cell = fresh_own setup own (omega arith) in
      inside_as (allowed (fresh_station setup own)) setup.n own (fresh_station setup own) refl self.n self.own
      (record {
        known = omega (arith, self.edition, known);
        low = omega arith;
        high = high;
        own = below;
        acked = ap (λ (c : Cell). c.acked) cell;
        held = ap (λ (c : Cell). c.held) cell;
        body = ap (allowed (fresh_station setup own)) self.body ∙ empty-allowed (fresh_station setup own);
        waiting =
            ap (waiting_inside (allowed (fresh_station setup own))) self.waiting
            ∙ waiting.none_inside (allowed (fresh_station setup own)) setup.limit limited;
        places = fresh_cell;
      })

pub fresh_inside :
    (setup : Setup) (own : ℕ) → valid_number setup.n own ≡ true → limit_inside setup.limit ≡ true → is_edition setup.edition ≡ true →
    station_inside (fresh_station setup own) ≡ true
fresh_inside setup own h limited known =
    let n = setup.n in
    inside_make (fresh_station setup own)
    (fresh_holds setup own
    (leb-true n 16 (and_right (leb 1 n) (leb n 16) (and_left (leb 1 n && leb n 16) (ltb own n) h)))
    (ltb-true own n (and_right (leb 1 n && leb n 16) (ltb own n) h)) limited (ltb-true setup.edition 2 known))

pub posted_holds :
    (s : Station) (d : ℕ) (b : Body) → Shaped s → Inside s → may_wait (allowed s) b ≡ true → has_room s.waiting d ≡ true → Inside (posted s d b)
unfolding posted
posted_holds s d b shape c e l =
    let same = waiting_cell s (with_posted s.waiting d b) in
    inside_as (allowed s) s.n s.own (posted s d b) (allowed_same (posted s d b) s refl) refl refl
    (record {
      known = c.known;
      low = c.low;
      high = c.high;
      own = c.own;
      acked = ap (λ (x : Cell). x.acked) (same s.own) ∙ c.acked;
      held = ap (λ (x : Cell). x.held) (same s.own) ∙ c.held;
      body = c.body;
      waiting = waiting.posted_inside (allowed s) s.waiting d b shape.waiting c.waiting l e;
      places = λ k m. rw (same k) (c.places k m);
    })

pub posted_inside :
    (s : Station) (d : ℕ) (b : Body) → Shaped s → station_inside s ≡ true → may_wait (allowed s) b ≡ true → has_room s.waiting d ≡ true → station_inside (posted s d b) ≡ true
posted_inside s d b shape h e l = inside_make (posted s d b) (posted_holds s d b shape (inside_open s h) e l)
