-- The lanes of a run: a lane holds what was taken beyond the rows aired, round after round. The
-- counts of bodies and rows then follow the two rules of counting, so no lane has more than one
-- body after a round or two while hearing, and no hearing is ever refused.
use mathlib.Core.Bool.{Bool, true, false, cond, not, ◌&&◌, true≢false}
use mathlib.Core.Logic.{◌⊎◌, inl, inr}
use mathlib.Core.List.{List, [], ◌∷◌, ◌++◌, append-nil}
use mathlib.Core.Path.{◌≡◌, refl, sym, ap, subst, ◌∙◌}
use Prim.Native.Nat.{ℕ, zero, suc, min, ◌+◌, ◌-◌, ◌≤◌, ◌<◌}
use native.Mathlib.Decide.{ℕ_discrete, dec_le}
use native.Mathlib.Omega.{arith}
use borrow.Author.Tests.{lt-ltb, le-ltb, lt-leb, eqb-true}
use lib.Dec.{eqb, ltb, leb}
use lib.ListN.{length, drop, length-drop, length-append}
use lib.Seq.{drop-drop, drop-append-le}
use Rattle.bodies.specs.declared.Body.{Body}
use Rattle.bodies.specs.Body.{is_empty}
use Rattle.links.specs.Relay.{Links}
use Rattle.links.specs.Inner.Clock.{news}
use Rattle.links.proofs.Clock.{news_own, news_other, news_start}
use Rattle.lists.specs.Below.{all_below}
use Rattle.lists.proofs.Laws.{cond-not, all_below_ext, any_below_none}
use Rattle.queues.specs.declared.Lane.{Lane}
use Rattle.station_spec.specs.declared.Setup.{Setup}
use Rattle.station_spec.specs.declared.Station.{Station}
use Rattle.queues.specs.Lane.{no_lane, pushed, popped}
use Rattle.bodies.specs.Refusals.{done, lane_full, refuse_number}
use Rattle.station_spec.specs.State.{Cell, lane_at, fresh_station}
use Rattle.station_spec.specs.Hearing.{Hearing}
use Rattle.station_spec.specs.Turn.{airs, may_start, started_body, after_turn}
use Rattle.station_spec.proofs.Setters.{fresh_own, fresh_other}
use Rattle.station_spec.proofs.TurnCells.{lane_after, lane_after_lem, turn_lane_own, turn_lane_other}
use Rattle.queues.proofs.LaneLaws.{Holds, holds_none, holds_pushed, holds-popped}
use Rattle.station_spec.proofs.TurnParts.{airs_each, started_waits, report_aired}
use Rattle.group_spec.specs.State.{station_at, size_of}
use Rattle.group_spec.specs.Calls.{heard, after_round}
use Rattle.group_spec.specs.History.{unless_empty}
use Rattle.group_spec.proofs.Run.{Run, links_of, hearing_in, body_at, rises, comes}
use Rattle.group_spec.proofs.Simulation.{simulated, heard_standing, ready_formed}
use Rattle.group_spec.proofs.Through.{below_through, round_through_lem}
use Rattle.group_spec.proofs.Standing.{Formed}
use Rattle.group_spec.proofs.Rounds.{first_at, after_at}
use Rattle.group_spec.proofs.Lists.{started_by, taken_by, rows_by, made_by, started_at}
use Rattle.group_spec.proofs.Taken.{started_by_step, version_step, taken_version, length_version, started_at_some, started_at_none, started_by_none}
use Rattle.group_spec.proofs.Counting.{Counting, reached, airs_row, ahead, rows_limit, rows_reached, made_ahead, rows_keeps, hearing_ahead}

-- A lane that holds all of a list but its first k, and may get one more body, or Empty.
grown : (l : Lane) (k : ℕ) (xs : List Body) (b : Body) (more empty : Bool)
    → Holds l (drop k xs)
    → length xs ≤ k + 1
    → k ≤ length xs
    → Holds (cond (more && not empty) (pushed l b) l) (drop k (xs ++ cond more (cond empty [] (b ∷ [])) []))
grown l k xs b true true h r c = rw (append-nil xs) h
grown l k xs b true false h r c =
    rw (drop-append-le k xs (b ∷ []) c) (holds_pushed l (drop k xs) b h (omega (arith, length-drop k xs)))
grown l k xs b false empty h r c = rw (append-nil xs) h

-- the same at the airing step
lowered : (l : Lane) (k : ℕ) (xs : List Body) (air : Bool) → Holds l (drop k xs) → Holds (cond air (popped l) l) (drop (cond air (suc k) k) xs)
lowered l k xs true h =
    let e : k + 1 ≡ suc k = omega arith in
    subst (λ (ys : List Body). Holds (popped l) ys) (drop-drop 1 k xs ∙ ap (λ (j : ℕ). drop j xs) e) (holds-popped l (drop k xs) h)
lowered l k xs false h = h

ltb-sub : (a b : ℕ) → ltb 0 (a - b) ≡ ltb b a
ltb-sub a b =
    elim (dec_le (suc b) a) [
      | yes h ↦ lt-ltb 0 (a - b) (omega arith) ∙ sym (lt-ltb b a h)
      | no h ↦ le-ltb 0 (a - b) (omega arith) ∙ sym (le-ltb b a (omega arith))
    ]

fresh_lane : (setup : Setup) (p s : ℕ) → p < 16 → s < 16 → lane_at (fresh_station setup p) s ≡ no_lane
fresh_lane setup p s h l =
    elim (ℕ_discrete s p) [
      | yes e ↦ rw e (ap (λ (c : Cell). c.lane) (fresh_own setup p h))
      | no d ↦ ap (λ (c : Cell). c.lane) (fresh_other setup p s l d)
    ]

module _ (R : Run) where
  abbrev L : Links
  L = links_of R

  -- what p has taken of s by the end of round u, and in round u + 1 once it has heard
  abbrev had : ℕ → ℕ → ℕ → List Body
  had u p s = started_at R s (news L u p s)

  abbrev has_heard : ℕ → ℕ → ℕ → List Body
  has_heard u p s = started_at R s (min (suc u) (news L (suc u) p s))

  abbrev heard_lane : ℕ → ℕ → ℕ → Lane
  heard_lane u p s = lane_at (hearing_in R u p).station s

  abbrev after_lane : ℕ → ℕ → ℕ → Lane
  after_lane u p s = lane_at (station_at (R.after u) p) s

  abbrev aired_lane : ℕ → ℕ → ℕ → Lane
  aired_lane u p s = lane_after (hearing_in R u p).station s

  -- all that is carried from round to round
  record Carried (u : ℕ) : Type 0 where
    counting : Counting L (made_by R) (rows_by R) u
    lanes : (p s : ℕ) → p < R.n → s < R.n → Holds (after_lane u p s) (drop (rows_by R u p) (had u p s))

  ready_lane : (u p s : ℕ) → lane_at (station_at (R.ready u) p) s ≡ after_lane u p s
  ready_lane u p s = ap (λ (c : Cell). c.lane) (sym ((R.posts u p).cells s))

  rows_by_step : (u p : ℕ) → rows_by R (suc u) p ≡ cond (airs (hearing_in R u p).station) (suc (rows_by R u p)) (rows_by R u p)
  unfolding rows_by
  rows_by_step u p = ap (λ (b : Bool). cond b (suc (rows_by R u p)) (rows_by R u p)) (report_aired (hearing_in R u p).station)

  rows_by_none : (p : ℕ) → rows_by R 0 p ≡ 0
  unfolding rows_by
  rows_by_none p = refl

  had_none : (p s : ℕ) → had 0 p s ≡ []
  had_none p s =
      elim (ℕ_discrete p s) [
        | yes e ↦
            rw (← e)
            (ap (λ (v : ℕ). started_at R p v) (news_own L 0 p) ∙ started_at_some R p 0 ∙ started_by_none R p)
        | no d ↦ ap (λ (v : ℕ). started_at R s v) (news_start L p s d) ∙ started_at_none R s
      ]

  -- once it has heard
  has_heard_lem : (u p s : ℕ) → p < R.n → s < R.n → Carried u → Holds (heard_lane u p s) (drop (rows_by R u p) (has_heard u p s))
  has_heard_lem u p s lp ls c = elim (ℕ_discrete p s) [ yes e ↦ own e | no d ↦ other d ]
    where
      own : p ≡ s → Holds (heard_lane u p s) (drop (rows_by R u p) (has_heard u p s))
      own e =
          let v : min (suc u) (news L (suc u) p s) ≡ news L u p s =
          rw (← e) (omega (arith, news_own L (suc u) p, news_own L u p)) in
          let m : heard_lane u p s ≡ after_lane u p s = rw (← e) ((simulated R).own_lane u p lp ∙ ready_lane u p p) in
          rw (v, m) (c.lanes p s lp ls)

      other : (p ≡ s → ⊥) → Holds (heard_lane u p s) (drop (rows_by R u p) (has_heard u p s))
      other d =
          let v : min (suc u) (news L (suc u) p s) ≡ news L (suc u) p s = omega (arith, news_other L (suc u) p s d) in
          let b = body_at R s (news L (suc u) p s) in
          let m : heard_lane u p s ≡ cond (comes R u p s) (pushed (after_lane u p s) b) (after_lane u p s) =
          (simulated R).lanes u p s lp ls d ∙ ap (λ (l : Lane). cond (comes R u p s) (pushed l b) l) (ready_lane u p s) in
          let len = length_version R s (news L u p s) in
          rw (v, m, version_step R u p s lp ls)
          (grown
          (after_lane u p s)
          (rows_by R u p)
          (had u p s)
          b
          (rises R u p s)
          (is_empty b)
          (c.lanes p s lp ls)
          (omega (arith, len, ahead L (made_by R) (rows_by R) u c.counting u p s (omega arith) lp ls))
          (omega (arith, len, rows_limit L (made_by R) (rows_by R) u c.counting u p s (omega arith) lp ls)))

  -- a row is aired exactly where there is one more of everybody
  airs_row_lem : (u p : ℕ) → p < R.n → Carried u → airs (hearing_in R u p).station ≡ airs_row L (made_by R) (rows_by R) u p
  airs_row_lem u p lp c =
      airs_each (hearing_in R u p).station
      ∙ ap (λ (k : ℕ). all_below k (λ s. ltb 0 (heard_lane u p s).len)) (heard_standing R u p lp).formed.size
      ∙ all_below_ext
      R.n
      (λ s. ltb 0 (heard_lane u p s).len)
      (λ s. ltb (rows_by R u p) (reached L (made_by R) u p s))
      (λ s ls.
      let h = has_heard_lem u p s lp ls c in
      ap
      (λ (k : ℕ). ltb 0 k)
      (h.many
      ∙ length-drop (rows_by R u p) (has_heard u p s)
      ∙ ap (λ (k : ℕ). k - rows_by R u p) (length_version R s (min (suc u) (news L (suc u) p s))))
      ∙ ltb-sub (reached L (made_by R) u p s) (rows_by R u p))

  -- after the airing step
  has_aired : (u p s : ℕ) → p < R.n → s < R.n → Carried u → Holds (aired_lane u p s) (drop (rows_by R (suc u) p) (has_heard u p s))
  has_aired u p s lp ls c =
      let t = (hearing_in R u p).station in
      let m = (heard_standing R u p lp).formed in
      rw (rows_by_step u p, lane_after_lem t m.shape (omega (arith, m.size, R.high)) (omega (arith, m.size, m.own)) s (omega (arith, m.size)))
      (lowered (heard_lane u p s) (rows_by R u p) (has_heard u p s) (airs t) (has_heard_lem u p s lp ls c))

  -- of itself a station has, until it starts a body, what it had started
  own_heard : (u p : ℕ) → has_heard u p p ≡ started_by R u p
  own_heard u p =
      let v : min (suc u) (news L (suc u) p p) ≡ suc u = omega (arith, news_own L (suc u) p) in
      ap (λ (k : ℕ). started_at R p k) v ∙ started_at_some R p u

  -- the rules of counting in one round more
  starts_low : (u p : ℕ) → p < R.n → Carried u → (is_empty (started_body (hearing_in R u p).station)) ≡ false
      → made_by R u p ≤ rows_by R (suc u) p
  starts_low u p lp c k = go (may_start t) refl
    where
      t : Station
      t = (hearing_in R u p).station

      go : (b : Bool) → may_start t ≡ b → made_by R u p ≤ rows_by R (suc u) p
      go true e =
          let h = has_aired u p p lp lp c in
          let z : (aired_lane u p p).len ≡ 0 =
          ap (λ (k : ℕ). (lane_after t k).len) (sym (heard_standing R u p lp).formed.own)
          ∙ eqb-true (lane_after t t.own).len 0 e in
          omega (
            arith,
            h.many,
            z,
            length-drop (rows_by R (suc u) p) (has_heard u p p),
            ap length (own_heard u p),
          )
      go false e =
          let z : true ≡ false = sym (ap (λ (b : Body). is_empty b) (started_waits t e)) ∙ k in
          absurd (true≢false z)

  one_more : (u p : ℕ) → p < R.n → Carried u
      → (made_by R (suc u) p ≡ made_by R u p) ⊎ ((made_by R u p ≤ rows_by R (suc u) p) × (made_by R (suc u) p ≡ suc (made_by R u p)))
  one_more u p lp c = go (is_empty b) refl
    where
      b : Body
      b = started_body (hearing_in R u p).station

      more : (z : Bool) → is_empty b ≡ z → made_by R (suc u) p ≡ made_by R u p + length (cond z [] (b ∷ []))
      more z e =
          ap length (started_by_step R u p)
          ∙ length-append (started_by R u p) (unless_empty b)
          ∙ ap (λ (y : Bool). made_by R u p + length (cond y [] (b ∷ []))) e

      go : (z : Bool) → is_empty b ≡ z
          → (made_by R (suc u) p ≡ made_by R u p) ⊎ ((made_by R u p ≤ rows_by R (suc u) p) × (made_by R (suc u) p ≡ suc (made_by R u p)))
      go true e = inl (omega (arith, more true e))
      go false e = inr (starts_low u p lp c e, omega (arith, more false e))

  counted : (u : ℕ) → Carried u → Counting L (made_by R) (rows_by R) (suc u)
  counted u c =
      record {
        made_zero = c.counting.made_zero;
        rows_zero = c.counting.rows_zero;
        made_step =
            λ w s lw ls.
            elim (ℕ_discrete w u) [
              | yes e ↦ rw e (one_more u s ls c)
              | no d ↦ c.counting.made_step w s (omega arith) ls
            ];
        rows_step =
            λ w p lw lp.
            elim (ℕ_discrete w u) [
              | yes e ↦ rw (e, ← airs_row_lem u p lp c) (rows_by_step u p)
              | no d ↦ c.counting.rows_step w p (omega arith) lp
            ];
      }

  -- after the turn
  has_turned : (u p s : ℕ) → p < R.n → s < R.n → Carried u → Holds (after_lane (suc u) p s) (drop (rows_by R (suc u) p) (had (suc u) p s))
  has_turned u p s lp ls c = rw (after_at R u p lp) (elim (ℕ_discrete p s) [ yes e ↦ own e | no d ↦ other d ])
    where
      t : Station
      t = (hearing_in R u p).station

      m : Formed R p t
      m = (heard_standing R u p lp).formed

      few : t.n ≤ 16
      few = omega (arith, m.size, R.high)

      below : t.own < t.n
      below = omega (arith, m.size, m.own)

      own : p ≡ s → Holds (lane_at (after_turn t) s) (drop (rows_by R (suc u) p) (had (suc u) p s))
      own e =
          let C = counted u c in
          let b = started_body t in
          let v : had (suc u) p p ≡ has_heard u p p ++ unless_empty b =
          ap (λ (k : ℕ). started_at R p k) (news_own L (suc u) p)
          ∙ started_at_some R p (suc u)
          ∙ started_by_step R u p
          ∙ ap (λ (xs : List Body). xs ++ unless_empty b) (sym (own_heard u p)) in
          let l : lane_at (after_turn t) p ≡ cond (not (is_empty b)) (pushed (aired_lane u p p) b) (aired_lane u p p) =
          subst
          (λ (k : ℕ). lane_at (after_turn t) k ≡ cond (not (is_empty b)) (pushed (lane_after t k) b) (lane_after t k))
          m.own
          (turn_lane_own t m.shape few below
          ∙ sym (cond-not (is_empty b) (pushed (lane_after t t.own) b) (lane_after t t.own))) in
          rw (← e, v, l)
          (grown
          (aired_lane u p p)
          (rows_by R (suc u) p)
          (has_heard u p p)
          b
          true
          (is_empty b)
          (has_aired u p p lp lp c)
          (omega (
            arith,
            ap length (own_heard u p),
            made_ahead L (made_by R) (rows_by R) (suc u) C u p (omega arith) lp,
            rows_keeps L (made_by R) (rows_by R) (suc u) C u p (omega arith) lp,
          ))
          (omega (
            arith,
            length_version R p (min (suc u) (news L (suc u) p p)),
            rows_reached L (made_by R) (rows_by R) (suc u) C u p p (omega arith) lp lp,
          )))

      other : (p ≡ s → ⊥) → Holds (lane_at (after_turn t) s) (drop (rows_by R (suc u) p) (had (suc u) p s))
      other d =
          let v : news L (suc u) p s ≡ min (suc u) (news L (suc u) p s) = omega (arith, news_other L (suc u) p s d) in
          let w : had (suc u) p s ≡ has_heard u p s = ap (λ (k : ℕ). started_at R s k) v in
          rw (turn_lane_other t m.shape few below s (omega (arith, m.size)) (λ e. d (sym m.own ∙ sym e)), w) (has_aired u p s lp ls c)

  carried : (u : ℕ) → Carried u
  carried zero =
      record {
        counting =
            record {
              made_zero = λ s l. ap length (started_by_none R s);
              rows_zero = λ p l. rows_by_none p;
              made_step = λ u s l ls. absurd (omega arith);
              rows_step = λ u p l lp. absurd (omega arith);
            };
        lanes =
            λ p s lp ls.
            rw (first_at R p lp, fresh_lane R.setup p s (omega (arith, R.high)) (omega (arith, R.high)), rows_by_none p, had_none p s) holds_none;
      }
  carried (suc u) =
      let c = carried u in
      record { counting = counted u c; lanes = λ p s lp ls. has_turned u p s lp ls c }

  -- The numbers of bodies and rows of a run follow the rules of counting.
  pub counting : (u : ℕ) → Counting L (made_by R) (rows_by R) u
  counting u = (carried u).counting

  -- A lane holds what was taken beyond the rows aired, after a round and while hearing.
  pub lane_holds : (u p s : ℕ) → p < R.n → s < R.n → Holds (lane_at (station_at (R.after u) p) s) (drop (rows_by R u p) (taken_by R u p s))
  lane_holds u p s lp ls = rw (taken_version R u p s lp ls) ((carried u).lanes p s lp ls)

  pub hearing_holds : (u p s : ℕ) → p < R.n → s < R.n
      → Holds (lane_at (hearing_in R u p).station s) (drop (rows_by R u p) (started_at R s (min (suc u) (news L (suc u) p s))))
  hearing_holds u p s lp ls = has_heard_lem u p s lp ls (carried u)

  -- A lane has at most one body after a round, and at most two while hearing.
  pub lane_limit : (u p s : ℕ) → p < R.n → s < R.n → (lane_at (station_at (R.after u) p) s).len ≤ 1
  lane_limit u p s lp ls =
      omega (
        arith,
        ((carried u).lanes p s lp ls).many,
        length-drop (rows_by R u p) (had u p s),
        length_version R s (news L u p s),
        ahead L (made_by R) (rows_by R) u (counting u) u p s (omega arith) lp ls,
      )

  pub ready_limit : (u p s : ℕ) → p < R.n → s < R.n → (lane_at (station_at (R.ready u) p) s).len ≤ 1
  ready_limit u p s lp ls = rw (ready_lane u p s) (lane_limit u p s lp ls)

  pub hearing_limit : (u p s : ℕ) → p < R.n → s < R.n → (lane_at (hearing_in R u p).station s).len ≤ 2
  hearing_limit u p s lp ls =
      omega (
        arith,
        (hearing_holds u p s lp ls).many,
        length-drop (rows_by R u p) (has_heard u p s),
        length_version R s (min (suc u) (news L (suc u) p s)),
        hearing_ahead L (made_by R) (rows_by R) (suc u) (counting (suc u)) u p s (omega arith) lp ls,
      )

  -- So no lane that holds two gets a third, and no frame is refused.
  pub through_done : (u p : ℕ) → p < R.n → (hearing_in R u p).refusal ≡ done
  through_done u p lp =
      (simulated R).refusal u p lp
      ∙ ap (λ (t : Bool). refuse_number t lane_full done)
      (any_below_none
      R.n
      (λ s. not (eqb p s) && (comes R u p s && leb 2 (lane_at (station_at (R.ready u) p) s).len))
      (λ s ls. rw (lt-leb 2 (lane_at (station_at (R.ready u) p) s).len (omega (arith, ready_limit u p s lp ls))) (go (not (eqb p s)) (comes R u p s))))
    where
      go : (a b : Bool) → (a && (b && false)) ≡ false
      go true true = refl
      go true false = refl
      go false b = refl

  -- What a station hears in a round of the run is therefore what the definition of a round has it
  -- hear.
  pub run_heard : (u p : ℕ) → p < R.n → heard (R.ready u) (R.masks (suc u)) p ≡ hearing_in R u p
  run_heard u p lp = below_through (R.ready u) (R.masks (suc u)) p (size_of (R.ready u)) (through_done u p lp)

  pub never_refused : (u p : ℕ) → p < R.n → (heard (R.ready u) (R.masks (suc u)) p).refusal ≡ done
  never_refused u p lp = ap (λ (h : Hearing). h.refusal) (run_heard u p lp) ∙ through_done u p lp

  pub run_step : (u : ℕ) → R.after (suc u) ≡ after_round (R.ready u) (R.masks (suc u))
  run_step u =
      let n : size_of (R.ready u) ≡ R.n = (ready_formed R u 0 R.low).size in
      R.step u ∙ sym (round_through_lem (R.ready u) (R.masks (suc u)) (λ i l. run_heard u i (omega (arith, n))))

  -- A row is aired exactly where there is one more of everybody.
  pub airs_exactly : (u p : ℕ) → p < R.n → airs (hearing_in R u p).station ≡ airs_row L (made_by R) (rows_by R) u p
  airs_exactly u p lp = airs_row_lem u p lp (carried u)

  -- After the airing step of its turn the own lane holds what the station started beyond the rows
  -- aired.
  pub own_aired : (u p : ℕ) → p < R.n → (lane_after (hearing_in R u p).station p).len ≡ made_by R u p - rows_by R (suc u) p
  own_aired u p lp =
      (has_aired u p p lp lp (carried u)).many
      ∙ length-drop (rows_by R (suc u) p) (has_heard u p p)
      ∙ ap (λ (xs : List Body). length xs - rows_by R (suc u) p) (own_heard u p)
