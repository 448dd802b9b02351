-- The simulation: what the rounds of a run do is what the clocks and the broadcast numbers say. The
-- invariant of all rounds gives the table, the labels, the acknowledgements and the counts; the
-- hearing of each round gives the takings, the lanes and the overflow, and its turn the ends.
use Prim.Native.Nat.{ℕ, suc, pred, ◌*◌, ◌-◌, ◌%◌, ◌≤◌, ◌<◌}
use mathlib.Core.Bool.{Bool, true, false, cond, not, ◌&&◌}
use mathlib.Core.List.{[]}
use mathlib.Core.Path.{◌≡◌, refl, sym, ap, ap₂, ◌∙◌, subst}
use native.Mathlib.Decide.{ℕ_discrete}
use native.Mathlib.Omega.{arith}
use borrow.Author.Tests.{lt-ltb, le-ltb, le-leb, ltb-true, eq-eqb, ne_eqb}
use lib.Dec.{ltb, leb, eqb}
use Rattle.bodies.specs.declared.Body.{Body}
use Rattle.bodies.specs.Body.{is_empty}
use Rattle.links.specs.Relay.{Links}
use Rattle.links.specs.Inner.Clock.{news}
use Rattle.links.specs.Inner.Number as number
use Rattle.links.specs.Inner.Number.{num, num_of, got, got_of, counted}
use Rattle.links.proofs.Clock.{news_own}
use Rattle.links.proofs.Got.{got-num_of, got_own, num_of_some}
use Rattle.links.proofs.Bounds.{counted_limit}
use Rattle.frame_spec.specs.declared.Record.{Record}
use Rattle.frame_spec.specs.Record.{record_label}
use Rattle.lists.proofs.Laws.{any_below_ext}
use Rattle.queues.specs.Lane.{pushed}
use Rattle.bodies.specs.Refusals.{done, lane_full, refuse_number}
use Rattle.station_spec.specs.State.{label_of, acked_of, held_of, record_of, lane_at}
use Rattle.station_spec.specs.Calls.{own_count_inside}
use Rattle.station_spec.specs.Turn as turn
use Rattle.group_spec.specs.State.{station_at}
use Rattle.group_spec.specs.History.{takings_of, unless_empty}
use Rattle.group_spec.proofs.Run.{Run, Simulated, links_of, hearing_in, body_at, comes}
use Rattle.group_spec.proofs.Version.{Stands, Caught, shown, gains}
use Rattle.group_spec.proofs.Standing.{Formed, Standing, standing_count}
use Rattle.group_spec.proofs.RoundHeard.{heard_version, hear_round, heard_version_lem}
use Rattle.group_spec.proofs.TurnStep.{ends_agree}
use Rattle.group_spec.proofs.Rounds.{after_all, ready_all}

-- two records that agree in all that is part of a record among n stations
pub record Agree (n : ℕ) (r r' : Record) : Type 0 where
  pub station : r.station ≡ r'.station
  pub count : r.count ≡ r'.count
  pub body : r.body ≡ r'.body
  pub labels : (k : ℕ) → k < n → record_label r k ≡ record_label r' k

module _ (R : Run) where
  abbrev L : Links
  L = links_of R

  stands-agree : (r r' : Record) (q w : ℕ) → Stands R r q w → Stands R r' q w → Agree R.n r r'
  stands-agree r r' q w a b =
      record {
        station = a.station ∙ sym b.station;
        count = a.count ∙ sym b.count;
        body = a.body ∙ sym b.body;
        labels = λ k l. a.labels k l ∙ sym (b.labels k l);
      }

  module _ (u p : ℕ) (lp : p < R.n) where
    -- the static part
    pub after_formed : Formed R p (station_at (R.after u) p)
    after_formed = (after_all R u p lp).formed

    pub ready_formed : Formed R p (station_at (R.ready u) p)
    ready_formed = (ready_all R u p lp).formed

    -- the table: nothing is held of a station of which there is no news, and else that station's
    -- own record as the round of the news left it
    pub table_none : (q : ℕ) → q < R.n → news L u p q ≡ 0 → held_of (station_at (R.after u) p) q ≡ false
    table_none q l e = ((after_all R u p lp).cells q l).is_held ∙ le-ltb 0 (news L u p q) (omega arith)

    pub table_held : (q w : ℕ) → q < R.n → news L u p q ≡ suc w → held_of (station_at (R.after u) p) q ≡ true
    table_held q w l e = ((after_all R u p lp).cells q l).is_held ∙ lt-ltb 0 (news L u p q) (omega arith)

    pub table_stands : (q w : ℕ) → q < R.n → news L u p q ≡ suc w → Stands R (record_of (station_at (R.after u) p) q) q w
    table_stands q w l e = ((after_all R u p lp).cells q l).stands w e

    pub table_some :
        (q w : ℕ) → q < R.n → news L u p q ≡ suc w →
        Agree R.n (record_of (station_at (R.after u) p) q) (record_of (station_at (R.after w) q) q)
    table_some q w l e =
        stands-agree (record_of (station_at (R.after u) p) q) (record_of (station_at (R.after w) q) q) q w (table_stands q w l e)
        (((after_all R w q l).cells q l).stands w (news_own L w q))

    -- the labels
    pub labels_got : (q : ℕ) → q < R.n → label_of (station_at (R.after u) p) q ≡ got L u p q % 3
    labels_got q l =
        ((after_all R u p lp).cells q l).is_label ∙ ap (λ (i : ℕ). i % 3) (sym (got-num_of L u p q))

    pub own_label : label_of (station_at (R.after u) p) p ≡ num L u p % 3
    own_label = labels_got p lp ∙ ap (λ (i : ℕ). i % 3) (got_own L u p)

    -- the acknowledgements
    pub acked_number :
        (q : ℕ) → q < R.n →
        acked_of (station_at (R.after u) p) q ≡ eqb (got_of L q p (news L u p q)) (num L u p)
    acked_number q l = ((after_all R u p lp).cells q l).is_acked

    -- the count
    pub count_is : (station_at (R.after u) p).count ≡ counted L u p
    count_is = (after_all R u p lp).count

    pub count_bounded : (station_at (R.after u) p).count ≤ 2 * (R.n - 1)
    count_bounded = omega (arith, count_is, counted_limit L u p lp)

    pub held_count_bounded :
        (q : ℕ) → q < R.n → held_of (station_at (R.after u) p) q ≡ true →
        (record_of (station_at (R.after u) p) q).count ≤ 2 * (R.n - 1)
    held_count_bounded q l h =
        let some = ltb-true 0 (news L u p q) (sym ((after_all R u p lp).cells q l).is_held ∙ h) in
        omega (
          arith,
          (table_stands q (pred (news L u p q)) l (omega arith)).count,
          counted_limit L (pred (news L u p q)) q l,
        )

    pub own_count_inside_lem : own_count_inside (station_at (R.ready u) p) ≡ true
    own_count_inside_lem =
        let a = ready_all R u p lp in
        let e : (record_of (station_at (R.ready u) p) (station_at (R.ready u) p).own).count ≡ counted L u p =
        ap (λ (i : ℕ). (record_of (station_at (R.ready u) p) i).count) a.formed.own
        ∙ ((a.cells p lp).stands u (news_own L u p)).count in
        le-leb (record_of (station_at (R.ready u) p) (station_at (R.ready u) p).own).count
        (2 * ((station_at (R.ready u) p).n - 1))
        (subst (λ m. (record_of (station_at (R.ready u) p) (station_at (R.ready u) p).own).count ≤ 2 * (m - 1))
        (sym a.formed.size)
        (omega (arith, counted_limit L u p lp)))

    -- the body of a version is that of the broadcast that it shows
    pub body_shown : (v : ℕ) → body_at R p v ≡ shown R p v
    body_shown v = (after_all R (pred v) p lp).body

    -- p in round u + 1, once it has heard
    pub heard_standing :
        Standing R u p (station_at (R.ready u) p) (hearing_in R u p) (λ q. heard_version R u p R.n q)
    heard_standing = hear_round R u p lp (λ j l. ready_all R u j l)

    pub heard_clock :
        (q : ℕ) → (p ≡ q → ⊥) →
        heard_version R u p R.n q ≡ news L (suc u) p q
    heard_clock = heard_version_lem R u p lp (λ j l. ready_all R u j l)

    -- the count while hearing, so that 255 is never met
    pub heard_count : (hearing_in R u p).station.count ≤ 3 * (R.n - 1)
    heard_count = standing_count R u p (station_at (R.ready u) p) (hearing_in R u p) _ lp heard_standing

    heard_caught :
        (q : ℕ) → q < R.n → (p ≡ q → ⊥) →
        Caught R u p q (news L (suc u) p q) (lane_at (station_at (R.ready u) p) q) (lane_at (hearing_in R u p).station q)
        (takings_of q (hearing_in R u p).takings)
    heard_caught q l d =
        subst (λ v. Caught R u p q v (lane_at (station_at (R.ready u) p) q) (lane_at (hearing_in R u p).station q)
        (takings_of q (hearing_in R u p).takings))
        (heard_clock q d) (heard_standing.caught q l)

    own_still : ltb (got L u p p) (num_of L p (heard_version R u p R.n p)) ≡ false
    own_still =
        le-ltb (got L u p p) (num_of L p (heard_version R u p R.n p))
        (omega (
          arith,
          got_own L u p,
          num_of_some L p (heard_version R u p R.n p) u heard_standing.own_version,
        ))

    pub lane_own : lane_at (hearing_in R u p).station p ≡ lane_at (station_at (R.ready u) p) p
    lane_own = (heard_standing.caught p lp).lane_now ∙ rw own_still

  gains-comes : (u p q : ℕ) → q < R.n → gains R u p q (news L (suc u) p q) ≡ comes R u p q
  gains-comes u p q l =
      ap₂ (λ (m : ℕ) (b : Body). ltb (got L u p q) m && not (is_empty b))
      (sym (got-num_of L (suc u) p q))
      (sym (body_shown u q l (news L (suc u) p q)))

  pub simulated : Simulated R
  simulated =
      record {
        ends =
            λ u s l.
            ends_agree R (hearing_in R u s) u s l (station_at (R.ready u) s) _ (heard_standing u s l)
            (λ q d. heard_clock u s l q (λ e. d (sym e)));
        takings =
            λ u p s lp ls d.
            (heard_caught u p lp s ls d).taken_now
            ∙ ap₂ (λ (m : ℕ) (b : Body). cond (ltb (got L u p s) m) (unless_empty b) [])
            (sym (got-num_of L (suc u) p s))
            (sym (body_shown u s ls (news L (suc u) p s)));
        lanes =
            λ u p s lp ls d.
            (heard_caught u p lp s ls d).lane_now
            ∙ ap₂
            (λ (g : Bool) (b : Body). cond g (pushed (lane_at (station_at (R.ready u) p) s) b) (lane_at (station_at (R.ready u) p) s))
            (gains-comes u p s ls)
            (sym (body_shown u s ls (news L (suc u) p s)));
        own_lane = λ u p lp. lane_own u p lp;
        refusal =
            λ u p lp.
            (heard_standing u p lp).refusal
            ∙ ap (λ (t : Bool). refuse_number t lane_full done)
            (any_below_ext R.n _
            (λ s. not (eqb p s) && (comes R u p s && leb 2 (lane_at (station_at (R.ready u) p) s).len))
            (λ s ls. one u p lp s ls (ℕ_discrete p s)));
      }
    where
      one :
          (u p : ℕ) (lp : p < R.n) (s : ℕ) → s < R.n → Dec (p ≡ s) →
          (gains R u p s (heard_version R u p R.n s)
          && leb 2 (lane_at (station_at (R.ready u) p) s).len)
          ≡ (not (eqb p s) && (comes R u p s && leb 2 (lane_at (station_at (R.ready u) p) s).len))
      one u p lp s ls (yes e) =
          subst (λ i. (gains R u p i (heard_version R u p R.n i)
          && leb 2 (lane_at (station_at (R.ready u) p) i).len)
          ≡ (not (eqb p i) && (comes R u p i && leb 2 (lane_at (station_at (R.ready u) p) i).len)))
          e
          (rw (own_still u p lp, eq-eqb p p refl))
      one u p lp s ls (no d) =
          rw (ne_eqb p s d)
          (ap (λ (g : Bool). g && leb 2 (lane_at (station_at (R.ready u) p) s).len)
          (ap (λ (v : ℕ). gains R u p s v) (heard_clock u p lp s d) ∙ gains-comes u p s ls))
