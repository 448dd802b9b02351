-- A whole round's hearing. A frame carries of each station of which its sender holds a record that
-- very record, so hearing it lifts each cell to the later of its version and the sender's; and the
-- senders of the mask, one after the other, lift it to the latest of all, which is the clock.
use Prim.Native.Nat.{ℕ, zero, suc, max, ◌≤◌, ◌<◌}
use mathlib.Core.Bool.{Bool, true, false, cond, ◌&&◌}
use mathlib.Core.List.{[], ◌∷◌}
use mathlib.Core.Logic.{inl, ⊎_elim}
use mathlib.Core.Path.{◌≡◌, refl, sym, ap, ◌∙◌, subst}
use native.Mathlib.Decide.{ℕ_discrete, dec_le}
use native.Mathlib.Nat.{le_refl}
use native.Mathlib.Omega.{arith}
use borrow.Author.Tests.{lt-ltb, le-ltb, ltb-true, ltb-false}
use lib.Dec.{leb, ltb}
use Rattle.links.specs.Log.{hears_in}
use Rattle.links.specs.Relay.{Links}
use Rattle.links.specs.Inner.Clock as clock
use Rattle.links.specs.Inner.Clock.{latest, news}
use Rattle.links.specs.Inner.Number.{num_of, got, counted}
use Rattle.links.proofs.Clock.{news_own, news_limit}
use Rattle.links.proofs.Hearing.{hearing_all}
use Rattle.links.proofs.Got.{got-num_of, version}
use Rattle.frame_spec.specs.declared.Record.{Record}
use Rattle.frame_spec.proofs.Labels.{framed_label}
use Rattle.frame_spec.specs.Record.{framed}
use Rattle.lists.specs.Below.{filter_map}
use Rattle.lists.proofs.Laws.{any_below_none}
use Rattle.station_spec.specs.declared.Station.{Station}
use Rattle.bodies.specs.Refusals.{done, lane_full, refuse_number}
use Rattle.station_spec.specs.State.{held_of, record_of, lane_at, sent_records}
use Rattle.station_spec.specs.Hearing.{Hearing, initial_hearing, hear_record, hear_records}
use Rattle.station_spec.proofs.HearRecord.{conflicts, hear_record_skips}
use Rattle.station_spec.proofs.Cells
use Rattle.group_spec.specs.State.{station_at, size_of}
use Rattle.group_spec.proofs.Through.{heard_through}
use Rattle.group_spec.specs.History.{takings_of}
use Rattle.group_spec.proofs.Run.{Run, links_of, hearing_in}
use Rattle.group_spec.proofs.Version.{Stands, CellAt, shown, gains}
use Rattle.group_spec.proofs.Standing.{Formed, Standing, standing-alike}
use Rattle.group_spec.proofs.Outcome.{outcome, outcome_calm}
use Rattle.group_spec.proofs.HearStep.{hear_step}

module _ (R : Run) where
  abbrev L : Links
  L = links_of R

  -- station p as round u leaves it
  pub record After (u p : ℕ) (s : Station) : Type 0 where
    pub formed : Formed R p s
    pub body : s.body ≡ shown R p (suc u)
    pub count : s.count ≡ counted L u p
    pub cells :
        (q : ℕ) → q < R.n → CellAt R u p q (news L u p q) s

  -- it has heard nothing yet
  standing_silent : (u p : ℕ) (s : Station) → p < R.n → After u p s → Standing R u p s (initial_hearing s) (λ q. news L u p q)
  unfolding takings_of counted got
  standing_silent u p s lp a =
      record {
        formed = a.formed;
        body = refl;
        own_version = news_own L u p;
        low = λ q l. le_refl (news L u p q);
        high = λ q l. news_limit L u p q;
        cells = a.cells;
        caught = λ q l. record { lane_now = rw (still q); taken_now = rw (still q) };
        count = a.count;
        refusal =
            ap (λ (t : Bool). refuse_number t lane_full done)
            (sym
            (any_below_none R.n (λ q. gains R u p q (news L u p q) && leb 2 (lane_at s q).len) (λ q l. rw (still q))));
      }
    where
      still : (q : ℕ) → ltb (got L u p q) (num_of L q (news L u p q)) ≡ false
      still q =
          le-ltb (got L u p q) (num_of L q (news L u p q)) (omega (arith, got-num_of L u p q))

  stands-framed : (n : ℕ) (r : Record) (k w : ℕ) → n ≡ R.n → Stands R r k w → Stands R (framed n r) k w
  stands-framed n r k w e t =
      record {
        station = Cells.framed_station n r ∙ t.station;
        count = Cells.framed_count n r ∙ t.count;
        body = Cells.framed_body n r ∙ t.body;
        labels = λ i b. framed_label n r i (omega arith) ∙ t.labels i b;
      }

  -- p hears the frame of j
  module _ (u p : ℕ) (lp : p < R.n) (first : Station) (j : ℕ) (lj : j < R.n) (s : Station) (a : After u j s) (h : Hearing) (vs : ℕ → ℕ) where
    -- the versions once the records of stations below k are heard
    up_to : ℕ → ℕ → ℕ
    up_to k q = cond (ltb q k) (max (vs q) (news L u j q)) (vs q)

    up_to_below : (k q : ℕ) → q < k → up_to k q ≡ max (vs q) (news L u j q)
    unfolding up_to
    up_to_below k q l = rw (lt-ltb q k l)

    up_to_above : (k q : ℕ) → k ≤ q → up_to k q ≡ vs q
    unfolding up_to
    up_to_above k q l = rw (le-ltb q k l)

    up_to_rest : (k q : ℕ) → (q ≡ k → ⊥) → up_to (suc k) q ≡ up_to k q
    up_to_rest k q d =
        elim (dec_le (suc q) k) [
          | yes l ↦ up_to_below (suc k) q (omega arith) ∙ sym (up_to_below k q l)
          | no l ↦ up_to_above (suc k) q (omega arith) ∙ sym (up_to_above k q (omega arith))
        ]

    -- nothing comes with the record of k
    same_versions : (k : ℕ) (x : Hearing) → k < R.n → Standing R u p first x (up_to k)
        → max (vs k) (news L u j k) ≡ vs k → Standing R u p first x (up_to (suc k))
    same_versions k x lk c e =
        let same : (q : ℕ) → up_to (suc k) q ≡ up_to k q =
        λ q.
        elim (ℕ_discrete q k) [
          | yes i ↦
              subst (λ z. up_to (suc k) z ≡ up_to k z) (sym i)
              (up_to_below (suc k) k (omega arith) ∙ e ∙ sym (up_to_above k k (le_refl k)))
          | no d ↦ up_to_rest k q d
        ] in
        standing-alike R u p first x (up_to k) (up_to (suc k)) lp (λ q l. inl (same q)) (λ q l. omega (arith, same q, c.high q l)) c

    -- the record of station k, if the sender holds one
    hear_one :
        (k : ℕ) (x : Hearing) → k < R.n → Standing R u p first x (up_to k) → (b : Bool) → held_of s k ≡ b →
        Standing R u p first (hear_records x (cond b (framed s.n (record_of s k) ∷ []) [])) (up_to (suc k))
    hear_one k x lk c false e =
        subst (λ z. Standing R u p first z (up_to (suc k))) (sym (Cells.hear_records_none x))
        (same_versions k x lk c
        (omega (arith, ltb-false 0 (news L u j k) (sym (a.cells k lk).is_held ∙ e))))
    hear_one k x lk c true e =
        subst (λ z. Standing R u p first z (up_to (suc k))) (sym (Cells.hear_records_one x (framed s.n (record_of s k))))
        (⊎_elim
        (λ (z : news L u j k ≡ 0). absurd (omega (arith, ltb-true 0 (news L u j k) (sym (a.cells k lk).is_held ∙ e))))
        (λ (z : (w : ℕ) × (news L u j k ≡ suc w)). go z.0 z.1 (ℕ_discrete k p))
        (version (news L u j k)))
      where
        go :
            (w : ℕ) → news L u j k ≡ suc w → Dec (k ≡ p) →
            Standing R u p first (hear_record x (framed s.n (record_of s k))) (up_to (suc k))
        go w f (yes i) =
            let t = stands-framed s.n (record_of s k) k w a.formed.size ((a.cells k lk).stands w f) in
            subst (λ z. Standing R u p first z (up_to (suc k)))
            (sym
            (hear_record_skips x (framed s.n (record_of s k))
            (Cells.accepts_own x.station (framed s.n (record_of s k)) (t.station ∙ i ∙ sym c.formed.own))
            (Cells.conflicts_own x.station (framed s.n (record_of s k)) (t.station ∙ i ∙ sym c.formed.own))))
            (same_versions k x lk c
            (let y : vs k ≡ suc u = sym (up_to_above k k (le_refl k)) ∙ ap (up_to k) i ∙ c.own_version in
            omega (arith, news_limit L u j k)))
        go w f (no d) =
            let t = stands-framed s.n (record_of s k) k w a.formed.size ((a.cells k lk).stands w f) in
            hear_step R x (framed s.n (record_of s k)) u p lp first (up_to k) (up_to (suc k)) c w j
            (subst (λ i. i < R.n) (sym t.station) lk)
            (λ q. d (sym t.station ∙ q))
            lj
            (subst (λ i. Stands R (framed s.n (record_of s k)) i w) (sym t.station) t)
            (subst (λ i. suc w ≡ news L u j i) (sym t.station) (sym f))
            (λ q n. up_to_rest k q (λ i. n (i ∙ sym t.station)))
            (subst (λ i. up_to (suc k) i ≡ max (up_to k i) (suc w)) (sym t.station)
            (rw (up_to_below (suc k) k (omega arith), up_to_above k k (le_refl k), f)))

    hear_frame :
        (k : ℕ) → k ≤ R.n → Standing R u p first h vs →
        Standing R u p first (hear_records h (filter_map k (held_of s) (λ i. framed s.n (record_of s i)))) (up_to k)
    unfolding filter_map
    hear_frame zero l c =
        subst (λ z. Standing R u p first z (up_to 0)) (sym (Cells.hear_records_none h))
        (standing-alike R u p first h vs (up_to 0) lp (λ q b. inl (up_to_above 0 q (omega arith)))
        (λ q b. omega (arith, c.high q b, up_to_above 0 q (omega arith))) c)
    hear_frame (suc k) l c =
        subst (λ z. Standing R u p first z (up_to (suc k)))
        (sym
        (Cells.hear_records-append h (filter_map k (held_of s) (λ i. framed s.n (record_of s i)))
        (cond (held_of s k) (framed s.n (record_of s k) ∷ []) [])))
        (hear_one k (hear_records h (filter_map k (held_of s) (λ i. framed s.n (record_of s i)))) l (hear_frame k (omega arith) c) (held_of s k)
        refl)

    -- a record that the sender holds of k is of k, and stands for the version that the sender has
    held_version : (k : ℕ) → k < R.n → held_of s k ≡ true → (w : ℕ) × (news L u j k ≡ suc w) × Stands R (framed s.n (record_of s k)) k w
    held_version k lk e =
        ⊎_elim
        (λ (z : news L u j k ≡ 0). absurd (omega (arith, ltb-true 0 (news L u j k) (sym (a.cells k lk).is_held ∙ e))))
        (λ (z : (w : ℕ) × (news L u j k ≡ suc w)).
        (z.0, z.1, stands-framed s.n (record_of s k) k z.0 a.formed.size ((a.cells k lk).stands z.0 z.1)))
        (version (news L u j k))

    pub frame_station : (k : ℕ) → k < R.n → held_of s k ≡ true → (framed s.n (record_of s k)).station ≡ k
    frame_station k lk e = (held_version k lk e).2.station

    -- none of its records conflicts with what p holds when the frame comes
    pub frame_calm :
        Standing R u p first h vs → (k : ℕ) → k < R.n → (k ≡ p → ⊥) → held_of s k ≡ true → conflicts h.station (framed s.n (record_of s k)) ≡ false
    frame_calm c k lk d e =
        let r = framed s.n (record_of s k) in
        let v = held_version k lk e in
        let t = v.2 in
        let here : r.station ≡ k = t.station in
        let below : r.station < R.n = subst (λ i. i < R.n) (sym here) lk in
        outcome_calm R h.station r (vs r.station) v.0
        (outcome R h.station r u p lp c.formed.own (λ q. d (sym here ∙ q)) below (vs r.station) v.0 j lj c.formed.size
        (c.cells r.station below) (subst (λ i. Stands R r i v.0) (sym here) t) (c.low r.station below) (c.high r.station below)
        (subst (λ i. suc v.0 ≡ news L u j i) (sym here) (sym v.1)))

    pub hear_sent :
        Standing R u p first h vs →
        Standing R u p first (hear_records h (sent_records s)) (λ q. max (vs q) (news L u j q))
    unfolding sent_records
    hear_sent c =
        let e = a.formed.size in
        let d = hear_frame s.n (omega arith) c in
        standing-alike R u p first (hear_records h (filter_map s.n (held_of s) (λ i. framed s.n (record_of s i)))) (up_to s.n)
        (λ q. max (vs q) (news L u j q)) lp
        (λ q b. inl (sym (up_to_below s.n q (omega arith))))
        (λ q b. omega (arith, d.high q b, up_to_below s.n q (omega arith)))
        d

  -- the version of q that p has in round u + 1 once it has heard the senders below k
  abbrev pub heard_version : ℕ → ℕ → ℕ → ℕ → ℕ
  heard_version u p k q = clock.hearing L u p q k

  -- p hears the frames of its mask; all are of the group before any hearing
  module _ (u p : ℕ) (lp : p < R.n) (all : (j : ℕ) → j < R.n → After u j (station_at (R.ready u) j)) where
    pub ready_size : size_of (R.ready u) ≡ R.n
    ready_size = (all 0 R.low).formed.size

    pub hear_senders :
        (k : ℕ) → k ≤ R.n →
        Standing R u p (station_at (R.ready u) p) (heard_through (R.ready u) (R.masks (suc u)) p k) (λ q. heard_version u p k q)
    unfolding heard_through clock.hearing latest
    hear_senders zero l = standing_silent u p (station_at (R.ready u) p) lp (all p lp)
    hear_senders (suc k) l =
        subst (λ b. Standing R u p (station_at (R.ready u) p)
        (cond b
        (hear_records (heard_through (R.ready u) (R.masks (suc u)) p k) (sent_records (station_at (R.ready u) k)))
        (heard_through (R.ready u) (R.masks (suc u)) p k))
        (λ q. cond (hears_in R.n (R.masks (suc u)) p k) (max (heard_version u p k q) (news L u k q)) (heard_version u p k q)))
        (ap (λ (m : ℕ). hears_in m (R.masks (suc u)) p k) (sym ready_size))
        (go (hears_in R.n (R.masks (suc u)) p k) (hear_senders k (omega arith)))
      where
        go :
            (b : Bool) →
            Standing R u p (station_at (R.ready u) p) (heard_through (R.ready u) (R.masks (suc u)) p k) (λ q. heard_version u p k q) →
            Standing R u p (station_at (R.ready u) p)
            (cond b
            (hear_records (heard_through (R.ready u) (R.masks (suc u)) p k) (sent_records (station_at (R.ready u) k)))
            (heard_through (R.ready u) (R.masks (suc u)) p k))
            (λ q. cond b (max (heard_version u p k q) (news L u k q)) (heard_version u p k q))
        go true c =
            hear_sent u p lp (station_at (R.ready u) p) k l (station_at (R.ready u) k) (all k l)
            (heard_through (R.ready u) (R.masks (suc u)) p k) (λ q. heard_version u p k q) c
        go false c = c

    -- no record that p hears conflicts
    pub round_calm :
        (j k : ℕ) → j < R.n → k < R.n → (k ≡ p → ⊥) → held_of (station_at (R.ready u) j) k ≡ true →
        conflicts (heard_through (R.ready u) (R.masks (suc u)) p j).station
        (framed (station_at (R.ready u) j).n (record_of (station_at (R.ready u) j) k))
        ≡ false
    round_calm j k lj lk d e =
        frame_calm u p lp (station_at (R.ready u) p) j lj (station_at (R.ready u) j) (all j lj)
        (heard_through (R.ready u) (R.masks (suc u)) p j) (λ q. heard_version u p j q) (hear_senders j (omega arith)) k lk d e

    -- all of them
    pub hear_round : Standing R u p (station_at (R.ready u) p) (hearing_in R u p) (λ q. heard_version u p R.n q)
    hear_round =
        subst (λ m. Standing R u p (station_at (R.ready u) p) (heard_through (R.ready u) (R.masks (suc u)) p m) (λ q. heard_version u p R.n q))
        (sym ready_size) (hear_senders R.n (le_refl R.n))

    -- of another station that is the clock of the round
    pub heard_version_lem : (q : ℕ) → (p ≡ q → ⊥) → heard_version u p R.n q ≡ news L (suc u) p q
    heard_version_lem = hearing_all L u p
