-- One step of hearing: a cell that stands for version v, given a record of version w + 1, stands
-- for the later of the two, and the number rises, by one, exactly if the record advances it; label,
-- count, lane, taking and overflow all hang on that one test.
use Prim.Native.Nat.{ℕ, suc, max, ◌+◌, ◌%◌, ◌≤◌, ◌<◌}
use mathlib.Core.Bool.{Bool, true, false, cond, not, ◌&&◌, ◌||◌, or-false}
use mathlib.Core.List.{List, [], ◌∷◌, ◌++◌, append-nil}
use mathlib.Core.Logic.{inl}
use mathlib.Core.Path.{◌≡◌, refl, sym, ap, ◌∙◌, subst}
use native.Mathlib.Decide.{ℕ_discrete}
use native.Mathlib.Omega.{arith}
use borrow.Author.Tests.{lt-ltb}
use lib.Dec.{leb, eqb}
use Rattle.bodies.specs.declared.Body.{Body}
use Rattle.bodies.specs.Body.{is_empty}
use Rattle.labels.specs.Label.{successor}
use Rattle.links.specs.Relay.{Links}
use Rattle.links.specs.Inner.Clock.{news}
use Rattle.links.specs.Inner.Number.{start, num, num_of, got, got_of, tally}
use Rattle.links.proofs.Clock.{news_limit}
use Rattle.links.proofs.Number.{start_limit}
use Rattle.links.proofs.Got.{got-num_of, num_of_some, num_of_mono, got_mono, num_limit}
use Rattle.links.proofs.Bounds.{got_of_some}
use Rattle.links.proofs.Version.{got_of_mono, got_of_limit, got_of_close, num_of_limit}
use Rattle.links.proofs.Tally.{tally_same, tally_rises}
use Rattle.frame_spec.specs.declared.Record.{Record}
use Rattle.frame_spec.specs.Record.{record_label}
use Rattle.lists.specs.Below.{any_below}
use Rattle.lists.proofs.Laws.{any_below_ext, any_below_add}
use Rattle.station_spec.specs.declared.Station.{Station}
use Rattle.station_spec.specs.declared.Taking.{Taking}
use Rattle.queues.specs.Lane.{pushed}
use Rattle.bodies.specs.Refusals.{done, lane_full, refuse_number}
use Rattle.station_spec.specs.State.{Cell, label_of, acked_of, record_of, lane_at}
use Rattle.station_spec.specs.Hearing.{Hearing, advances, takes, overfills, saturating_suc, heard_newer, hear_record}
use Rattle.station_spec.proofs.HearRecord.{accepts, heard_one, hear_record_skips, hear_record-accepts}
use Rattle.station_spec.proofs.Cells
use Rattle.group_spec.specs.History.{takings_of}
use Rattle.group_spec.proofs.Run.{Run, links_of}
use Rattle.group_spec.proofs.Version.{Stands, CellStands, CellAt, Caught, Alike, gains, shown_same}
use Rattle.group_spec.proofs.Outcome.{Outcome, skipped, renewed, advanced, outcome}
use Rattle.group_spec.proofs.Standing.{Standing, standing-alike, standing_count}
use Rattle.group_spec.proofs.HearParts.{acked_mod, label_step, saturating_suc_step, caught_move, not_risen, risen, lane_before, caught_step, stands-replaced, formed_heard}
use Rattle.group_spec.proofs.Takings.{takings_of-append, taking_other, taking_here}

-- one refusal after another with the same number
either : (a b : Bool) → max (refuse_number b lane_full done) (refuse_number a lane_full done) ≡ refuse_number (b || a) lane_full done
either true true = refl
either true false = refl
either false true = refl
either false false = refl

module _ (R : Run) where
  abbrev L : Links
  L = links_of R

  -- a record that the station heeds; b says whether it advances the cell
  module _ (h : Hearing) (r : Record) where
    abbrev s : Station
    s = h.station

    abbrev k : ℕ
    k = r.station

    -- the hearer and its takings once the record is heard
    abbrev s' : Station
    s' = heard_newer s r

    abbrev taking : List Taking
    taking = cond (takes s r) (record { source = k; body = r.body } ∷ []) []

    module _
        (u p : ℕ) (lp : p < R.n) (first : Station) (vs vs' : ℕ → ℕ) (c : Standing R u p first h vs)
        (w j : ℕ) (lk : k < R.n) (other : k ≡ p → ⊥) (lj : j < R.n) (t : Stands R r k w) (from : suc w ≡ news L u j k)
        (rest : (q : ℕ) → (q ≡ k → ⊥) → vs' q ≡ vs q) where
      module _
          (here : vs' k ≡ suc w) (b : Bool) (adv : advances s r ≡ b) (later : vs k < suc w)
          (number : num_of L k (suc w) ≡ cond b (suc (num_of L k (vs k))) (num_of L k (vs k))) where
        within_round : suc w ≤ suc u
        within_round = omega (arith, news_limit L u j k)

        takes_is : takes s r ≡ (b && not (is_empty r.body))
        takes_is = ap (λ (x : Bool). x && not (is_empty r.body)) adv

        had : got L u p k ≤ num_of L k (vs k)
        had =
            omega (
              arith,
              got-num_of L u p k,
              num_of_mono L k (news L u p k) (vs k) (c.low k lk),
            )

        near : num_of L k (suc w) ≤ got L u p k + 1
        near = omega (arith, num_of_limit L u k (suc w) within_round, num_limit L u p k lp)

        own_label : label_of s p ≡ num L u p % 3
        own_label =
            (c.cells p lp).is_label
            ∙ ap (λ (i : ℕ). i % 3) (num_of_some L p (vs p) u c.own_version)

        ack :
            (acked_of s k || eqb (record_label r s.own) (label_of s s.own))
            ≡ eqb (got_of L k p (suc w)) (num L u p)
        ack =
            subst (λ i. (acked_of s k || eqb (record_label r i) (label_of s i)) ≡ eqb (got_of L k p (suc w)) (num L u p))
            (sym c.formed.own)
            (rw ((c.cells k lk).is_acked, t.labels p lp ∙ ap (λ (i : ℕ). i % 3) (sym (got_of_some L k p (suc w) w refl)), own_label)
            (acked_mod (got_of L k p (vs k)) (got_of L k p (suc w)) (num L u p)
            (got_of_mono L k p (vs k) (suc w) (omega arith))
            (got_of_limit L u k p (suc w) within_round)
            (got_of_close L u p k p (suc w) lp lk (omega (arith, c.low k lk)))))

        cell_here : CellAt R u p k (suc w) s'
        cell_here =
            let f = c.formed in
            let high = R.high in
            let e = Cells.heard_here s r f.shape (omega arith) in
            record {
              is_held = ap (λ (x : Cell). x.held) e ∙ sym (lt-ltb 0 (suc w) (omega arith));
              is_acked = ap (λ (x : Cell). x.acked) e ∙ ack;
              is_label =
                  ap (λ (x : Cell). x.label) e
                  ∙ ap (λ (x : Bool). cond x (successor (label_of s k)) (label_of s k)) adv
                  ∙ label_step b (label_of s k) (num_of L k (vs k))
                  (num_of L k (suc w)) (c.cells k lk).is_label number;
              stands =
                  λ x z.
                  subst (λ i. Stands R (record_of s' k) k i) (omega (arith, z))
                  (subst (λ (y : Cell). Stands R y.entry k w) (sym e) (stands-replaced R s r w f.size t));
            }

        cells_after :
            (q : ℕ) → q < R.n → Dec (q ≡ k) →
            CellAt R u p q (vs' q) s'
        cells_after q l (yes e) =
            subst (λ i. CellAt R u p i (vs' i) s')
            (sym e)
            (subst (λ v. CellAt R u p k v s')
            (sym here) cell_here)
        cells_after q l (no d) =
            subst (λ (x : Cell). CellStands R u p q (vs' q) x) (sym (Cells.heard_other s r q d))
            (subst (λ v. CellAt R u p q v s) (sym (rest q d)) (c.cells q l))

        caught_after :
            (q : ℕ) → q < R.n → Dec (q ≡ k) →
            Caught R u p q (vs' q) (lane_at first q) (lane_at s' q)
            (takings_of q (h.takings ++ taking))
        caught_after q l (yes e) =
            let high = R.high in
            subst (λ i. Caught R u p i (vs' i) (lane_at first i) (lane_at s' i)
            (takings_of i (h.takings ++ taking)))
            (sym e)
            (subst (λ v. Caught R u p k v (lane_at first k) (lane_at s' k)
            (takings_of k (h.takings ++ taking)))
            (sym here)
            (caught_move R
            (ap (λ (x : Cell). x.lane) (Cells.heard_here s r c.formed.shape (omega arith))
            ∙ ap
            (λ (x : Bool). cond x (pushed (lane_at s k) r.body) (lane_at s k))
            takes_is)
            (takings_of-append k h.takings taking
            ∙ ap (λ (x : List Body). takings_of k h.takings ++ x)
            (taking_here k (takes s r) r.body ∙ ap (λ (x : Bool). cond x (r.body ∷ []) []) takes_is))
            (caught_step R u p k (vs k) w b r.body (lane_at first k) (lane_at s k)
            (takings_of k h.takings) number had near t.body (c.caught k lk))))
        caught_after q l (no d) =
            caught_move R (ap (λ (x : Cell). x.lane) (Cells.heard_other s r q d))
            (takings_of-append q h.takings taking
            ∙ ap (λ (x : List Body). takings_of q h.takings ++ x) (taking_other q k (takes s r) r.body (λ e. d (sym e)))
            ∙ append-nil (takings_of q h.takings))
            (subst (λ v. Caught R u p q v (lane_at first q) (lane_at s q) (takings_of q h.takings)) (sym (rest q d)) (c.caught q l))

        number_after : (q : ℕ) → q < R.n → Dec (q ≡ k) → b ≡ false → num_of L q (vs' q) ≡ num_of L q (vs q)
        number_after q l (yes e) f =
            subst (λ i. num_of L i (vs' i) ≡ num_of L i (vs i)) (sym e)
            (ap (λ (v : ℕ). num_of L k v) here ∙ rw f at number)
        number_after q l (no d) f = ap (λ (v : ℕ). num_of L q v) (rest q d)

        tally_after :
            (x : Bool) → b ≡ x →
            tally R.n p (λ q. num_of L q (vs' q)) (λ q. got L (start L u p) p q)
            ≡ cond x (suc s.count) s.count
        tally_after true f =
            tally_rises p R.n (λ q. num_of L q (vs q)) (λ q. num_of L q (vs' q))
            (λ q. got L (start L u p) p q) k lk other
            (omega (arith, had, got_mono L (start L u p) u p k (start_limit L u p)))
            (ap (λ (v : ℕ). num_of L k v) here ∙ rw f at number)
            (λ q d. ap (λ (v : ℕ). num_of L q v) (rest q d))
            ∙ ap (λ (i : ℕ). suc i) (sym c.count)
        tally_after false f =
            tally_same p R.n (λ q. num_of L q (vs' q)) (λ q. num_of L q (vs q))
            (λ q. got L (start L u p) p q) (λ q. got L (start L u p) p q)
            (λ q l d. (number_after q l (ℕ_discrete q k) f, refl))
            ∙ sym c.count

        count_after : s'.count ≡ tally R.n p (λ q. num_of L q (vs' q)) (λ q. got L (start L u p) p q)
        count_after =
            let high = R.high in
            Cells.heard_count s r
            ∙ ap (λ (x : Bool). cond x (saturating_suc s.count) s.count) adv
            ∙ saturating_suc_step b s.count
            (tally R.n p (λ q. num_of L q (vs' q)) (λ q. got L (start L u p) p q))
            (omega (arith, standing_count R u p first h vs lp c))
            (tally_after b refl)

        full_at : (ℕ → ℕ) → ℕ → Bool
        full_at ws q = gains R u p q (ws q) && leb 2 (lane_at first q).len

        full_rest : (q : ℕ) → (q ≡ k → ⊥) → full_at vs' q ≡ full_at vs q
        unfolding full_at
        full_rest q d = ap (λ (v : ℕ). gains R u p q v && leb 2 (lane_at first q).len) (rest q d)

        full_here :
            b ≡ true →
            (full_at vs k ≡ false)
            × (full_at vs' k ≡ (takes s r && leb 2 (lane_at s k).len))
        unfolding full_at
        full_here f =
            let e : num_of L k (suc w) ≡ suc (num_of L k (vs k)) = rw f at number in
            let x =
            lane_before R u p k (vs k) w (lane_at first k) (lane_at s k)
            (takings_of k h.takings) e near (c.caught k lk) in (
              rw (not_risen R u p k (vs k) w e near),
              rw (here, risen R u p k (vs k) w e had, takes_is, f, t.body, x),
            )

        overfull_after :
            (x : Bool) → b ≡ x →
            (any_below R.n (λ q. gains R u p q (vs q) && leb 2 (lane_at first q).len) || (takes s r && leb 2 (lane_at s k).len))
            ≡ any_below R.n (λ q. gains R u p q (vs' q) && leb 2 (lane_at first q).len)
        unfolding full_at
        overfull_after true f =
            rw (← (full_here f).1)
            (sym
            (any_below_add R.n (full_at vs) (full_at vs') k lk (full_here f).0 (λ q l d. full_rest q d)))
        overfull_after false f =
            rw (takes_is, f)
            (or-false (any_below R.n (full_at vs))
            ∙ sym
            (any_below_ext R.n (full_at vs') (full_at vs)
            (λ q l.
            let e = number_after q l (ℕ_discrete q k) f in
            rw (e, shown_same R q (vs' q) (vs q) e))))

        standing_heeded : accepts s r ≡ true → Standing R u p first (hear_record h r) vs'
        unfolding heard_one
        standing_heeded e =
            subst (λ x. Standing R u p first x vs') (sym (hear_record-accepts h r e))
            (record {
              formed = formed_heard R p s r c.formed;
              body = Cells.heard_body s r ∙ c.body;
              own_version = rest p (λ q. other (sym q)) ∙ c.own_version;
              low = λ q l. low_after q l (ℕ_discrete q k);
              high = λ q l. high_after q l (ℕ_discrete q k);
              cells = λ q l. cells_after q l (ℕ_discrete q k);
              caught = λ q l. caught_after q l (ℕ_discrete q k);
              count = count_after;
              refusal =
                  ap (λ (q : ℕ). max q (refuse_number (overfills s r) lane_full done)) c.refusal
                  ∙ either (overfills s r) (any_below R.n (λ q. gains R u p q (vs q) && leb 2 (lane_at first q).len))
                  ∙ ap (λ (t : Bool). refuse_number t lane_full done) (overfull_after b refl);
            })
          where
            low_after : (q : ℕ) → q < R.n → Dec (q ≡ k) → news L u p q ≤ vs' q
            low_after q l (yes i) =
                subst (λ x. news L u p x ≤ vs' x) (sym i) (omega (arith, c.low k lk, here))
            low_after q l (no d) = omega (arith, c.low q l, rest q d)

            high_after : (q : ℕ) → q < R.n → Dec (q ≡ k) → vs' q ≤ suc u
            high_after q l (yes i) = subst (λ x. vs' x ≤ suc u) (sym i) (omega (arith, here, within_round))
            high_after q l (no d) = omega (arith, c.high q l, rest q d)

      -- the step
      pub hear_step : vs' k ≡ max (vs k) (suc w) → Standing R u p first (hear_record h r) vs'
      hear_step here =
          go (outcome R s r u p lp c.formed.own other lk (vs k) w j lj c.formed.size (c.cells k lk) t (c.low k lk) (c.high k lk) from)
        where
          go : Outcome R s r k (vs k) w → Standing R u p first (hear_record h r) vs'
          go (skipped e f a) =
              subst (λ x. Standing R u p first x vs') (sym (hear_record_skips h r e f))
              (standing-alike R u p first h vs vs' lp (λ q l. alike q (ℕ_discrete q k))
              (λ q l. below q l (ℕ_discrete q k)) c)
            where
              alike : (q : ℕ) → Dec (q ≡ k) → Alike R q (vs q) (vs' q)
              alike q (yes i) =
                  subst (λ x. Alike R x (vs x) (vs' x)) (sym i) (subst (λ v. Alike R k (vs k) v) (sym here) a)
              alike q (no d) = inl (rest q d)

              below : (q : ℕ) → q < R.n → Dec (q ≡ k) → vs' q ≤ suc u
              below q l (yes i) =
                  subst (λ x. vs' x ≤ suc u) (sym i)
                  (omega (arith, here, c.high k lk, news_limit L u j k))
              below q l (no d) = omega (arith, c.high q l, rest q d)
          go (renewed e adv later number) = standing_heeded (omega arith) false adv later number e
          go (advanced e adv later number) = standing_heeded (omega arith) true adv later number e
