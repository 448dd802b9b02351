-- The turn of a round: a station whose cells stand for the clocks of the round ends its broadcast
-- exactly if the clocks say so, and is afterwards as the round leaves it, its own record being the
-- newest version of itself.
use Prim.Native.Nat.{ℕ, suc, ◌%◌, ◌≤◌, ◌<◌}
use mathlib.Core.Bool.{Bool, true, false, cond, ◌||◌}
use mathlib.Core.Logic.{⊎_elim}
use mathlib.Core.Path.{◌≡◌, refl, sym, ap, ◌∙◌, subst}
use native.Mathlib.Decide.{ℕ_discrete}
use native.Mathlib.Omega.{arith}
use borrow.Author.Tests.{lt-ltb, eq-eqb, ne_eqb}
use lib.Dec.{ltb, eqb}
use Rattle.labels.specs.Label.{successor}
use Rattle.links.specs.Relay.{Links}
use Rattle.links.specs.Inner.Clock.{news}
use Rattle.links.specs.Inner.Number as number
use Rattle.links.specs.Inner.Number.{start, num, num_of, got, got_of, counted}
use Rattle.links.proofs.Clock.{news_own}
use Rattle.links.proofs.Number.{step}
use Rattle.links.proofs.Got.{got-num_of, got_own, num_of_some}
use Rattle.links.proofs.Bounds.{got_of_some}
use Rattle.links.proofs.Version.{got_of_limit, ends_numbers}
use Rattle.links.proofs.Tally.{tally_same}
use Rattle.links.proofs.Hearing.{counted_start}
use Rattle.lists.specs.Below.{all_below}
use Rattle.lists.proofs.Laws.{all_below_ext}
use Rattle.station_spec.specs.declared.Station.{Station}
use Rattle.station_spec.specs.State.{label_of, acked_of, held_of, record_of}
use Rattle.station_spec.specs.Hearing.{Hearing}
use Rattle.station_spec.specs.Turn as turn
use Rattle.station_spec.specs.Turn.{after_end, own_record, after_turn, started_body}
use Rattle.station_spec.proofs.TurnParts.{ends_each}
use Rattle.station_spec.proofs.Setters.{Shaped}
use Rattle.station_spec.proofs.TurnCells
use Rattle.group_spec.specs.State.{station_at}
use Rattle.group_spec.proofs.Run.{Run, links_of}
use Rattle.group_spec.proofs.Version.{Stands, shown}
use Rattle.group_spec.proofs.Standing.{Formed, Standing}
use Rattle.group_spec.proofs.HearParts.{label_step}
use Rattle.group_spec.proofs.RoundHeard.{After}

module _ (R : Run) where
  abbrev L : Links
  L = links_of R

  module _ (h : Hearing) where
    abbrev s : Station
    s = h.station

    module _
        (u p : ℕ) (lp : p < R.n) (first : Station) (vs : ℕ → ℕ) (c : Standing R u p first h vs)
        (clock : (q : ℕ) → (q ≡ p → ⊥) → vs q ≡ news L (suc u) p q) where
      own_acked : acked_of s p ≡ true
      own_acked =
          (c.cells p lp).is_acked
          ∙ eq-eqb (got_of L p p (vs p)) (num L u p)
          (got_of_some L p p (vs p) u c.own_version ∙ got_own L u p)

      -- the end
      pub ends_agree : turn.broadcast_ends s ≡ number.ends L (suc u) p
      ends_agree =
          ends_each s
          ∙ ap (λ (m : ℕ). all_below m (acked_of s)) c.formed.size
          ∙ all_below_ext R.n (acked_of s)
          (λ q. eqb q p || eqb (got_of L q p (news L (suc u) p q)) (num L u p)) (λ q l. one q l (ℕ_discrete q p))
          ∙ sym (ends_numbers L u p)
        where
          one :
              (q : ℕ) → q < R.n → Dec (q ≡ p) →
              acked_of s q ≡ (eqb q p || eqb (got_of L q p (news L (suc u) p q)) (num L u p))
          one q l (yes e) =
              ap (λ (i : ℕ). acked_of s i) e
              ∙ own_acked
              ∙ ap (λ (b : Bool). b || eqb (got_of L q p (news L (suc u) p q)) (num L u p)) (sym (eq-eqb q p e))
          one q l (no d) =
              (c.cells q l).is_acked
              ∙ ap (λ (v : ℕ). eqb (got_of L q p v) (num L u p)) (clock q d)
              ∙ ap (λ (b : Bool). b || eqb (got_of L q p (news L (suc u) p q)) (num L u p)) (sym (ne_eqb q p d))

      shape : Shaped s
      shape = c.formed.shape

      few : s.n ≤ 16
      few = omega (arith, c.formed.size, R.high)

      below : s.own < s.n
      below = omega (arith, c.formed.size, c.formed.own)

      formed_turn : Formed R p (after_turn s)
      formed_turn =
          let f = c.formed in
          let high = R.high in
          record {
            size = TurnCells.turn_n s ∙ f.size;
            own = TurnCells.turn_own s ∙ f.own;
            shape = TurnCells.after_turn-shaped s f.shape;
          }

      -- b says whether the broadcast ends
      module _
          (b : Bool) (ended : turn.broadcast_ends s ≡ b) (start_now : start L (suc u) p ≡ cond b (suc u) (start L u p))
          (num_now : num L (suc u) p ≡ cond b (suc (num L u p)) (num L u p))
          (began : first.body ≡ shown R p (suc u)) (after : station_at (R.after (suc u)) p ≡ after_turn s) where
        count_turn : (after_turn s).count ≡ counted L (suc u) p
        unfolding counted
        count_turn =
            TurnCells.turn_count s ∙ ap (λ (x : Bool). cond x 0 s.count) ended ∙ go b start_now
          where
            go :
                (x : Bool) → start L (suc u) p ≡ cond x (suc u) (start L u p) →
                cond x 0 s.count ≡ counted L (suc u) p
            go true e = sym (counted_start L (suc u) p e)
            go false e =
                c.count
                ∙ tally_same p R.n (λ q. num_of L q (vs q)) (λ q. got L (suc u) p q)
                (λ q. got L (start L u p) p q) (λ q. got L (start L (suc u) p) p q)
                (λ q l d. (
                  ap (λ (v : ℕ). num_of L q v) (clock q d) ∙ sym (got-num_of L (suc u) p q),
                  ap (λ (t : ℕ). got L t p q) (sym e),
                ))

        body_turn : (after_turn s).body ≡ shown R p (suc (suc u))
        body_turn = go b ended start_now
          where
            go :
                (x : Bool) → turn.broadcast_ends s ≡ x → start L (suc u) p ≡ cond x (suc u) (start L u p) →
                (after_turn s).body ≡ shown R p (suc (suc u))
            go true f e =
                ap (λ (s : Station). s.body) (sym after) ∙ ap (λ (t : ℕ). (station_at (R.after t) p).body) (sym e)
            go false f e =
                TurnCells.turn_body s
                ∙ ap (λ (x : Bool). cond x (started_body s) s.body) f
                ∙ c.body
                ∙ began
                ∙ ap (λ (t : ℕ). (station_at (R.after t) p).body) (sym e)

        own_label_now : label_of (after_turn s) p ≡ num L (suc u) p % 3
        own_label_now =
            subst (λ i. label_of (after_turn s) i ≡ num L (suc u) p % 3) c.formed.own
            (TurnCells.turn_label_own s shape few below
            ∙ ap
            (λ (x : Bool). cond x (successor (label_of s s.own)) (label_of s s.own))
            ended
            ∙ label_step b (label_of s s.own) (num L u p) (num L (suc u) p)
            (ap (λ (i : ℕ). label_of s i) c.formed.own
            ∙ (c.cells p lp).is_label
            ∙ ap (λ (i : ℕ). i % 3) (num_of_some L p (vs p) u c.own_version))
            num_now)

        -- the labels
        label_now : (q : ℕ) → q < R.n → Dec (q ≡ p) → label_of (after_turn s) q ≡ got L (suc u) p q % 3
        label_now q l (yes e) =
            subst (λ i. label_of (after_turn s) i ≡ got L (suc u) p i % 3) (sym e)
            (own_label_now ∙ ap (λ (i : ℕ). i % 3) (sym (got_own L (suc u) p)))
        label_now q l (no d) =
            TurnCells.turn_label_other s shape few below q (omega (arith, c.formed.size)) (λ e. d (e ∙ c.formed.own))
            ∙ (c.cells q l).is_label
            ∙ ap (λ (i : ℕ). i % 3)
            (ap (λ (v : ℕ). num_of L q v) (clock q d) ∙ sym (got-num_of L (suc u) p q))

        label_fits : (q : ℕ) → q < s.n → label_of (after_turn s) q < 4
        label_fits q l = omega (arith, label_now q (omega (arith, c.formed.size)) (ℕ_discrete q p))

        own_stands : Stands R (own_record (after_end s)) p (suc u)
        own_stands =
            record {
              station = TurnCells.own_station s shape few below ∙ c.formed.own;
              count = TurnCells.own_count s shape few below ∙ count_turn;
              body = TurnCells.own_body s shape few below ∙ body_turn;
              labels = λ k l. TurnCells.own_label s shape few below label_fits k (omega (arith, c.formed.size)) ∙ label_now k l (ℕ_discrete k p);
            }

        acked_turn : (q : ℕ) → q < R.n → acked_of (after_turn s) q ≡ cond b (eqb q p) (acked_of s q)
        acked_turn q l =
            TurnCells.turn_acked s shape few below q (omega (arith, c.formed.size))
            ∙ ap (λ (x : Bool). cond x (eqb q s.own) (acked_of s q)) ended
            ∙ ap (λ (i : ℕ). cond b (eqb q i) (acked_of s q)) c.formed.own

        -- the acknowledgements
        acked_now :
            (q : ℕ) → q < R.n → Dec (q ≡ p) →
            acked_of (after_turn s) q ≡ eqb (got_of L q p (news L (suc u) p q)) (num L (suc u) p)
        acked_now q l (yes e) =
            subst (λ i. acked_of (after_turn s) i ≡ eqb (got_of L i p (news L (suc u) p i)) (num L (suc u) p))
            (sym e)
            (acked_turn p lp
            ∙ go b
            ∙ sym
            (eq-eqb (got_of L p p (news L (suc u) p p)) (num L (suc u) p)
            (got_of_some L p p (news L (suc u) p p) (suc u) (news_own L (suc u) p) ∙ got_own L (suc u) p)))
          where
            go : (x : Bool) → cond x (eqb p p) (acked_of s p) ≡ true
            go true = eq-eqb p p refl
            go false = own_acked
        acked_now q l (no d) = acked_turn q l ∙ go b num_now
          where
            go :
                (x : Bool) → num L (suc u) p ≡ cond x (suc (num L u p)) (num L u p) →
                cond x (eqb q p) (acked_of s q) ≡ eqb (got_of L q p (news L (suc u) p q)) (num L (suc u) p)
            go true e =
                ne_eqb q p d
                ∙ sym
                (ne_eqb (got_of L q p (news L (suc u) p q)) (num L (suc u) p)
                (λ f. omega (
                  arith,
                  got_of_limit L u q p (news L (suc u) p q) (omega (arith, clock q d, c.high q l)),
                )))
            go false e =
                (c.cells q l).is_acked
                ∙ ap (λ (v : ℕ). eqb (got_of L q p v) (num L u p)) (clock q d)
                ∙ ap (λ (m : ℕ). eqb (got_of L q p (news L (suc u) p q)) m) (sym e)

        held_now : (q : ℕ) → q < R.n → Dec (q ≡ p) → held_of (after_turn s) q ≡ ltb 0 (news L (suc u) p q)
        held_now q l (yes e) =
            subst (λ i. held_of (after_turn s) i ≡ ltb 0 (news L (suc u) p i)) (sym e)
            (TurnCells.turn_held s shape few below p (omega (arith, c.formed.size))
            ∙ (c.cells p lp).is_held
            ∙ lt-ltb 0 (vs p) (omega (arith, c.own_version))
            ∙ sym (lt-ltb 0 (news L (suc u) p p) (omega (arith, news_own L (suc u) p))))
        held_now q l (no d) =
            TurnCells.turn_held s shape few below q (omega (arith, c.formed.size)) ∙ (c.cells q l).is_held ∙ ap (λ (v : ℕ). ltb 0 v) (clock q d)

        -- the table
        stands_now :
            (q : ℕ) → q < R.n → Dec (q ≡ p) → (w : ℕ) → news L (suc u) p q ≡ suc w →
            Stands R (record_of (after_turn s) q) q w
        stands_now q l (yes e) w f =
            subst (λ i. Stands R (record_of (after_turn s) i) i w) (sym e)
            (subst (λ i. Stands R (record_of (after_turn s) p) p i)
            (omega (arith, news_own L (suc u) p, f, ap (λ (i : ℕ). news L (suc u) p i) e))
            (subst (λ x. Stands R x p (suc u))
            (sym
            (ap (λ (i : ℕ). record_of (after_turn s) i) (sym c.formed.own)
            ∙ TurnCells.turn_record_own s shape few below))
            own_stands))
        stands_now q l (no d) w f =
            subst (λ x. Stands R x q w) (sym (TurnCells.turn_record_other s shape few below q (omega (arith, c.formed.size)) (λ e. d (e ∙ c.formed.own))))
            ((c.cells q l).stands w (clock q d ∙ f))

        after_turn_lem : After R (suc u) p (after_turn s)
        after_turn_lem =
            record {
              formed = formed_turn;
              body = body_turn;
              count = count_turn;
              cells =
                  λ q l.
                  record {
                    is_held = held_now q l (ℕ_discrete q p);
                    is_acked = acked_now q l (ℕ_discrete q p);
                    is_label = label_now q l (ℕ_discrete q p) ∙ ap (λ (i : ℕ). i % 3) (got-num_of L (suc u) p q);
                    stands = stands_now q l (ℕ_discrete q p);
                  };
            }

      -- the turn
      pub turn_step :
          first.body ≡ shown R p (suc u) → station_at (R.after (suc u)) p ≡ after_turn s →
          After R (suc u) p (station_at (R.after (suc u)) p)
      turn_step began after =
          subst (λ s. After R (suc u) p s) (sym after)
          (⊎_elim
          (λ (e : (number.ends L (suc u) p ≡ true) × (start L (suc u) p ≡ suc u) × (num L (suc u) p ≡ suc (num L u p))).
          after_turn_lem true (ends_agree ∙ e.0) e.1 e.2 began after)
          (λ (e : (number.ends L (suc u) p ≡ false) × (start L (suc u) p ≡ start L u p) × (num L (suc u) p ≡ num L u p)).
          after_turn_lem false (ends_agree ∙ e.0) e.1 e.2 began after)
          (step L u p))
