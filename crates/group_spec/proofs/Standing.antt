-- The invariant of a round's hearing: of every station the hearer's cell stands for some version,
-- and the count, the lanes, the takings and whether a lane overflowed are what those versions say.
-- Versions are a function of the station, compared place by place.
use Prim.Native.Nat.{ℕ, suc, ◌*◌, ◌-◌, ◌≤◌, ◌<◌}
use mathlib.Core.Bool.{Bool, ◌&&◌}
use mathlib.Core.Logic.{inl, inr}
use mathlib.Core.Path.{◌≡◌, refl, sym, ap, ◌∙◌, subst}
use native.Mathlib.Omega.{arith}
use lib.Dec.{leb}
use Rattle.links.specs.Relay.{Links}
use Rattle.links.specs.Inner.Clock.{news}
use Rattle.links.specs.Inner.Number.{start, num_of, got, tally}
use Rattle.links.proofs.Got.{num_limit}
use Rattle.links.proofs.Bounds.{within}
use Rattle.links.proofs.Version.{num_of_limit}
use Rattle.links.proofs.Tally.{tally_same, tally_limit}
use Rattle.lists.specs.Below.{any_below}
use Rattle.lists.proofs.Laws.{any_below_ext}
use Rattle.station_spec.specs.declared.Station.{Station}
use Rattle.bodies.specs.Refusals.{done, lane_full, refuse_number}
use Rattle.station_spec.specs.State.{lane_at}
use Rattle.station_spec.specs.Hearing.{Hearing}
use Rattle.station_spec.proofs.Setters.{Shaped}
use Rattle.group_spec.specs.History.{takings_of}
use Rattle.group_spec.proofs.Run.{Run, links_of}
use Rattle.group_spec.proofs.Version.{CellAt, Caught, Alike, gains, shown_same, alike_number, cell-alike, caught_same}

module _ (R : Run) where
  abbrev L : Links
  L = links_of R

  -- station p with its numbers, and with the lengths of its arrays
  pub record Formed (p : ℕ) (s : Station) : Type 0 where
    pub size : s.n ≡ R.n
    pub own : s.own ≡ p
    pub shape : Shaped s

  -- p in round u + 1, first was the station before it heard anything
  pub record Standing (u p : ℕ) (first : Station) (h : Hearing) (vs : ℕ → ℕ) : Type 0 where
    pub formed : Formed p h.station
    pub body : h.station.body ≡ first.body
    pub own_version : vs p ≡ suc u
    pub low : (q : ℕ) → q < R.n → news L u p q ≤ vs q
    pub high : (q : ℕ) → q < R.n → vs q ≤ suc u
    pub cells :
        (q : ℕ) → q < R.n →
        CellAt R u p q (vs q) h.station
    pub caught : (q : ℕ) → q < R.n → Caught R u p q (vs q) (lane_at first q) (lane_at h.station q) (takings_of q h.takings)
    pub count : h.station.count ≡ tally R.n p (λ q. num_of L q (vs q)) (λ q. got L (start L u p) p q)
    pub refusal :
        h.refusal ≡ refuse_number (any_below R.n (λ q. gains R u p q (vs q) && leb 2 (lane_at first q).len)) lane_full done

  alike_later : (q v v' : ℕ) → Alike R q v v' → v ≤ v'
  alike_later q v v' (inl e) = omega arith
  alike_later q v v' (inr a) = omega (arith, a.2, a.3, a.4)

  -- it stands for versions that show the same
  pub standing-alike :
      (u p : ℕ) (first : Station) (h : Hearing) (vs vs' : ℕ → ℕ) → p < R.n → ((q : ℕ) → q < R.n → Alike R q (vs q) (vs' q)) →
      ((q : ℕ) → q < R.n → vs' q ≤ suc u) → Standing u p first h vs → Standing u p first h vs'
  standing-alike u p first h vs vs' lp same below c =
      let number : (q : ℕ) → q < R.n → num_of L q (vs q) ≡ num_of L q (vs' q) =
      λ q l. alike_number R q (vs q) (vs' q) (same q l) in
      record {
        formed = c.formed;
        body = c.body;
        own_version = omega (arith, c.own_version, alike_later p (vs p) (vs' p) (same p lp), below p lp);
        low = λ q l. omega (arith, c.low q l, alike_later q (vs q) (vs' q) (same q l));
        high = below;
        cells = λ q l. cell-alike R u p q (vs q) (vs' q) _ lp (same q l) (c.cells q l);
        caught = λ q l. caught_same R u p q (vs q) (vs' q) _ _ _ (number q l) (c.caught q l);
        count =
            c.count
            ∙ tally_same p R.n (λ q. num_of L q (vs q)) (λ q. num_of L q (vs' q))
            (λ q. got L (start L u p) p q) (λ q. got L (start L u p) p q)
            (λ q l d. (number q l, refl));
        refusal =
            c.refusal
            ∙ ap (λ (t : Bool). refuse_number t lane_full done)
            (any_below_ext R.n (λ q. gains R u p q (vs q) && leb 2 (lane_at first q).len)
            (λ q. gains R u p q (vs' q) && leb 2 (lane_at first q).len)
            (λ q l. gains_same q (vs q) (vs' q) (leb 2 (lane_at first q).len) (number q l)));
      }
    where
      gains_same : (q v v' : ℕ) (b : Bool) → num_of L q v ≡ num_of L q v' → (gains R u p q v && b) ≡ (gains R u p q v' && b)
      gains_same q v v' b e = rw (e, shown_same R q v v' e)

  -- while hearing, the count is at most three for each other station, so it stays far below 255
  pub standing_count :
      (u p : ℕ) (first : Station) (h : Hearing) (vs : ℕ → ℕ) → p < R.n → Standing u p first h vs → h.station.count ≤ 3 * (R.n - 1)
  standing_count u p first h vs lp c =
      subst (λ i. i ≤ 3 * (R.n - 1)) (sym c.count)
      (tally_limit 3 p R.n (λ q. num_of L q (vs q)) (λ q. got L (start L u p) p q) lp
      (λ q l d.
      omega (
        arith,
        num_of_limit L u q (vs q) (c.high q l),
        num_limit L u p q lp,
        within L u p q lp l d,
      )))
