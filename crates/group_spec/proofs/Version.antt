-- What a record, and the cell of a station, mean: a version of that station, 0 for none and w + 1
-- for the station as round w left it. All that a version shows is said by links alone, save the
-- body, which is said by the round in which the broadcast began. So two versions with the same
-- number and the same count show the same, and a cell that stands for the one stands for the other.
use Prim.Native.Nat.{ℕ, zero, suc, pred, ◌%◌, ◌≤◌, ◌<◌}
use mathlib.Core.Bool.{Bool, cond, not, ◌&&◌}
use mathlib.Core.List.{List, []}
use mathlib.Core.Logic.{◌⊎◌, inl, inr}
use mathlib.Core.Path.{◌≡◌, refl, sym, ap, ◌∙◌, subst}
use native.Mathlib.Decide.{ℕ_discrete}
use native.Mathlib.Omega.{arith}
use borrow.Author.Tests.{lt-ltb}
use lib.Dec.{ltb, eqb}
use Rattle.bodies.specs.declared.Body.{Body}
use Rattle.bodies.specs.Body.{is_empty}
use Rattle.links.specs.Relay.{Links}
use Rattle.links.specs.Inner.Number.{start, num, num_of, got, got_of, counted}
use Rattle.links.proofs.Number.{num_positive, same_start}
use Rattle.links.proofs.Got.{num_of_none, num_of_some, got_own}
use Rattle.links.proofs.Bounds.{got_of_some}
use Rattle.links.proofs.Version.{counted_pins}
use Rattle.frame_spec.specs.declared.Record.{Record}
use Rattle.frame_spec.specs.Record.{record_label}
use Rattle.queues.specs.declared.Lane.{Lane}
use Rattle.station_spec.specs.declared.Station.{Station}
use Rattle.queues.specs.Lane.{pushed}
use Rattle.station_spec.specs.State.{Cell, cell_of}
use Rattle.group_spec.specs.State.{station_at}
use Rattle.group_spec.specs.History.{unless_empty}
use Rattle.group_spec.proofs.Run.{Run, links_of}

module _ (R : Run) where
  abbrev L : Links
  L = links_of R

  -- the body of the broadcast that version v of q shows
  abbrev pub shown : ℕ → ℕ → Body
  shown q v = (station_at (R.after (start L (pred v) q)) q).body

  -- r is q's own record as round w left it; its labels are looked at below n only
  pub record Stands (r : Record) (q w : ℕ) : Type 0 where
    pub station : r.station ≡ q
    pub count : r.count ≡ counted L w q
    pub body : r.body ≡ shown q (suc w)
    pub labels : (k : ℕ) → k < R.n → record_label r k ≡ got L w q k % 3

  -- two versions of q of which the second is the first, or later with the same number and count
  abbrev pub Alike : ℕ → ℕ → ℕ → Type 0
  Alike q v v' =
      (v' ≡ v)
      ⊎ ((x : ℕ)
      × (w : ℕ)
      × (v ≡ suc x)
      × (v' ≡ suc w)
      × (x ≤ w)
      × (num L x q ≡ num L w q)
      × (counted L x q ≡ counted L w q))

  -- the same number: the same body
  pub shown_same : (q v v' : ℕ) → num_of L q v ≡ num_of L q v' → shown q v ≡ shown q v'
  shown_same q zero zero e = refl
  shown_same q zero (suc w) e =
      absurd (omega (arith, num_of_none L q 0 refl, num_of_some L q (suc w) w refl, num_positive L w q))
  shown_same q (suc x) zero e =
      absurd (omega (arith, num_of_none L q 0 refl, num_of_some L q (suc x) x refl, num_positive L x q))
  shown_same q (suc x) (suc w) e =
      ap (λ (t : ℕ). (station_at (R.after t) q).body)
      (same_start L x w q (sym (num_of_some L q (suc x) x refl) ∙ e ∙ num_of_some L q (suc w) w refl))

  pub got_alike :
      (q x w : ℕ) → x ≤ w → num L x q ≡ num L w q → counted L x q ≡ counted L w q →
      (k : ℕ) → k < R.n → got L x q k ≡ got L w q k
  got_alike q x w l e f k b =
      elim (ℕ_discrete k q) [
        | yes i ↦ rw i (got_own L x q ∙ e ∙ sym (got_own L w q))
        | no d ↦ counted_pins L x w q l e f k b d
      ]

  stands_alike :
      (r : Record) (q x w : ℕ) → x ≤ w → num L x q ≡ num L w q → counted L x q ≡ counted L w q →
      Stands r q x → Stands r q w
  stands_alike r q x w l e f c =
      record {
        station = c.station;
        count = c.count ∙ f;
        body =
            c.body
            ∙ shown_same q (suc x) (suc w) (num_of_some L q (suc x) x refl ∙ e ∙ sym (num_of_some L q (suc w) w refl));
        labels = λ k b. c.labels k b ∙ ap (λ (g : ℕ). g % 3) (got_alike q x w l e f k b);
      }

  -- the cell of q at p, where p has the broadcast that round u left it with, stands for version v
  pub record CellStands (u p q v : ℕ) (c : Cell) : Type 0 where
    pub is_held : c.held ≡ ltb 0 v
    pub is_acked : c.acked ≡ eqb (got_of L q p v) (num L u p)
    pub is_label : c.label ≡ num_of L q v % 3
    pub stands : (w : ℕ) → v ≡ suc w → Stands c.entry q w

  -- the same of a station's cell
  abbrev pub CellAt : ℕ → ℕ → ℕ → ℕ → Station → Type 0
  CellAt u p q v s = CellStands u p q v (cell_of s q)

  pub alike_number : (q v v' : ℕ) → Alike q v v' → num_of L q v ≡ num_of L q v'
  alike_number q v v' (inl e) = ap (λ (x : ℕ). num_of L q x) (sym e)
  alike_number q v v' (inr a) =
      num_of_some L q v a.0 a.2 ∙ a.5 ∙ sym (num_of_some L q v' a.1 a.3)

  pub cell-alike :
      (u p q v v' : ℕ) (x : Cell) → p < R.n → Alike q v v' → CellStands u p q v x → CellStands u p q v' x
  cell-alike u p q v v' x lp (inl e) c = subst (λ i. CellStands u p q i x) (sym e) c
  cell-alike u p q v v' x lp (inr a) c =
      record {
        is_held = c.is_held ∙ lt-ltb 0 v (omega (arith, a.2)) ∙ sym (lt-ltb 0 v' (omega (arith, a.3)));
        is_acked =
            c.is_acked
            ∙ ap (λ (g : ℕ). eqb g (num L u p))
            (got_of_some L q p v a.0 a.2
            ∙ got_alike q a.0 a.1 a.4 a.5 a.6 p lp
            ∙ sym (got_of_some L q p v' a.1 a.3));
        is_label = c.is_label ∙ ap (λ (g : ℕ). g % 3) (alike_number q v v' (inr a));
        stands =
            λ w e.
            subst (λ i. Stands x.entry q i) (omega (arith, a.3, e))
            (stands_alike x.entry q a.0 a.1 a.4 a.5 a.6 (c.stands a.0 a.2));
      }

  -- since round u version v of q brought p a new number, and with it a body other than Empty
  abbrev pub gains : ℕ → ℕ → ℕ → ℕ → Bool
  gains u p q v = ltb (got L u p q) (num_of L q v) && not (is_empty (shown q v))

  -- what p took of q with it, and what became of the lane
  pub record Caught (u p q v : ℕ) (before lane : Lane) (taken : List Body) : Type 0 where
    pub lane_now : lane ≡ cond (gains u p q v) (pushed before (shown q v)) before
    pub taken_now : taken ≡ cond (ltb (got L u p q) (num_of L q v)) (unless_empty (shown q v)) []

  pub caught_same :
      (u p q v v' : ℕ) (before lane : Lane) (taken : List Body) → num_of L q v ≡ num_of L q v' →
      Caught u p q v before lane taken → Caught u p q v' before lane taken
  caught_same u p q v v' before lane taken e c =
      let b = shown_same q v v' e in
      record { lane_now = c.lane_now ∙ rw (e, b); taken_now = c.taken_now ∙ rw (e, b) }
