-- The parts of one step of hearing, as facts about single values: the acknowledgement, the label,
-- the count, the lane and what is taken, and the record put in the place of the held one. b says
-- each time whether the record advances the cell.
use Prim.Native.Nat.{ℕ, suc, ◌+◌, ◌%◌, ◌≤◌, ◌<◌}
use mathlib.Core.Bool.{Bool, true, false, cond, not, ◌&&◌, ◌||◌, or-true}
use mathlib.Core.List.{List, [], ◌∷◌, ◌++◌, append-nil}
use mathlib.Core.Path.{◌≡◌, sym, ap, ◌∙◌}
use native.Mathlib.Decide.{ℕ_discrete}
use native.Mathlib.Omega.{arith}
use borrow.Author.Tests.{lt-ltb, le-ltb, eq-eqb, ne_eqb}
use lib.Dec.{ltb, eqb}
use Rattle.bodies.specs.declared.Body.{Body}
use Rattle.bodies.specs.Body.{is_empty}
use Rattle.labels.specs.Label.{successor}
use Rattle.links.specs.Relay.{Links}
use Rattle.links.specs.Inner.Number.{num_of, got}
use Rattle.frame_spec.specs.declared.Record.{Record}
use Rattle.queues.specs.declared.Lane.{Lane}
use Rattle.lists.proofs.Laws.{cond-not}
use Rattle.station_spec.specs.declared.Station.{Station}
use Rattle.queues.specs.Lane.{pushed}
use Rattle.station_spec.specs.State.{record_of}
use Rattle.station_spec.specs.Hearing.{saturating_suc, replaced, heard_newer}
use Rattle.station_spec.proofs.Cells
use Rattle.station_spec.proofs.Shape.{heard_newer-shaped}
use Rattle.group_spec.proofs.Run.{Run, links_of}
use Rattle.group_spec.proofs.Version.{Stands, Caught, shown, caught_same}
use Rattle.group_spec.proofs.Standing.{Formed}

-- an acknowledgement at most two behind, read modulo 3, is one of this very broadcast; and one that
-- was there is still one
pub acked_mod : (g₀ g m : ℕ) → g₀ ≤ g → g ≤ m → m ≤ g + 2 → (eqb g₀ m || eqb (g % 3) (m % 3)) ≡ eqb g m
acked_mod g₀ g m a b c =
    elim (ℕ_discrete g m) [
      | yes e ↦ rw (eq-eqb g m e, eq-eqb (g % 3) (m % 3) (ap (λ (i : ℕ). i % 3) e)) (or-true (eqb g₀ m))
      | no d ↦ rw (ne_eqb g m d, ne_eqb (g % 3) (m % 3) (omega arith), ne_eqb g₀ m (omega arith))
    ]

pub label_step : (b : Bool) (l a a' : ℕ) → l ≡ a % 3 → a' ≡ cond b (suc a) a → cond b (successor l) l ≡ a' % 3
label_step true l a a' e f = omega arith
label_step false l a a' e f = e ∙ ap (λ (i : ℕ). i % 3) (sym f)

pub saturating_suc_step : (b : Bool) (c t : ℕ) → c < 255 → t ≡ cond b (suc c) c → cond b (saturating_suc c) c ≡ t
saturating_suc_step true c t l e = rw (lt-ltb c 255 l) (omega arith)
saturating_suc_step false c t l e = sym e

module _ (R : Run) where
  abbrev L : Links
  L = links_of R

  pub caught_move :
      {u p q v : ℕ} {before lane lane' : Lane} {taken taken' : List Body} → lane' ≡ lane → taken' ≡ taken →
      Caught R u p q v before lane taken → Caught R u p q v before lane' taken'
  caught_move a b x = record { lane_now = a ∙ x.lane_now; taken_now = b ∙ x.taken_now }

  -- a body that comes with a number: not yet risen before, risen after
  pub not_risen :
      (u p k v w : ℕ) → num_of L k (suc w) ≡ suc (num_of L k v) → num_of L k (suc w) ≤ got L u p k + 1 → ltb (got L u p k) (num_of L k v) ≡ false
  not_risen u p k v w e l = le-ltb (got L u p k) (num_of L k v) (omega arith)

  pub risen :
      (u p k v w : ℕ) → num_of L k (suc w) ≡ suc (num_of L k v) → got L u p k ≤ num_of L k v → ltb (got L u p k) (num_of L k (suc w)) ≡ true
  risen u p k v w e l = lt-ltb (got L u p k) (num_of L k (suc w)) (omega arith)

  pub lane_before :
      (u p k v w : ℕ) (before lane : Lane) (taken : List Body) → num_of L k (suc w) ≡ suc (num_of L k v) →
      num_of L k (suc w) ≤ got L u p k + 1 → Caught R u p k v before lane taken → lane ≡ before
  lane_before u p k v w before lane taken e l c = c.lane_now ∙ rw (not_risen u p k v w e l)

  pub caught_step :
      (u p k v w : ℕ) (b : Bool) (body : Body) (before lane : Lane) (taken : List Body) →
      num_of L k (suc w) ≡ cond b (suc (num_of L k v)) (num_of L k v) →
      got L u p k ≤ num_of L k v → num_of L k (suc w) ≤ got L u p k + 1 →
      body ≡ shown R k (suc w) → Caught R u p k v before lane taken →
      Caught R u p k (suc w) before (cond (b && not (is_empty body)) (pushed lane body) lane)
      (taken ++ cond (b && not (is_empty body)) (body ∷ []) [])
  caught_step u p k v w true body before lane taken e low high f c =
      let still = not_risen u p k v w e high in
      let up = risen u p k v w e low in
      let x : lane ≡ before = lane_before u p k v w before lane taken e high c in
      let y : taken ≡ [] = c.taken_now ∙ rw still in
      record {
        lane_now = rw (up, x, f);
        taken_now = rw (up, y, f) (cond-not (is_empty (shown R k (suc w))) (shown R k (suc w) ∷ []) []);
      }
  caught_step u p k v w false body before lane taken e low high f c =
      let d = caught_same R u p k v (suc w) before lane taken (sym e) c in
      record { lane_now = d.lane_now; taken_now = append-nil taken ∙ d.taken_now }

  pub stands-replaced :
      (s : Station) (r : Record) (w : ℕ) → s.n ≡ R.n → Stands R r r.station w →
      Stands R (replaced s.n (record_of s r.station) r) r.station w
  stands-replaced s r w e t =
      let old = record_of s r.station in
      record {
        station = Cells.replaced_station s.n old r ∙ t.station;
        count = Cells.replaced_count s.n old r ∙ t.count;
        body = Cells.replaced_body s.n old r ∙ t.body;
        labels = λ i b. Cells.replaced_label s.n old r i (omega arith) ∙ t.labels i b;
      }

  pub formed_heard : (p : ℕ) (s : Station) (r : Record) → Formed R p s → Formed R p (heard_newer s r)
  formed_heard p s r f =
      record {
        size = Cells.heard_n s r ∙ f.size;
        own = Cells.heard_own s r ∙ f.own;
        shape = heard_newer-shaped s r f.shape;
      }
