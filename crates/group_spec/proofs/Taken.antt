-- What p has taken of s is what s had started as p's news of it shows it, so a beginning of what s
-- has started. From one version of s to a later one whose number is at most one higher, at most one
-- body comes: that of the later version.
use mathlib.Core.Bool.{Bool, true, false, cond}
use mathlib.Core.Logic.{◌⊎◌, inl, inr, ⊎_elim}
use mathlib.Core.List.{List, [], ◌∷◌, ◌++◌, append-nil}
use mathlib.Core.Path.{◌≡◌, refl, sym, ap, ◌∙◌}
use Prim.Native.Nat.{ℕ, zero, suc, pred, ◌+◌, ◌-◌, ◌≤◌, ◌<◌}
use native.Mathlib.Decide.{ℕ_discrete}
use native.Mathlib.Nat.{zero-add, suc-add}
use native.Mathlib.Omega.{arith}
use borrow.Author.Tests.{eq-eqb, ne_eqb, lt-ltb, le-ltb}
use lib.Dec.{ltb}
use lib.ListN.{length}
use Rattle.bodies.specs.declared.Body.{Body}
use Rattle.bodies.specs.declared.Body.TheVariants.{Empty}
use Rattle.bodies.specs.Body.{is_empty}
use Rattle.lists.proofs.Later.{from_on}
use Rattle.links.specs.Relay.{Links}
use Rattle.links.specs.Inner.Clock.{news}
use Rattle.links.specs.Inner.Number.{num_of, got}
use Rattle.links.specs.Inner.Number as number
use Rattle.links.proofs.Clock.{news_own, news_start, news_limit, news_keeps}
use Rattle.links.proofs.Number.{step, num_zero}
use Rattle.links.proofs.Got.{num_of_none, num_of_some, num_of_mono, got-num_of, got_step}
use Rattle.station_spec.specs.declared.Setup.{Setup}
use Rattle.station_spec.specs.declared.Station.{Station}
use Rattle.station_spec.specs.State.{fresh_station}
use Rattle.station_spec.specs.Turn.{started_body}
use Rattle.station_spec.proofs.TurnCells.{started_stays}
use Rattle.station_spec.proofs.TurnParts.{body_ends, body_stays, report_started}
use Rattle.group_spec.specs.State.{station_at}
use Rattle.station_spec.proofs.Setters.{fresh_self}
use Rattle.group_spec.specs.History.{takings_of, unless_empty}
use Rattle.group_spec.specs.Demand.{Begins}
use Rattle.group_spec.proofs.Run.{Run, links_of, hearing_in, body_at, rises}
use Rattle.group_spec.proofs.Simulation.{simulated, heard_standing}
use Rattle.group_spec.proofs.Begin.{begins-nil, begins_refl, begins-append, begins_trans}
use Rattle.group_spec.proofs.Rounds.{first_at, after_at}
use Rattle.group_spec.proofs.Lists.{started_by, heard_by, taken_by, started_at, made_by}
use Rattle.group_spec.proofs.Counting.{shown}

fresh_body : (setup : Setup) (p : ℕ) → (fresh_station setup p).body ≡ Empty
fresh_body setup p = (fresh_self setup p).body

module _ (R : Run) where
  abbrev L : Links
  L = links_of R

  pub started_by_step : (u s : ℕ) → started_by R (suc u) s ≡ started_by R u s ++ unless_empty (started_body (hearing_in R u s).station)
  unfolding started_by
  started_by_step u s = ap (λ (b : Body). started_by R u s ++ unless_empty b) (report_started (hearing_in R u s).station)

  heard_by_step : (u p s : ℕ) → heard_by R (suc u) p s ≡ heard_by R u p s ++ takings_of s (hearing_in R u p).takings
  unfolding heard_by
  heard_by_step u p s = refl

  heard_by_none : (p s : ℕ) → heard_by R 0 p s ≡ []
  unfolding heard_by
  heard_by_none p s = refl

  pub started_at_some : (s w : ℕ) → started_at R s (suc w) ≡ started_by R w s
  unfolding started_at
  started_at_some s w = refl

  pub started_at_none : (s : ℕ) → started_at R s 0 ≡ []
  unfolding started_at
  started_at_none s = refl

  pub started_by_none : (s : ℕ) → started_by R 0 s ≡ []
  unfolding started_by
  started_by_none s = refl

  -- One round: a broadcast ends and the body that s has then is what it started, or s starts
  -- nothing and keeps its body.
  abbrev body : ℕ → ℕ → Body
  body u s = (station_at (R.after u) s).body

  round_new : (u s : ℕ) → s < R.n → number.ends L (suc u) s ≡ true → started_by R (suc u) s ≡ started_by R u s ++ unless_empty (body (suc u) s)
  round_new u s l e =
      let h = (hearing_in R u s).station in
      started_by_step u s
      ∙ ap
      (λ (b : Body). started_by R u s ++ unless_empty b)
      (sym (ap (λ (t : Station). t.body) (after_at R u s l) ∙ body_ends h ((simulated R).ends u s l ∙ e)))

  round_stays : (u s : ℕ) → s < R.n → number.ends L (suc u) s ≡ false → started_by R (suc u) s ≡ started_by R u s
  round_stays u s l e =
      let h = (hearing_in R u s).station in
      started_by_step u s
      ∙ ap (λ (b : Body). started_by R u s ++ unless_empty b) (started_stays h ((simulated R).ends u s l ∙ e))
      ∙ append-nil (started_by R u s)

  round_body : (u s : ℕ) → s < R.n → number.ends L (suc u) s ≡ false → body (suc u) s ≡ body u s
  round_body u s l e =
      let h = (hearing_in R u s).station in
      ap (λ (t : Station). t.body) (after_at R u s l)
      ∙ body_stays h ((simulated R).ends u s l ∙ e)
      ∙ (heard_standing R u s l).body
      ∙ sym (R.posts u s).body

  -- The same from a version to the next.
  abbrev Next : ℕ → ℕ → Type 0
  Next s v =
      ((num_of L s (suc v) ≡ suc (num_of L s v)) × (started_at R s (suc v) ≡ started_at R s v ++ unless_empty (body_at R s (suc v))))
      ⊎ ((num_of L s (suc v) ≡ num_of L s v) × (started_at R s (suc v) ≡ started_at R s v) × (body_at R s (suc v) ≡ body_at R s v))

  body_at_some : (s w : ℕ) → body_at R s (suc w) ≡ body w s
  body_at_some s w = let e : pred (suc w) ≡ w = omega arith in ap (λ (u : ℕ). body u s) e

  next : (s v : ℕ) → s < R.n → Next s v
  next s zero l =
      inl (
        omega (arith, num_of_some L s 1 0 refl, num_of_none L s 0 refl, num_zero L s),
        started_at_some s 0
            ∙ started_by_none s
            ∙ sym (
            ap (λ (xs : List Body). xs ++ unless_empty (body_at R s 1)) (started_at_none s)
            ∙ ap
            (λ (b : Body). unless_empty b)
            (body_at_some s 0 ∙ ap (λ (t : Station). t.body) (first_at R s l) ∙ fresh_body R.setup s)
            ),
      )
  next s (suc w) l =
      ⊎_elim
      (λ e.
      inl (
        omega (arith, num_of_some L s (suc (suc w)) (suc w) refl, num_of_some L s (suc w) w refl, e.2),
        started_at_some s (suc w)
            ∙ round_new w s l e.0
            ∙ ap (λ (b : Body). started_by R w s ++ unless_empty b) (sym (body_at_some s (suc w)))
            ∙ ap (λ (xs : List Body). xs ++ unless_empty (body_at R s (suc (suc w)))) (sym (started_at_some s w)),
      ))
      (λ e.
      inr (
        omega (arith, num_of_some L s (suc (suc w)) (suc w) refl, num_of_some L s (suc w) w refl, e.2),
        started_at_some s (suc w) ∙ round_stays w s l e.0 ∙ sym (started_at_some s w),
        body_at_some s (suc w) ∙ round_body w s l e.0 ∙ sym (body_at_some s w),
      ))
      (step L w s)

  -- From a version to any later one whose number is at most one higher.
  abbrev come : ℕ → ℕ → ℕ → List Body
  come s v v' = cond (ltb (num_of L s v) (num_of L s v')) (unless_empty (body_at R s v')) []

  later : (d v s : ℕ) → s < R.n → num_of L s (d + v) ≤ num_of L s v + 1 → started_at R s (d + v) ≡ started_at R s v ++ come s v (d + v)
  later zero v s l h = rw (zero-add v, le-ltb (num_of L s v) (num_of L s v) (omega arith)) (sym (append-nil (started_at R s v)))
  later (suc d) v s l h =
      let k : num_of L s (suc (d + v)) ≤ num_of L s v + 1 = rw (suc-add d v) at h in
      let m = num_of_mono L s (d + v) (suc (d + v)) (omega arith) in
      let before = later d v s l (omega arith) in
      rw (suc-add d v)
      (⊎_elim
      (λ e.
      rw (lt-ltb (num_of L s v) (num_of L s (suc (d + v))) (omega (arith, e.0, num_of_mono L s v (d + v) (omega arith))))
      (e.1
      ∙ ap
      (λ (xs : List Body). xs ++ unless_empty (body_at R s (suc (d + v))))
      ((rw (le-ltb (num_of L s v) (num_of L s (d + v)) (omega (arith, e.0))) at before) ∙ append-nil (started_at R s v))))
      (λ e. rw (e.0, e.1, e.2) before)
      (next s (d + v) l))

  -- What p took of another is what that one had started as the news of it shows.
  rises-num_of : (u p s : ℕ) → rises R u p s ≡ ltb (num_of L s (news L u p s)) (num_of L s (news L (suc u) p s))
  unfolding got
  rises-num_of u p s = refl

  pub version_step : (u p s : ℕ) → p < R.n → s < R.n
      → started_at R s (news L (suc u) p s)
      ≡ started_at R s (news L u p s) ++ cond (rises R u p s) (unless_empty (body_at R s (news L (suc u) p s))) []
  version_step u p s lp ls =
      let v = news L u p s in
      let v' = news L (suc u) p s in
      let e : v' - v + v ≡ v' = omega (arith, news_keeps L u p s) in
      let g : num_of L s (v' - v + v) ≤ num_of L s v + 1 = rw e (omega (arith, got_step L u p s lp, got-num_of L u p s, got-num_of L (suc u) p s)) in
      (rw e at (later (v' - v) v s ls g))
      ∙ ap (λ (b : Bool). started_at R s v ++ cond b (unless_empty (body_at R s v')) []) (sym (rises-num_of u p s))

  pub heard_version : (u p s : ℕ) → p < R.n → s < R.n → (p ≡ s → ⊥) → heard_by R u p s ≡ started_at R s (news L u p s)
  heard_version zero p s lp ls d =
      heard_by_none p s ∙ sym (ap (λ (v : ℕ). started_at R s v) (news_start L p s d) ∙ started_at_none s)
  heard_version (suc u) p s lp ls d =
      heard_by_step u p s
      ∙ ap (λ (xs : List Body). xs ++ takings_of s (hearing_in R u p).takings) (heard_version u p s lp ls d)
      ∙ ap (λ (xs : List Body). started_at R s (news L u p s) ++ xs) ((simulated R).takings u p s lp ls d)
      ∙ sym (version_step u p s lp ls)

  pub taken_version : (u p s : ℕ) → p < R.n → s < R.n → taken_by R u p s ≡ started_at R s (news L u p s)
  unfolding taken_by
  taken_version u p s lp ls =
      elim (ℕ_discrete p s) [
        | yes e ↦ rw (eq-eqb p s e) (sym (ap (λ (q : ℕ). started_at R s (news L u q s)) e ∙ ap (λ (v : ℕ). started_at R s v) (news_own L u s) ∙ started_at_some s u))
        | no d ↦ rw (ne_eqb p s d) (heard_version u p s lp ls d)
      ]

  -- What was started stays at the beginning.
  pub started_begins : (w u s : ℕ) → w ≤ u → Begins (started_by R w s) (started_by R u s)
  started_begins w u s =
      from_on (λ v. Begins (started_by R w s) (started_by R v s)) w (begins_refl (started_by R w s))
      (λ v l h.
      rw (started_by_step v s) (begins_trans (started_by R w s) (started_by R v s) _ h (begins-append (started_by R v s) _)))
      u

  pub version_begins : (v u s : ℕ) → v ≤ suc u → Begins (started_at R s v) (started_by R u s)
  version_begins zero u s h = rw (started_at_none s) (begins-nil (started_by R u s))
  version_begins (suc w) u s h = rw (started_at_some s w) (started_begins w u s (omega arith))

  -- What is taken is a beginning of what was started.
  pub taken_begins_started : (u p s : ℕ) → p < R.n → s < R.n → Begins (taken_by R u p s) (started_by R u s)
  taken_begins_started u p s lp ls = rw (taken_version u p s lp ls) (version_begins (news L u p s) u s (news_limit L u p s))

  -- At most one body of a station is taken in a round.
  pub taken_one : (u p s : ℕ) → p < R.n → s < R.n → (p ≡ s → ⊥) → length (takings_of s (hearing_in R u p).takings) ≤ 1
  taken_one u p s lp ls d = rw ((simulated R).takings u p s lp ls d) (go (rises R u p s) (body_at R s (news L (suc u) p s)))
    where
      one : (b : Bool) (x : Body) → length (cond b [] (x ∷ [])) ≤ 1
      one true x = omega arith
      one false x = omega arith

      go : (b : Bool) (x : Body) → length (cond b (unless_empty x) []) ≤ 1
      go true x = one (is_empty x) x
      go false x = omega arith

  -- How many bodies a version shows.
  pub length_version : (s v : ℕ) → length (started_at R s v) ≡ shown (made_by R) s v
  unfolding started_at shown
  length_version s zero = refl
  length_version s (suc w) = refl
