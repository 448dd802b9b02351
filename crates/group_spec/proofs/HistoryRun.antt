-- From a list of calls to its run: if no round is refused then the history's group, log and rounds
-- are those of the run. One induction over the calls, with what is still to come; a post goes on to
-- the next round's group, a round is the run's next one.
use mathlib.Core.List.{List, [], ◌∷◌, ◌++◌}
use mathlib.Core.Path.{◌≡◌, refl, sym, ap, ap₂, subst, fun_ext, ◌∙◌}
use Prim.Native.Nat.{ℕ, zero, suc, ◌+◌, ◌-◌, ◌≤◌, ◌<◌}
use native.Mathlib.Decide.{ℕ_discrete, dec_le}
use native.Mathlib.Nat.{zero-add, suc-add}
use native.Mathlib.Omega.{arith}
use lib.ListN.{length, get_or, replicate, length-append, get_or-append, get_or-eq_default}
use lib.Seq.{get_or_at}
use Rattle.bodies.specs.Refusals.{done}
use Rattle.links.specs.Log.{masks_in}
use Rattle.links.specs.Relay.{of_masks, of_log}
use Rattle.lists.specs.Below.{set_below}
use Rattle.lists.proofs.Laws.{set_below_inside}
use Rattle.station_spec.specs.declared.Setup.{Setup}
use Rattle.station_spec.specs.declared.Station.{Station}
use Rattle.group_spec.specs.declared.RoundDone.{RoundDone}
use Rattle.group_spec.specs.declared.Post.{Post}
use Rattle.group_spec.specs.State.{size_of}
use Rattle.group_spec.specs.Calls.{no_report, report_of, round_refusal, round_call}
use Rattle.group_spec.specs.History.{History, Call, post, round, next, begun, continued, history_of, no_round, report_in}
use Rattle.group_spec.proofs.Setups.{Accepts}
use Rattle.group_spec.proofs.Run.{Run, links_of}
use Rattle.group_spec.proofs.Simulation.{ready_formed}
use Rattle.group_spec.proofs.Lanes.{run_step}
use Rattle.group_spec.proofs.CallRun.{after_posts, next_masks, after_next, calls_after, masks_of, group_after, run_of}

-- what round u + 1 of a run returns, the rounds up to u, and their log
unfoldable pub round_in : Run → ℕ → RoundDone
round_in R u =
    record {
      refusal = done;
      group = R.after (suc u);
      reports = set_below R.n (report_of (R.ready u) (R.masks (suc u))) (replicate 16 no_report);
    }

unfoldable pub rounds_by : Run → ℕ → List RoundDone
rounds_by R zero = []
rounds_by R (suc u) = rounds_by R u ++ (round_in R u ∷ [])

unfoldable pub log_by : Run → ℕ → List (List ℕ)
log_by R zero = []
log_by R (suc u) = log_by R u ++ (R.masks (suc u) ∷ [])

module _ (R : Run) where
  pub length_rounds : (u : ℕ) → length (rounds_by R u) ≡ u
  unfolding rounds_by
  length_rounds zero = refl
  length_rounds (suc u) = length-append (rounds_by R u) (round_in R u ∷ []) ∙ omega (arith, length_rounds u)

  pub length_log : (u : ℕ) → length (log_by R u) ≡ u
  unfolding log_by
  length_log zero = refl
  length_log (suc u) = length-append (log_by R u) (R.masks (suc u) ∷ []) ∙ omega (arith, length_log u)

  pub rounds_at : (u w : ℕ) → w < u → get_or (rounds_by R u) w no_round ≡ round_in R w
  unfolding rounds_by
  rounds_at zero w l = absurd (omega arith)
  rounds_at (suc u) w l =
      elim (ℕ_discrete w u) [
        | yes e ↦ rw e (get_or_at (rounds_by R u) (round_in R u) [] no_round u (length_rounds u))
        | no d ↦
            get_or-append (rounds_by R u) (round_in R u ∷ []) no_round w (omega (arith, length_rounds u)) ∙ rounds_at u w (omega arith)
      ]

  pub log_at : (u w : ℕ) → w < u → get_or (log_by R u) w [] ≡ R.masks (suc w)
  unfolding log_by
  log_at zero w l = absurd (omega arith)
  log_at (suc u) w l =
      elim (ℕ_discrete w u) [
        | yes e ↦ rw e (get_or_at (log_by R u) (R.masks (suc u)) [] [] u (length_log u))
        | no d ↦
            get_or-append (log_by R u) (R.masks (suc u) ∷ []) [] w (omega (arith, length_log u)) ∙ log_at u w (omega arith)
      ]

  -- a round that is not refused returns what the run's round does
  round_call_lem : (u : ℕ) → round_refusal (R.ready u) (R.masks (suc u)) ≡ done → round_call (R.ready u) (R.masks (suc u)) ≡ round_in R u
  unfolding round_call round_in
  round_call_lem u e =
      let n : size_of (R.ready u) ≡ R.n = (ready_formed R u 0 R.low).size in
      rw (e, run_step R u, n)

  pub report_at : (u p : ℕ) → p < R.n → report_in (round_in R u) p ≡ report_of (R.ready u) (R.masks (suc u)) p
  unfolding round_in
  report_at u p l = set_below_inside R.n (report_of (R.ready u) (R.masks (suc u))) (replicate 16 no_report) p no_report l (omega (arith, R.high))

-- no round of the run is refused
abbrev pub Unrefused : Run → Type 0
Unrefused R = (u : ℕ) → round_refusal (R.ready u) (R.masks (suc u)) ≡ done

module _ (setup : Setup) (ok : Accepts setup) (calls : List Call) (free : Unrefused (run_of setup ok calls)) where
  abbrev n : ℕ
  n = setup.n

  abbrev R : Run
  R = run_of setup ok calls

  -- u rounds are done, and these calls are still to come
  record Tied (u : ℕ) (H : History) (ahead : List Call) : Type 0 where
    rounds : H.rounds ≡ rounds_by R u
    log : H.log ≡ log_by R u
    group : after_posts H.group ahead ≡ R.ready u
    rest : after_next ahead ≡ calls_after calls (suc u)
    masks : next_masks ahead ≡ R.masks (suc u)

  tied_first : Tied 0 (begun setup) calls
  unfolding begun rounds_by log_by group_after calls_after masks_of
  tied_first = record { rounds = refl; log = refl; group = refl; rest = refl; masks = refl }

  tied-post : (u : ℕ) (H : History) (x : Post) (ahead : List Call) → Tied u H (post x ∷ ahead) → Tied u (next H (post x)) ahead
  unfolding next after_posts after_next next_masks
  tied-post u H x ahead t = record { rounds = t.rounds; log = t.log; group = t.group; rest = t.rest; masks = t.masks }

  -- the next calls and masks of the run
  calls_step : (u : ℕ) → calls_after calls (suc (suc u)) ≡ after_next (calls_after calls (suc u))
  unfolding calls_after
  calls_step u = refl

  masks_step : (u : ℕ) → R.masks (suc (suc u)) ≡ next_masks (calls_after calls (suc u))
  unfolding masks_of
  masks_step u = refl

  round_parts : (g : List Station) (masks : List ℕ) (ahead : List Call)
      → (after_posts g (round masks ∷ ahead) ≡ g) × (after_next (round masks ∷ ahead) ≡ ahead) × (next_masks (round masks ∷ ahead) ≡ masks)
  unfolding after_posts after_next next_masks
  round_parts g masks ahead = (refl, refl, refl)

  next_group : (H : History) (masks : List ℕ) → (next H (round masks)).group ≡ (round_call H.group masks).group
  unfolding next
  next_group H masks = refl

  next_rounds : (H : History) (masks : List ℕ) → (next H (round masks)).rounds ≡ H.rounds ++ (round_call H.group masks ∷ [])
  unfolding next
  next_rounds H masks = refl

  next_log : (H : History) (masks : List ℕ) → (next H (round masks)).log ≡ H.log ++ (masks ∷ [])
  unfolding next
  next_log H masks = refl

  rounds_step : (u : ℕ) → rounds_by R (suc u) ≡ rounds_by R u ++ (round_in R u ∷ [])
  unfolding rounds_by
  rounds_step u = refl

  log_step : (u : ℕ) → log_by R (suc u) ≡ log_by R u ++ (R.masks (suc u) ∷ [])
  unfolding log_by
  log_step u = refl

  round_in_group : (u : ℕ) → (round_in R u).group ≡ R.after (suc u)
  unfolding round_in
  round_in_group u = refl

  tied-round : (u : ℕ) (H : History) (masks : List ℕ) (ahead : List Call) → Tied u H (round masks ∷ ahead) → Tied (suc u) (next H (round masks)) ahead
  tied-round u H masks ahead t =
      let parts = round_parts H.group masks ahead in
      let g : H.group ≡ R.ready u = sym parts.0 ∙ t.group in
      let m : masks ≡ R.masks (suc u) = sym parts.2 ∙ t.masks in
      let c : ahead ≡ calls_after calls (suc u) = sym parts.1 ∙ t.rest in
      let e : round_call H.group masks ≡ round_in R u = ap₂ round_call g m ∙ round_call_lem R u (free u) in
      record {
        rounds = next_rounds H masks ∙ ap₂ (λ (l : List RoundDone) (r : RoundDone). l ++ (r ∷ [])) t.rounds e ∙ sym (rounds_step u);
        log = next_log H masks ∙ ap₂ (λ (l : List (List ℕ)) (r : List ℕ). l ++ (r ∷ [])) t.log m ∙ sym (log_step u);
        group = ap₂ after_posts (next_group H masks ∙ ap (λ (r : RoundDone). r.group) e ∙ round_in_group u) c;
        rest = ap after_next c ∙ sym (calls_step u);
        masks = ap next_masks c ∙ sym (masks_step u);
      }

  tied_last : (u : ℕ) (H : History) (ahead : List Call) → Tied u H ahead → (v : ℕ) × Tied v (continued H ahead) []
  unfolding continued
  tied_last u H [] t = (u, t)
  tied_last u H (post x ∷ ahead) t = tied_last u (next H (post x)) ahead (tied-post u H x ahead t)
  tied_last u H (round masks ∷ ahead) t = tied_last (suc u) (next H (round masks)) ahead (tied-round u H masks ahead t)

  -- the calls before a point of the list
  tied_split : (u : ℕ) (H : History) (before ahead : List Call) → Tied u H (before ++ ahead) → (v : ℕ) × Tied v (continued H before) ahead
  unfolding continued
  tied_split u H [] ahead t = (u, t)
  tied_split u H (post x ∷ before) ahead t = tied_split u (next H (post x)) before ahead (tied-post u H x (before ++ ahead) t)
  tied_split u H (round masks ∷ before) ahead t =
      tied_split (suc u) (next H (round masks)) before ahead (tied-round u H masks (before ++ ahead) t)

  -- a round of the list is given the group that the calls before it leave
  pub ready_before :
      (before : List Call) (masks : List ℕ) (ahead : List Call) → before ++ (round masks ∷ ahead) ≡ calls →
      (v : ℕ) × ((history_of setup before).group ≡ R.ready v) × (masks ≡ R.masks (suc v))
  ready_before before masks ahead e =
      let t = tied_split 0 (begun setup) before (round masks ∷ ahead) (subst (λ (l : List Call). Tied 0 (begun setup) l) (sym e) tied_first) in
      let parts = round_parts (history_of setup before).group masks ahead in
      (t.0, sym parts.0 ∙ t.1.group, sym parts.2 ∙ t.1.masks)

  abbrev H : History
  H = history_of setup calls

  tied : Tied (length H.rounds) H []
  tied =
      let t = tied_last 0 (begun setup) calls tied_first in
      let e : t.0 ≡ length H.rounds = sym (ap length t.1.rounds ∙ length_rounds R t.0) in
      subst (λ (v : ℕ). Tied v H []) e t.1

  -- what the list of calls leaves, as its run has it
  pub history_rounds : H.rounds ≡ rounds_by R (length H.rounds)
  history_rounds = tied.rounds

  pub history_log : H.log ≡ log_by R (length H.rounds)
  history_log = tied.log

  pub history_group : H.group ≡ R.ready (length H.rounds)
  unfolding after_posts
  history_group = tied.group

  -- past its end the log is silent, as the run is
  calls_none : (d u : ℕ) → calls_after calls u ≡ [] → calls_after calls (d + u) ≡ []
  unfolding calls_after
  calls_none zero u e = rw (zero-add u) e
  calls_none (suc d) u e = rw (suc-add d u) (ap after_next (calls_none d u e) ∙ none)
    where
      none : after_next [] ≡ []
      none = unfold after_next in refl

  masks_none : (u : ℕ) → calls_after calls u ≡ [] → R.masks (suc u) ≡ []
  unfolding masks_of next_masks
  masks_none u e = rw e

  log_none : (u : ℕ) → length H.rounds ≤ u → R.masks (suc u) ≡ []
  unfolding next_masks after_next
  log_none u h =
      let last = length H.rounds in
      elim (ℕ_discrete u last) [
        | yes e ↦ rw e (sym tied.masks)
        | no d ↦
            (let e : u - suc last + suc last ≡ u = omega arith in
            masks_none u (rw e at (calls_none (u - suc last) (suc last) (sym tied.rest))))
      ]

  pub history_masks : (u : ℕ) → masks_in H.log u ≡ R.masks u
  unfolding masks_in masks_of
  history_masks zero = refl
  history_masks (suc u) =
      let last = length H.rounds in
      elim (dec_le (suc u) last) [
        | yes l ↦ ap (λ (l : List (List ℕ)). get_or l u []) history_log ∙ log_at R last u l
        | no l ↦
            get_or-eq_default H.log [] {n = u} (omega (arith, ap length history_log, length_log R last))
            ∙ sym (log_none u (omega arith))
      ]

  pub history_links : of_log n H.log ≡ links_of R
  history_links = ap (λ (m : ℕ → List ℕ). of_masks n m) (fun_ext history_masks)
