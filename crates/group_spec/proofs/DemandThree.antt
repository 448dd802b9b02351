-- Demand 3, whole. The run of a list of calls stays inside its limits round by round, since its
-- counts are bounded and no lane overflows; so none of its rounds is refused, the history of the
-- list is that run, and each sentence is one of the facts about runs.
use Prim.Native.Nat.{ℕ, zero, suc, ◌*◌, ◌-◌, ◌≤◌, ◌<◌}
use mathlib.Core.Bool.{true}
use mathlib.Core.List.{List}
use mathlib.Core.Path.{◌≡◌, ap, ◌∙◌}
use native.Mathlib.Omega.{arith}
use lib.ListN.{length}
use Rattle.bodies.specs.Refusals.{done}
use Rattle.station_spec.specs.declared.Setup.{Setup}
use Rattle.station_spec.specs.State.{Cell, held_of, record_of}
use Rattle.station_spec.proofs.Setters.{SameButWaiting}
use Rattle.group_spec.specs.State.{station_at}
use Rattle.group_spec.specs.Calls.{group_fresh_refusal}
use Rattle.group_spec.specs.History.{History, Call, history_of}
use Rattle.group_spec.specs.Demand.{Demand, DemandThree}
use Rattle.group_spec.proofs.Setups.{Accepts, accepts}
use Rattle.group_spec.proofs.Run.{Run}
use Rattle.group_spec.proofs.Simulation as simulation
use Rattle.group_spec.proofs.Members.{Members, members_inside, fresh_members}
use Rattle.group_spec.proofs.MembersPost.{post_members}
use Rattle.group_spec.proofs.MembersRound.{Runs, after_members}
use Rattle.group_spec.proofs.Lanes.{never_refused, run_step}
use Rattle.group_spec.proofs.CallRun.{run_of, calls_after, group_after, group_first, posts_keep}
use Rattle.group_spec.proofs.HistoryRun.{Unrefused, history_group}
use Rattle.group_spec.proofs.PostsAccounted.{posts_started, starts_aired, starts_reported, posts_counted}
use Rattle.group_spec.proofs.HistoryInside.{lanes_bounded}
use Rattle.group_spec.proofs.FromRun as from_run

module _ (setup : Setup) (accepted : group_fresh_refusal setup ≡ done) (calls : List Call) where
  abbrev n : ℕ
  n = setup.n

  abbrev ok : Accepts setup
  ok = accepts setup accepted

  abbrev R : Run
  R = run_of setup ok calls

  abbrev H : History
  H = history_of setup calls

  pub ready_members : (u : ℕ) → Members n (group_after setup calls u) → Members n (R.ready u)
  ready_members u c = posts_keep (Members n) (λ g x m. post_members n g m x) (group_after setup calls u) (calls_after calls u) c

  pub round_runs : (u : ℕ) → Members n (R.ready u) → Runs (R.ready u) (R.masks (suc u))
  round_runs u c =
      record {
        inside = members_inside n (R.ready u) c;
        counts = λ k l. simulation.own_count_inside_lem R u k (omega (arith, c.size));
        room = λ i l. never_refused R u i (omega (arith, c.size));
      }

  -- the group is inside its limits after every round
  pub after_rounds : (u : ℕ) → Members n (group_after setup calls u)
  after_rounds zero = rw (group_first setup calls) (fresh_members setup ok.high ok.low ok.limited ok.known)
  after_rounds (suc u) =
      let c = ready_members u (after_rounds u) in
      rw (run_step R u) (after_members n (R.ready u) c (R.masks (suc u)) (round_runs u c))

  -- no round of the run is refused
  pub free : Unrefused R
  free =
      from_run.unrefused R
      (λ u. members_inside n (R.ready u) (ready_members u (after_rounds u)))
      (λ u p l. simulation.own_count_inside_lem R u p l)

  -- a station of the group that the list leaves is one after a round, its waiting edits apart
  left : (p : ℕ) → SameButWaiting (station_at (R.after (length H.rounds)) p) (station_at H.group p)
  left p = rw (history_group setup ok calls free) (R.posts (length H.rounds) p)

  own_count : (p : ℕ) → p < n → (station_at H.group p).count ≤ 2 * (n - 1)
  own_count p l = omega (arith, (left p).count, simulation.count_bounded R (length H.rounds) p l)

  held_count :
      (p s : ℕ) → p < n → s < n → held_of (station_at H.group p) s ≡ true →
      (record_of (station_at H.group p) s).count ≤ 2 * (n - 1)
  held_count p s lp ls h =
      let last = length H.rounds in
      let held : held_of (station_at (R.after last) p) s ≡ true = ap (λ (c : Cell). c.held) ((left p).cells s) ∙ h in
      omega (
        arith,
        ap (λ (c : Cell). c.entry.count) ((left p).cells s),
        simulation.held_count_bounded R last p lp s ls held,
      )

  demand : Demand n H
  demand =
      record {
        taken_begins_started = from_run.taken_begins_started setup ok calls free;
        aired_lists_agree = from_run.aired_lists_agree setup ok calls free;
        no_round_refused = from_run.no_round_refused setup ok calls free;
        own_count_bounded = own_count;
        held_count_bounded = held_count;
        lanes_bounded = lanes_bounded setup ok calls;
        posts_started = posts_started setup ok calls;
        starts_aired = starts_aired setup ok calls;
        starts_reported = starts_reported setup ok calls;
        posts_counted = posts_counted setup ok calls;
        ends_exactly = from_run.ends_exactly setup ok calls free;
      }

pub demand_three : DemandThree
demand_three = demand
