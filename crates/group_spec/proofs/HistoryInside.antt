-- After every list of calls the group is a group of n inside its limits: the fresh one is, and each
-- call keeps it so, refused or not. So no lane holds more than two.
use Prim.Native.Nat.{ℕ, ◌≤◌, ◌<◌}
use mathlib.Core.Bool.{Bool, true, false, cond}
use mathlib.Core.List.{List, [], ◌∷◌}
use mathlib.Core.Path.{◌≡◌}
use native.Mathlib.Omega.{arith}
use lib.Dec.{eqb}
use Rattle.station_spec.specs.Limits.{allowed}
use Rattle.station_spec.specs.declared.Setup.{Setup}
use Rattle.station_spec.specs.State.{lane_at}
use Rattle.station_spec.proofs.LimitsLane.{lane_most}
use Rattle.group_spec.specs.State.{station_at, group_inside}
use Rattle.group_spec.specs.History.{History, Call, Call.post, Call.round, next, begun, continued, history_of}
use Rattle.group_spec.proofs.Setups.{Accepts}
use Rattle.group_spec.proofs.Members.{Members, members_inside, fresh_members}
use Rattle.group_spec.proofs.MembersPost.{post_members}
use Rattle.group_spec.proofs.MembersRound.{round_members}

pub members-next : (n : ℕ) (H : History) (call : Call) → Members n H.group → Members n (next H call).group
unfolding next
members-next n H (post x) c = post_members n H.group c x
members-next n H (round masks) c = round_members n H.group c masks

members-continued : (n : ℕ) (H : History) (calls : List Call) → Members n H.group → Members n (continued H calls).group
unfolding continued
members-continued n H [] c = c
members-continued n H (call ∷ calls) c = members-continued n (next H call) calls (members-next n H call c)

pub members-begun : (setup : Setup) → Accepts setup → Members setup.n (begun setup).group
unfolding begun
members-begun setup ok = fresh_members setup ok.high ok.low ok.limited ok.known

module _ (setup : Setup) (ok : Accepts setup) (calls : List Call) where
  abbrev n : ℕ
  n = setup.n

  pub history_members : Members n (history_of setup calls).group
  history_members = members-continued n (begun setup) calls (members-begun setup ok)

  pub history_inside : group_inside (history_of setup calls).group ≡ true
  history_inside = members_inside n (history_of setup calls).group history_members

  -- no lane above two
  pub lanes_bounded : (p s : ℕ) → p < n → s < n → (lane_at (station_at (history_of setup calls).group p) s).len ≤ 2
  lanes_bounded p s l m =
      let member = history_members.member p l in
      let station = station_at (history_of setup calls).group p in
      go (eqb s station.own)
      (lane_most (allowed station) (cond (eqb s station.own) 1 2) (lane_at station s) (member.inside.places s (omega (arith, member.size))).lane)
    where
      go : (t : Bool) → {len : ℕ} → len ≤ cond t 1 2 → len ≤ 2
      go true h = omega arith
      go false h = h
