-- A run by time: the group after each round, and what the simulation shows of each round. Between
-- two rounds anything may happen to the waiting edits and to nothing else, so that posts, accepted
-- or refused, play no part in it. Rounds here are never refused; that none is in a history is shown
-- from this.
use Prim.Native.Nat.{ℕ, suc, pred, ◌≤◌, ◌<◌}
use mathlib.Core.Bool.{Bool, cond, not, ◌&&◌}
use mathlib.Core.List.{List, []}
use mathlib.Core.Path.{◌≡◌}
use lib.ListN.{length}
use lib.Dec.{ltb, leb, eqb}
use Rattle.bodies.specs.declared.Body.{Body}
use Rattle.bodies.specs.Body.{is_empty}
use Rattle.links.specs.Relay.{Links, of_masks}
use Rattle.links.specs.Inner.Clock.{news}
use Rattle.links.specs.Inner.Number as number
use Rattle.lists.specs.Below.{any_below}
use Rattle.station_spec.specs.declared.Setup.{Setup}
use Rattle.station_spec.specs.declared.Station.{Station}
use Rattle.queues.specs.Lane.{pushed}
use Rattle.bodies.specs.Refusals.{done, lane_full, refuse_number}
use Rattle.station_spec.specs.State.{lane_at}
use Rattle.station_spec.specs.Hearing.{Hearing}
use Rattle.station_spec.specs.Turn as turn
use Rattle.station_spec.proofs.Setters.{SameButWaiting}
use Rattle.group_spec.specs.State.{station_at, size_of, fresh_group}
use Rattle.group_spec.proofs.Through.{heard_through, round_through}
use Rattle.group_spec.specs.History.{takings_of, unless_empty}

pub record Run : Type 0 where
  -- what its fresh group was given, and N of it
  pub setup : Setup
  pub n : ℕ
  pub given : setup.n ≡ n
  pub low : 1 ≤ n
  pub high : n ≤ 16
  -- the masks of round u, from 1 on
  pub masks : ℕ → List ℕ
  -- the group after round u, and as the next round is given it
  pub after : ℕ → List Station
  pub ready : ℕ → List Station
  pub first : after 0 ≡ fresh_group setup
  pub length_ready : (u : ℕ) → length (ready u) ≡ length (after u)
  pub posts : (u k : ℕ) → SameButWaiting (station_at (after u) k) (station_at (ready u) k)
  pub step : (u : ℕ) → after (suc u) ≡ round_through (ready u) (masks (suc u))

-- the links of a run
abbrev pub links_of : Run → Links
links_of R = of_masks R.n R.masks

-- station p in round u + 1, once it has heard
abbrev pub hearing_in : Run → ℕ → ℕ → Hearing
hearing_in R u p = heard_through (R.ready u) (R.masks (suc u)) p (size_of (R.ready u))

-- the body that s had as round w left it, for version w + 1
abbrev pub body_at : Run → ℕ → ℕ → Body
body_at R s v = (station_at (R.after (pred v)) s).body

-- in round u + 1 the number that p has of s rises
abbrev pub rises : Run → ℕ → ℕ → ℕ → Bool
rises R u p s = ltb (number.got (links_of R) u p s) (number.got (links_of R) (suc u) p s)

-- and a body other than Empty comes with it
abbrev pub comes : Run → ℕ → ℕ → ℕ → Bool
comes R u p s = rises R u p s && not (is_empty (body_at R s (news (links_of R) (suc u) p s)))

-- what the simulation shows of every round: which bodies are taken, what becomes of the lanes, and
-- who ends
pub record Simulated (R : Run) : Type 0 where
  pub ends :
      (u s : ℕ) → s < R.n → turn.broadcast_ends (hearing_in R u s).station ≡ number.ends (links_of R) (suc u) s
  pub takings :
      (u p s : ℕ) → p < R.n → s < R.n → (p ≡ s → ⊥) →
      takings_of s (hearing_in R u p).takings
      ≡ cond (rises R u p s) (unless_empty (body_at R s (news (links_of R) (suc u) p s))) []
  pub lanes :
      (u p s : ℕ) → p < R.n → s < R.n → (p ≡ s → ⊥) →
      lane_at (hearing_in R u p).station s
      ≡ cond (comes R u p s)
      (pushed (lane_at (station_at (R.ready u) p) s) (body_at R s (news (links_of R) (suc u) p s)))
      (lane_at (station_at (R.ready u) p) s)
  pub own_lane : (u p : ℕ) → p < R.n → lane_at (hearing_in R u p).station p ≡ lane_at (station_at (R.ready u) p) p
  pub refusal :
      (u p : ℕ) → p < R.n →
      (hearing_in R u p).refusal
      ≡ refuse_number (any_below R.n (λ s. not (eqb p s) && (comes R u p s && leb 2 (lane_at (station_at (R.ready u) p) s).len))) lane_full done
