-- The run of a list of calls: between two rounds the posts that stand there, and after the last of
-- its rounds silent ones without end. A post, accepted or refused, changes waiting edits only.
use mathlib.Core.Bool.{Bool, true, false, cond}
use mathlib.Core.List.{List, [], ◌∷◌}
use mathlib.Core.Path.{◌≡◌, refl, ◌∙◌}
use Prim.Native.Nat.{ℕ, zero, suc}
use native.Mathlib.Decide.{ℕ_discrete, dec_le}
use native.Mathlib.Omega.{arith}
use lib.Dec.{eqb}
use lib.ListN.{length, set, length-set}
use lib.Seq.{get_or-set_same, get_or-set_other, set_out}
use Rattle.bodies.specs.Refusals.{done}
use Rattle.station_spec.specs.declared.Setup.{Setup}
use Rattle.station_spec.specs.declared.Station.{Station}
use Rattle.station_spec.specs.Calls.{posted}
use Rattle.station_spec.proofs.Setters.{SameButWaiting, same_refl, same_trans}
use Rattle.station_spec.proofs.Shape.{posted_same}
use Rattle.group_spec.specs.declared.Post.{Post}
use Rattle.group_spec.specs.State.{no_station, station_at, fresh_group}
use Rattle.group_spec.specs.Calls.{group_post_refusal, after_post, group_post_call}
use Rattle.group_spec.specs.History.{Call, post, round}
use Rattle.group_spec.proofs.Setups.{Accepts}
use Rattle.group_spec.proofs.Through.{round_through}
use Rattle.group_spec.proofs.Run.{Run}

set_same : (g : List Station) (x : Post) (i : ℕ) → SameButWaiting (station_at g i) (station_at (after_post g x) i)
set_same g x i = elim (ℕ_discrete i x.station) [ yes e ↦ here e | no d ↦ there d ]
  where
    new : Station
    new = posted (station_at g x.station) x.desk x.body

    here : i ≡ x.station → SameButWaiting (station_at g i) (station_at (set g x.station new) i)
    here e =
        elim (dec_le (suc x.station) (length g)) [
          | yes l ↦ rw (e, get_or-set_same g x.station new no_station l) (posted_same (station_at g x.station) x.desk x.body)
          | no l ↦ rw (set_out g x.station new (omega arith)) (same_refl (station_at g i))
        ]

    there : (i ≡ x.station → ⊥) → SameButWaiting (station_at g i) (station_at (set g x.station new) i)
    there d = rw (get_or-set_other g x.station i new no_station d) (same_refl (station_at g i))

pub post_same : (g : List Station) (x : Post) (i : ℕ) → SameButWaiting (station_at g i) (station_at (group_post_call g x).group i)
unfolding group_post_call
post_same g x i = go (eqb (group_post_refusal g x) done)
  where
    go : (c : Bool) → SameButWaiting (station_at g i) (station_at (cond c (after_post g x) g) i)
    go true = set_same g x i
    go false = same_refl (station_at g i)

pub length-post : (g : List Station) (x : Post) → length (group_post_call g x).group ≡ length g
unfolding group_post_call
length-post g x = go (eqb (group_post_refusal g x) done)
  where
    go : (c : Bool) → length (cond c (after_post g x) g) ≡ length g
    go true = length-set g x.station (posted (station_at g x.station) x.desk x.body)
    go false = refl

-- the group once the posts before the next round are done
unfoldable pub after_posts : List Station → List Call → List Station
after_posts g [] = g
after_posts g (post x ∷ calls) = after_posts (group_post_call g x).group calls
after_posts g (round masks ∷ calls) = g

-- the masks of the next round
unfoldable pub next_masks : List Call → List ℕ
next_masks [] = []
next_masks (post x ∷ calls) = next_masks calls
next_masks (round masks ∷ calls) = masks

-- the calls after the next round
unfoldable pub after_next : List Call → List Call
after_next [] = []
after_next (post x ∷ calls) = after_next calls
after_next (round masks ∷ calls) = calls

-- the calls after round u
unfoldable pub calls_after : List Call → ℕ → List Call
calls_after calls zero = calls
calls_after calls (suc u) = after_next (calls_after calls u)

-- the masks of round u
unfoldable pub masks_of : List Call → ℕ → List ℕ
masks_of calls zero = []
masks_of calls (suc u) = next_masks (calls_after calls u)

-- the group after round u
unfoldable pub group_after : Setup → List Call → ℕ → List Station
group_after setup calls zero = fresh_group setup
group_after setup calls (suc u) = round_through (after_posts (group_after setup calls u) (calls_after calls u)) (masks_of calls (suc u))

-- what a post keeps, the posts between two rounds keep
pub posts_keep : (P : List Station → Type 0)
    → ((g : List Station) (x : Post) → P g → P (group_post_call g x).group)
    → (g : List Station) (calls : List Call)
    → P g
    → P (after_posts g calls)
unfolding after_posts
posts_keep P h g [] c = c
posts_keep P h g (post x ∷ calls) c = posts_keep P h (group_post_call g x).group calls (h g x c)
posts_keep P h g (round masks ∷ calls) c = c

pub posts_same : (g : List Station) (calls : List Call) (i : ℕ) → SameButWaiting (station_at g i) (station_at (after_posts g calls) i)
posts_same g calls i =
    posts_keep
    (λ (x : List Station). SameButWaiting (station_at g i) (station_at x i))
    (λ h x c. same_trans (station_at g i) (station_at h i) (station_at (group_post_call h x).group i) c (post_same h x i))
    g
    calls
    (same_refl (station_at g i))

pub length_posts : (g : List Station) (calls : List Call) → length (after_posts g calls) ≡ length g
length_posts g calls =
    posts_keep (λ (x : List Station). length x ≡ length g) (λ h x c. length-post h x ∙ c) g calls refl

pub group_first : (setup : Setup) (calls : List Call) → group_after setup calls 0 ≡ fresh_group setup
unfolding group_after
group_first setup calls = refl

pub group_step : (setup : Setup) (calls : List Call) (u : ℕ)
    → group_after setup calls (suc u) ≡ round_through (after_posts (group_after setup calls u) (calls_after calls u)) (masks_of calls (suc u))
unfolding group_after
group_step setup calls u = refl

-- the run of a list of calls
abbrev pub run_of : (setup : Setup) → Accepts setup → List Call → Run
run_of setup ok calls =
    record {
      setup = setup;
      n = setup.n;
      given = refl;
      low = ok.low;
      high = ok.high;
      masks = masks_of calls;
      after = group_after setup calls;
      ready = λ u. after_posts (group_after setup calls u) (calls_after calls u);
      first = group_first setup calls;
      length_ready = λ u. length_posts (group_after setup calls u) (calls_after calls u);
      posts = λ u k. posts_same (group_after setup calls u) (calls_after calls u) k;
      step = λ u. group_step setup calls u;
    }
