-- A group has one edition from fresh: every post and round leaves each station its edition
-- (document 02, A9).
use Prim.Native.Nat.{ℕ, ◌<◌}
use mathlib.Core.Bool.{Bool, true, false}
use mathlib.Core.List.{List, [], ◌∷◌}
use mathlib.Core.Path.{◌≡◌, refl, ap, ◌∙◌}
use native.Mathlib.Omega.{arith}
use lib.Dec.{eqb}
use Rattle.bodies.specs.Refusals.{done}
use Rattle.station_spec.specs.declared.Setup.{Setup}
use Rattle.station_spec.specs.declared.Station.{Station}
use Rattle.group_spec.specs.declared.Post.{Post}
use Rattle.group_spec.specs.State.{station_at}
use Rattle.group_spec.specs.Calls.{group_fresh_refusal, group_post_call, round_refusal, round_call}
use Rattle.group_spec.specs.History.{History, Call, Call.post, Call.round, next, begun, continued, history_of}
use Rattle.group_spec.proofs.Setups.{accepts}
use Rattle.group_spec.proofs.Members.{Members, fresh_edition}
use Rattle.group_spec.proofs.MembersPost.{accepted, post_accepted, post_refused, post_refusal, posted_edition}
use Rattle.group_spec.proofs.MembersRound.{runs, after_edition, round_done, round_refused}
use Rattle.group_spec.proofs.HistoryInside.{members-next, members-begun}

abbrev edition_at : List Station → ℕ → ℕ
edition_at g p = (station_at g p).edition

module _ (n : ℕ) (g : List Station) (c : Members n g) where
  pub post_edition : (x : Post) (p : ℕ) → (station_at (group_post_call g x).group p).edition ≡ (station_at g p).edition
  post_edition x p = go (eqb (group_post_call g x).refusal done) refl
    where
      go : (t : Bool) → eqb (group_post_call g x).refusal done ≡ t → edition_at (group_post_call g x).group p ≡ edition_at g p
      go true e =
          let below : x.station < n = omega (arith, c.size, (accepted g x (rw (post_refusal g x) at e)).below) in
          ap (λ (h : List Station). edition_at h p) (post_accepted g x e) ∙ posted_edition n g c x below p
      go false e = ap (λ (h : List Station). edition_at h p) (post_refused g x e)

  pub round_edition : (masks : List ℕ) (p : ℕ) → p < n → (station_at (round_call g masks).group p).edition ≡ (station_at g p).edition
  round_edition masks p l = go (eqb (round_refusal g masks) done) refl
    where
      go : (t : Bool) → eqb (round_refusal g masks) done ≡ t → edition_at (round_call g masks).group p ≡ edition_at g p
      go true e =
          ap (λ (h : List Station). edition_at h p) (round_done g masks e) ∙ after_edition n g c masks (runs g masks e) p l
      go false e = ap (λ (h : List Station). edition_at h p) (round_refused g masks e)

next_edition :
    (n : ℕ) (H : History) (call : Call) → Members n H.group → (p : ℕ) → p < n →
    edition_at (next H call).group p ≡ edition_at H.group p
unfolding next
next_edition n H (post x) c p l = post_edition n H.group c x p
next_edition n H (round masks) c p l = round_edition n H.group c masks p l

continued_edition :
    (n : ℕ) (H : History) (calls : List Call) → Members n H.group → (p : ℕ) → p < n →
    edition_at (continued H calls).group p ≡ edition_at H.group p
unfolding continued
continued_edition n H [] c p l = refl
continued_edition n H (call ∷ calls) c p l =
    continued_edition n (next H call) calls (members-next n H call c) p l ∙ next_edition n H call c p l

begun_edition : (setup : Setup) → group_fresh_refusal setup ≡ done → (p : ℕ) → p < setup.n → edition_at (begun setup).group p ≡ setup.edition
unfolding begun
begun_edition setup fresh p l = fresh_edition setup (accepts setup fresh).high p l

pub edition_kept :
    (setup : Setup) → group_fresh_refusal setup ≡ done → (calls : List Call) (p : ℕ) → p < setup.n →
    (station_at (history_of setup calls).group p).edition ≡ setup.edition
edition_kept setup fresh calls p l =
    continued_edition setup.n (begun setup) calls (members-begun setup (accepts setup fresh)) p l ∙ begun_edition setup fresh p l
