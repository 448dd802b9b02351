-- A station keeps the limit that its group was given when fresh, after every list of posts and
-- rounds: a post and a start hand the limit on, hearing leaves the waiting edits as they are, and a
-- refused call changes nothing (document 02, A2).
use Prim.Native.Nat.{ℕ, ◌≤◌, ◌<◌}
use mathlib.Core.Bool.{Bool, true, false, cond}
use mathlib.Core.List.{List, [], ◌∷◌}
use mathlib.Core.Path.{◌≡◌, refl, sym, ap, subst, ◌∙◌}
use native.Mathlib.Decide.{ℕ_discrete}
use native.Mathlib.Omega.{arith}
use lib.Dec.{eqb}
use Rattle.bodies.specs.declared.Body.{Body}
use Rattle.bodies.specs.Refusals.{done}
use Rattle.queues.specs.declared.Waiting.{Waiting}
use Rattle.queues.specs.Waiting.{none_waiting, with_posted, without_next}
use Rattle.station_spec.specs.declared.Setup.{Setup}
use Rattle.station_spec.specs.declared.Station.{Station}
use Rattle.station_spec.specs.Turn.{starts_edit}
use Rattle.station_spec.specs.Calls.{posted}
use Rattle.station_spec.proofs.Setters.{fresh_self}
use Rattle.station_spec.proofs.TurnCells.{turn_waiting}
use Rattle.group_spec.specs.declared.Post.{Post}
use Rattle.group_spec.specs.State.{station_at}
use Rattle.group_spec.specs.Calls.{group_fresh_refusal, after_post, group_post_call, heard, round_refusal, round_call}
use Rattle.group_spec.specs.History.{History, Call, Call.post, Call.round, next, begun, continued, history_of}
use Rattle.group_spec.proofs.Setups.{accepts}
use Rattle.group_spec.proofs.Members.{Members, fresh_at}
use Rattle.group_spec.proofs.MembersPost.{accepted, post_accepted, post_refused, post_refusal, posted_at, posted_other}
use Rattle.group_spec.proofs.MembersRound.{runs, run_hears, after_at, round_done, round_refused}
use Rattle.group_spec.proofs.HistoryInside.{members-next, members-begun}

abbrev limit_at : List Station → ℕ → ℕ
limit_at g p = (station_at g p).waiting.limit

abbrev limit_of : Station → ℕ
limit_of s = s.waiting.limit

posted_limit : (s : Station) (d : ℕ) (b : Body) → limit_of (posted s d b) ≡ limit_of s
unfolding posted with_posted
posted_limit s d b = refl

started_limit : (t : Bool) (w : Waiting) → (cond t (without_next w) w).limit ≡ w.limit
unfolding without_next
started_limit true w = refl
started_limit false w = refl

none_limit : (limit : ℕ) → (none_waiting limit).limit ≡ limit
unfolding none_waiting
none_limit limit = refl

module _ (n : ℕ) (g : List Station) (c : Members n g) where
  post_limit : (x : Post) (p : ℕ) → limit_at (group_post_call g x).group p ≡ limit_at g p
  post_limit x p = go (eqb (group_post_call g x).refusal done) refl
    where
      go : (t : Bool) → eqb (group_post_call g x).refusal done ≡ t → limit_at (group_post_call g x).group p ≡ limit_at g p
      go true e =
          let k = x.station in
          let below : k < n = omega (arith, c.size, (accepted g x (rw (post_refusal g x) at e)).below) in
          ap (λ (h : List Station). limit_at h p) (post_accepted g x e)
          ∙ elim (ℕ_discrete p k) [
            | yes same ↦
                subst (λ (j : ℕ). limit_at (after_post g x) j ≡ limit_at g j) (sym same)
                (ap limit_of (posted_at n g c x below) ∙ posted_limit (station_at g k) x.desk x.body)
            | no ne ↦ ap limit_of (posted_other n g c x below p ne)
          ]
      go false e = ap (λ (h : List Station). limit_at h p) (post_refused g x e)

  round_limit : (masks : List ℕ) (p : ℕ) → p < n → limit_at (round_call g masks).group p ≡ limit_at g p
  round_limit masks p l = go (eqb (round_refusal g masks) done) refl
    where
      go : (t : Bool) → eqb (round_refusal g masks) done ≡ t → limit_at (round_call g masks).group p ≡ limit_at g p
      go true e =
          let s = (heard g masks p).station in
          ap (λ (h : List Station). limit_at h p) (round_done g masks e)
          ∙ ap limit_of (after_at n g c masks (runs g masks e) p l)
          ∙ ap (λ (w : Waiting). w.limit) (turn_waiting s)
          ∙ started_limit (starts_edit s) s.waiting
          ∙ ap (λ (w : Waiting). w.limit) (run_hears n g c masks (runs g masks e) p l).waiting
      go false e = ap (λ (h : List Station). limit_at h p) (round_refused g masks e)

next_limit : (n : ℕ) (H : History) (call : Call) → Members n H.group → (p : ℕ) → p < n → limit_at (next H call).group p ≡ limit_at H.group p
unfolding next
next_limit n H (post x) c p l = post_limit n H.group c x p
next_limit n H (round masks) c p l = round_limit n H.group c masks p l

continued_limit :
    (n : ℕ) (H : History) (calls : List Call) → Members n H.group → (p : ℕ) → p < n → limit_at (continued H calls).group p ≡ limit_at H.group p
unfolding continued
continued_limit n H [] c p l = refl
continued_limit n H (call ∷ calls) c p l = continued_limit n (next H call) calls (members-next n H call c) p l ∙ next_limit n H call c p l

begun_limit : (setup : Setup) → setup.n ≤ 16 → (p : ℕ) → p < setup.n → limit_at (begun setup).group p ≡ setup.limit
unfolding begun
begun_limit setup high p l =
    ap limit_of (fresh_at setup high p l) ∙ ap (λ (w : Waiting). w.limit) (fresh_self setup p).waiting ∙ none_limit setup.limit

pub limits_kept :
    (setup : Setup) → group_fresh_refusal setup ≡ done → (calls : List Call) (p : ℕ) → p < setup.n →
    (station_at (history_of setup calls).group p).waiting.limit ≡ setup.limit
limits_kept setup fresh calls p l =
    let ok = accepts setup fresh in
    continued_limit setup.n (begun setup) calls (members-begun setup ok) p l ∙ begun_limit setup ok.high p l
