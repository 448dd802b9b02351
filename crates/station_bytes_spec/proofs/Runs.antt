-- Lists of calls on bytes. From a fresh group's bytes, every list of posts and rounds leaves the
-- bytes of the group that the list's history has; so what demand 3 says of histories holds of a
-- group that a C program keeps as bytes.
use mathlib.Core.Path.{◌≡◌, refl, sym, ap, subst, ◌∙◌}
use mathlib.Core.Bool.{Bool, true, false, cond, false≢true}
use mathlib.Core.List.{List, [], ◌∷◌}
use Prim.Native.Nat.{ℕ}
use lib.Dec.{eqb}
use Rattle.bodies.specs.Refusals.{done}
use Rattle.station_spec.specs.declared.Setup.{Setup}
use Rattle.station_spec.specs.declared.Station.{Station}
use Rattle.group_spec.specs.declared.Post.{Post}
use Rattle.group_spec.specs.State.{fresh_group}
use Rattle.group_spec.specs.Calls.{group_fresh_refusal, group_post_call, round_call, round_refusal}
use Rattle.group_spec.specs.History.{Call, post, round, History, next, begun, continued, history_of}
use Rattle.group_spec.proofs.Setups.{accepts}
use Rattle.group_spec.proofs.MembersPost.{post_refused}
use Rattle.group_spec.proofs.MembersRound.{round_refused}
use Rattle.station_bytes_spec.specs.Group.{encode_group, decode_group, is_group}
use Rattle.station_bytes_spec.proofs.Body.{BodyFits}
use Rattle.station_bytes_spec.specs.Runs.{next_bytes, continued_bytes}
use Rattle.station_bytes_spec.proofs.Groups.{Kept, kept_decoded, kept_accepted, fresh_kept, post_kept, round_kept}

-- the numbers of the posted bodies have 32 bits, as the types of a call say
pub data CallsFit : List Call → Type 0 where
  no_call : CallsFit []
  one_post : {x : Post} {cs : List Call} → BodyFits x.body → CallsFit cs → CallsFit (post x ∷ cs)
  one_round : {masks : List ℕ} {cs : List Call} → CallsFit cs → CallsFit (round masks ∷ cs)

-- one call
module _ (n : ℕ) (g : List Station) (c : Kept n g) where
  post_bytes : (x : Post) → next_bytes (encode_group g) (post x) ≡ encode_group (group_post_call g x).group
  unfolding next_bytes
  post_bytes x =
      ap
      (λ (h : List Station). cond (eqb (group_post_call h x).refusal done) (encode_group (group_post_call h x).group) (encode_group g))
      (kept_decoded n g c)
      ∙ go (eqb (group_post_call g x).refusal done) refl
    where
      go :
          (t : Bool) → eqb (group_post_call g x).refusal done ≡ t →
          cond (eqb (group_post_call g x).refusal done) (encode_group (group_post_call g x).group) (encode_group g) ≡ encode_group (group_post_call g x).group
      go true e = rw e
      go false e = rw e (ap encode_group (sym (post_refused g x e)))

  round_same : (masks : List ℕ) → eqb (round_call g masks).refusal done ≡ false → (round_call g masks).group ≡ g
  unfolding round_call
  round_same masks e = go (eqb (round_refusal g masks) done) refl
    where
      go : (t : Bool) → eqb (round_refusal g masks) done ≡ t → (round_call g masks).group ≡ g
      go true q = absurd (false≢true (sym e ∙ rw q))
      go false q = round_refused g masks q

  round_bytes : (masks : List ℕ) → next_bytes (encode_group g) (round masks) ≡ encode_group (round_call g masks).group
  unfolding next_bytes
  round_bytes masks =
      ap
      (λ (h : List Station). cond (eqb (round_call h masks).refusal done) (encode_group (round_call h masks).group) (encode_group g))
      (kept_decoded n g c)
      ∙ go (eqb (round_call g masks).refusal done) refl
    where
      go :
          (t : Bool) → eqb (round_call g masks).refusal done ≡ t →
          cond (eqb (round_call g masks).refusal done) (encode_group (round_call g masks).group) (encode_group g) ≡ encode_group (round_call g masks).group
      go true e = rw e
      go false e = rw e (ap encode_group (sym (round_same masks e)))

-- the history after one call
post_group : (H : History) (x : Post) → (next H (post x)).group ≡ (group_post_call H.group x).group
unfolding next
post_group H x = refl

round_group : (H : History) (masks : List ℕ) → (next H (round masks)).group ≡ (round_call H.group masks).group
unfolding next
round_group H masks = refl

-- a list of calls
pub continued_bytes_lem :
    (n : ℕ) (cs : List Call) → CallsFit cs → (H : History) → Kept n H.group →
    Kept n (continued H cs).group × (continued_bytes (encode_group H.group) cs ≡ encode_group (continued H cs).group)
unfolding continued continued_bytes
continued_bytes_lem n [] no_call H c = (c, refl)
continued_bytes_lem n (post x ∷ cs) (one_post f fs) H c =
    let kept = subst (Kept n) (sym (post_group H x)) (post_kept n H.group c x f) in
    let rest = continued_bytes_lem n cs fs (next H (post x)) kept in
    (rest.0, ap (λ (b : List ℕ). continued_bytes b cs) (post_bytes n H.group c x ∙ ap encode_group (sym (post_group H x))) ∙ rest.1)
continued_bytes_lem n (round masks ∷ cs) (one_round fs) H c =
    let kept = subst (Kept n) (sym (round_group H masks)) (round_kept n H.group c masks) in
    let rest = continued_bytes_lem n cs fs (next H (round masks)) kept in
    (rest.0, ap (λ (b : List ℕ). continued_bytes b cs) (round_bytes n H.group c masks ∙ ap encode_group (sym (round_group H masks))) ∙ rest.1)

begun_group : (setup : Setup) → (begun setup).group ≡ fresh_group setup
unfolding begun
begun_group setup = refl

module _ (setup : Setup) (fresh : group_fresh_refusal setup ≡ done) (calls : List Call) (f : CallsFit calls) where
  both_ways :
      Kept setup.n (history_of setup calls).group
      × (continued_bytes (encode_group (begun setup).group) calls ≡ encode_group (history_of setup calls).group)
  both_ways = continued_bytes_lem setup.n calls f (begun setup) (subst (Kept setup.n) (sym (begun_group setup)) (fresh_kept setup (accepts setup fresh)))

  -- the bytes after the calls are those of the history's group
  pub runs_on_bytes : continued_bytes (encode_group (fresh_group setup)) calls ≡ encode_group (history_of setup calls).group
  runs_on_bytes = ap (λ (g : List Station). continued_bytes (encode_group g) calls) (sym (begun_group setup)) ∙ both_ways.1

  -- they are accepted, and decoded to it
  pub runs_accepted : is_group (encode_group (history_of setup calls).group) ≡ true
  runs_accepted = kept_accepted setup.n (history_of setup calls).group both_ways.0

  pub runs_decoded : decode_group (encode_group (history_of setup calls).group) ≡ (history_of setup calls).group
  runs_decoded = kept_decoded setup.n (history_of setup calls).group both_ways.0
