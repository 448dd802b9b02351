-- Replies stay behind what they reply to. What a station has aired before a post are edits that
-- were accepted before it, so the post is none of them; of two aired lists one begins the other, so
-- every list that has the post has all these entries before it.
use Prim.Native.Nat.{ℕ, ◌≤◌, ◌<◌}
use mathlib.Core.List.{List, ◌∷◌, ◌++◌}
use mathlib.Core.Path.{◌≡◌, refl, sym, subst, ◌∙◌}
use native.Mathlib.Decide.{dec_le}
use native.Mathlib.Omega.{arith}
use lib.ListN.{get_or, length}
use borrow.Author.Tests.{eq-eqb}
use Rattle.bodies.specs.Refusals.{done}
use Rattle.station_spec.specs.declared.Setup.{Setup}
use Rattle.group_spec.specs.declared.Post.{Post}
use Rattle.group_spec.specs.Calls.{group_fresh_refusal, group_post_refusal}
use Rattle.group_spec.specs.History.{History, Call, Call.post, begun, continued, history_of, posts_of, aired_list}
use Rattle.group_spec.specs.Replies.{Edit, no_post, edit_after, edit_at, aired_edit, AiredAt, Identified, Behind, RepliesBehind, PostsBehind}
use Rattle.group_spec.proofs.Setups.{accepts}
use Rattle.group_spec.proofs.MembersPost.{accepted}
use Rattle.group_spec.proofs.HistoryInside.{history_members}
use Rattle.group_spec.proofs.Continued.{continued-append}
use Rattle.group_spec.proofs.EditPlaces.{post_at}
use Rattle.group_spec.proofs.Identities.{edits_identified}

-- an accepted post has a number below that of its desk's accepted posts
number_below :
    (xs : List Post) (k : ℕ) → k < length xs →
    let e = edit_at xs k in e.number < length (posts_of e.source e.desk xs)
unfolding edit_at
number_below xs k l = (post_at (get_or xs k no_post).station (get_or xs k no_post).desk xs k l refl refl).0

-- so the next one is none of them
never_again : (xs : List Post) (k : ℕ) (x : Post) → k < length xs → edit_at xs k ≡ edit_after xs x → ⊥
never_again xs k x l e =
    let below : (edit_after xs x).number < length (posts_of (edit_after xs x).source (edit_after xs x).desk xs) =
    subst (λ (z : Edit). z.number < length (posts_of z.source z.desk xs)) e (number_below xs k l) in
    absurd (omega (arith, below))

module _ (setup : Setup) (fresh : group_fresh_refusal setup ≡ done) (before after : List Call) (later : Post) where
  abbrev n : ℕ
  n = setup.n

  abbrev H₀ : History
  H₀ = history_of setup before

  abbrev H : History
  H = history_of setup (before ++ (post later ∷ after))

  abbrev y : Edit
  y = edit_after H₀.accepted later

  I₀ : Identified n H₀
  I₀ = edits_identified setup fresh before

  I : Identified n H
  I = edits_identified setup fresh (before ++ (post later ∷ after))

  whole : H ≡ continued H₀ (post later ∷ after)
  whole = continued-append (begun setup) before (post later ∷ after)

  module _ (p : ℕ) (below : p < n) where
    -- an entry that p had aired is the same entry of every list that is long enough
    stays :
        (i q : ℕ) → q < n → i < length (aired_list n H₀ p) → i < length (aired_list n H q) →
        aired_edit n H q i ≡ aired_edit n H₀ p i
    stays i q lq l there =
        let at : AiredAt n H p i (aired_edit n H₀ p i) = rw whole (I₀.entries_stay (post later ∷ after) p i below l) in
        I.lists_agree q p i lq below there at.there ∙ at.same

    -- the later post is not among what p had aired
    behind : (q k : ℕ) → q < n → AiredAt n H q k y → length (aired_list n H₀ p) ≤ k
    behind q k lq a =
        elim (dec_le (length (aired_list n H₀ p)) k) [
          | yes h ↦ h
          | no h ↦
              (let l : k < length (aired_list n H₀ p) = omega (arith, h) in
              let was = I₀.entries_posted p k below l in
              absurd
              (never_again H₀.accepted was.place later was.there
              (was.same ∙ sym (stays k q lq l a.there) ∙ a.same)))
        ]

    module _ (x : Edit) (i : ℕ) (seen : AiredAt n H₀ p i x) where
      there : (q k : ℕ) → q < n → AiredAt n H q k y → AiredAt n H q i x
      there q k lq a =
          let l : i < length (aired_list n H q) = omega (arith, behind q k lq a, seen.there, a.there) in
          record { there = l; same = stays i q lq seen.there l ∙ seen.same }

      stays_behind : Behind n H x y
      stays_behind =
          record {
            later =
                λ q j k lq b a.
                let c = there q k lq a in
                let e : j ≡ i = I.entries_differ q j i lq b.there c.there (b.same ∙ sym c.same) in
                omega (arith, e, behind q k lq a, seen.there);
            never_without = λ q k lq a. (i, there q k lq a);
          }

pub posts_behind : PostsBehind
posts_behind setup fresh before later after taken x p i below seen =
    stays_behind setup fresh before after later p below x i seen

pub replies_behind : RepliesBehind
replies_behind setup fresh before reply after taken x i seen =
    posts_behind setup fresh before reply after taken x reply.station i
    (omega (
      arith,
      (accepted (history_of setup before).group reply
          (eq-eqb (group_post_refusal (history_of setup before).group reply) done taken)).below,
      (history_members setup (accepts setup fresh) before).size,
    ))
    seen
