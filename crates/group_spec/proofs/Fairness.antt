-- Fairness: a desk with something waiting sees at most one edit of the other start before its own
-- oldest. One call starts nothing at the station, or an edit of this desk, or one of the other; in
-- the last case this desk goes first from then on, and did not before.
use Prim.Native.Nat.{ℕ, ◌+◌, ◌≤◌, ◌<◌}
use mathlib.Core.Bool.{Bool, true, false, cond, ◌&&◌}
use mathlib.Core.List.{List, [], ◌∷◌}
use mathlib.Core.Path.{◌≡◌, refl, sym, ap, subst, ◌∙◌}
use native.Mathlib.Decide.{ℕ_discrete}
use native.Mathlib.Omega.{arith}
use lib.Dec.{eqb}
use lib.ListN.{length, length-append}
use borrow.Author.Tests.{eq-eqb, ne_eqb}
use Rattle.bodies.specs.declared.Body.{Body}
use Rattle.bodies.specs.Body.{is_edit}
use Rattle.queues.specs.declared.Waiting.{Waiting}
use Rattle.queues.specs.Waiting.{is_desk, other_desk, desk_count, first_desk, next_desk}
use Rattle.queues.proofs.WaitingLaws.{edits_count, next_desk_lem, other_is, first_next}
use Rattle.station_spec.specs.Limits.{allowed}
use Rattle.station_spec.specs.declared.Setup.{Setup}
use Rattle.group_spec.specs.declared.Post.{Post}
use Rattle.group_spec.specs.State.{station_at}
use Rattle.group_spec.specs.Calls.{round_call}
use Rattle.group_spec.specs.History.{History, Call, Call.post, Call.round, next, continued, history_of, report_in, posts_of}
use Rattle.group_spec.specs.Desks.{waiting_at_desk, starts_of}
use Rattle.group_spec.proofs.Setups.{Accepts}
use Rattle.group_spec.proofs.Members.{Members}
use Rattle.group_spec.proofs.HistoryInside.{members-next, history_members}
use Rattle.group_spec.proofs.TurnAccount.{start_of}
use Rattle.group_spec.proofs.PostsAccounted.{waits, accepts, post_waits, post_first, round_waits, round_first, desk_starts}
use Rattle.group_spec.proofs.DeskTurns.{starts_post, starts_round}

module _ (n p d : ℕ) (below : p < n) (desk : is_desk d ≡ true) where
  abbrev pub first_desk_of : History → ℕ
  first_desk_of H = first_desk (station_at H.group p).waiting

  abbrev pub mine : History → ℕ
  mine H = length (starts_of H p d)

  abbrev pub theirs : History → ℕ
  theirs H = length (starts_of H p (other_desk d))

  -- what one call may do
  pub data Step (H J : History) : Type 0 where
    still : mine J ≡ mine H → theirs J ≡ theirs H → first_desk_of J ≡ first_desk_of H → waiting_at_desk H p d ≤ waiting_at_desk J p d → Step H J
    own : mine J ≡ mine H + 1 → Step H J
    other :
        mine J ≡ mine H → theirs J ≡ theirs H + 1 → first_desk_of J ≡ d → waiting_at_desk H p d ≤ waiting_at_desk J p d →
        (first_desk_of H ≡ d → 0 < waiting_at_desk H p d → ⊥) → Step H J

  -- as many wait as the list of them is long
  pub count_waits : (H : History) → Members n H.group → length (waits H.group p d) ≡ waiting_at_desk H p d
  count_waits H c = edits_count (allowed (station_at H.group p)) (station_at H.group p).waiting (c.member p below).inside.waiting d

  module _ (H : History) (c : Members n H.group) where
    post-step : (x : Post) → Step H (next H (post x))
    post-step x =
        let J : History = next H (post x) in
        let after : Members n J.group = members-next n H (post x) c in
        still (ap length (starts_post H x p d)) (ap length (starts_post H x p (other_desk d))) (unfold next in (post_first n H.group c x p))
        (omega (arith, count_waits H c, count_waits J after, more))
      where
        more : length (waits H.group p d) ≤ length (waits (next H (post x)).group p d)
        more =
            unfold next in
            (omega (
              arith,
              ap length (post_waits n H.group c x p d desk),
              length-append (waits H.group p d) (posts_of p d (accepts H.group x)),
            ))

    module _ (masks : List ℕ) where
      J : History
      J = next H (round masks)

      w : Waiting
      w = (station_at H.group p).waiting

      body : Body
      body = (report_in (round_call H.group masks) p).turn.started_body

      starts_more : (e : ℕ) → length (starts_of J p e) ≡ length (starts_of H p e) + length (start_of (next_desk w) body e)
      unfolding J w body
      starts_more e =
          ap length (starts_round n H c masks p below e)
          ∙ length-append (starts_of H p e) (start_of (next_desk w) body e)

      waits_less : waiting_at_desk H p d ≡ length (start_of (next_desk w) body d) + waiting_at_desk J p d
      unfolding J w body
      waits_less =
          sym (count_waits H c)
          ∙ list
          ∙ ap (λ (k : ℕ). length (start_of (next_desk w) body d) + k) (count_waits (next H (round masks)) (members-next n H (round masks) c))
        where
          list : length (waits H.group p d) ≡ length (start_of (next_desk w) body d) + length (waits (next H (round masks)).group p d)
          list =
              unfold next in
              (ap length (round_waits n H.group c masks p below d desk)
              ∙ length-append (posts_of p d _) (waits (round_call H.group masks).group p d)
              ∙ ap (λ (z : List Body). length z + length (waits (round_call H.group masks).group p d)) (desk_starts n H.group c masks p below d))

      first_after : first_desk_of J ≡ cond (is_edit body) (other_desk (next_desk w)) (first_desk_of H)
      unfolding J w body
      first_after = unfold next in (round_first n H.group c masks p below)

      round_step : Step H J
      round_step = go (is_edit body) refl
        where
          starts_is : (t : Bool) → is_edit body ≡ t → (e : ℕ) (u : Bool) → eqb (next_desk w) e ≡ u → length (start_of (next_desk w) body e) ≡ length (cond (t && u) (body ∷ []) [])
          starts_is t e k u f = rw (e, f)

          -- a desk that goes first and waits is next
          turn : first_desk_of H ≡ d → 0 < waiting_at_desk H p d → next_desk w ≡ d
          turn f some =
              unfold w in
              (first_next (station_at H.group p).waiting
              (subst (λ (k : ℕ). 0 < desk_count (station_at H.group p).waiting k) (sym f) some)
              ∙ f)

          go : (t : Bool) → is_edit body ≡ t → Step H J
          go false e =
              still
              (omega (arith, starts_more d, starts_is false e d (eqb (next_desk w) d) refl))
              (omega (arith, starts_more (other_desk d), starts_is false e (other_desk d) (eqb (next_desk w) (other_desk d)) refl))
              (first_after ∙ rw e)
              (omega (arith, waits_less, starts_is false e d (eqb (next_desk w) d) refl))
          go true e =
              elim (ℕ_discrete (next_desk w) d) [
                | yes same ↦ own (omega (arith, starts_more d, starts_is true e d true (eq-eqb (next_desk w) d same)))
                | no ne ↦
                    (let none = starts_is true e d false (ne_eqb (next_desk w) d ne) in
                    let is : other_desk d ≡ next_desk w = other_is d (next_desk w) desk (next_desk_lem w) (λ z. ne (sym z)) in
                    let back : other_desk (next_desk w) ≡ d = other_is (next_desk w) d (next_desk_lem w) desk ne in
                    other
                    (omega (arith, starts_more d, none))
                    (omega (arith, starts_more (other_desk d), starts_is true e (other_desk d) true (eq-eqb (next_desk w) (other_desk d) (sym is))))
                    (first_after ∙ rw e back)
                    (omega (arith, waits_less, none))
                    (λ f some. ne (turn f some)))
              ]

  pub step : (H : History) (call : Call) → Members n H.group → Step H (next H call)
  step H (post x) c = post-step H c x
  step H (round masks) c = unfold J in (round_step H c masks)

  grows : (H : History) (more : List Call) → Members n H.group → mine H ≤ mine (continued H more)
  unfolding continued
  grows H [] c = omega arith
  grows H (call ∷ more) c =
      let ih : mine (next H call) ≤ mine (continued (next H call) more) = grows (next H call) more (members-next n H call c) in
      elim (step H call c) [
        | still a b f l ↦ omega arith
        | own a ↦ omega arith
        | other a b f l z ↦ omega arith
      ]

  -- k of the other have started since
  fair_from :
      (H : History) (more : List Call) (k : ℕ) → Members n H.group → 0 < waiting_at_desk H p d → k ≤ 1 → (k ≡ 1 → first_desk_of H ≡ d) →
      mine (continued H more) ≡ mine H → theirs (continued H more) + k ≤ theirs H + 1
  unfolding continued
  fair_from H [] k c some l f e = omega arith
  fair_from H (call ∷ more) k c some l f e =
      let after = members-next n H call c in
      elim (step H call c) [
        | still a b z w ↦ omega (arith, fair_from (next H call) more k after (omega arith) l (λ o. z ∙ f o) (e ∙ sym a))
        | own a ↦ absurd (omega (arith, grows (next H call) more after))
        | other a b z w never ↦
            elim (ℕ_discrete k 1) [
              | yes one ↦ absurd (never (f one) some)
              | no ne ↦ omega (arith, ne, fair_from (next H call) more 1 after (omega arith) (omega arith) (λ o. z) (e ∙ sym a))
            ]
      ]

pub desks_fair :
    (setup : Setup) → Accepts setup → (calls more : List Call) (p d : ℕ) → p < setup.n → is_desk d ≡ true →
    let H = history_of setup calls in
    0 < waiting_at_desk H p d → starts_of (continued H more) p d ≡ starts_of H p d →
    length (starts_of (continued H more) p (other_desk d)) ≤ length (starts_of H p (other_desk d)) + 1
desks_fair setup ok calls more p d l desk some same =
    omega (
      arith,
      fair_from setup.n p d l desk (history_of setup calls) more 0 (history_members setup ok calls) some (omega arith) (λ z. absurd (omega arith)) (ap length same),
    )
