-- What is known after a list of issues, posts and rounds: the state by the clocks, the accepted
-- issues by their places, and what every round showed. Here one round more: it shows what its sets
-- gain, and by the clocks that is what is due.
use mathlib.Core.Bool.{Bool, true, false, not, ◌&&◌, false≢true}
use mathlib.Core.List.Memᴰ
use mathlib.Core.List.{List, [], ◌∷◌, ◌++◌, map, Memᴰ}
use mathlib.Core.Logic.{inl, inr, ◌↔◌}
use mathlib.Core.Path.{◌≡◌, refl, sym, ap, ◌∙◌, subst}
use Prim.Native.Nat.{ℕ, suc, ◌*◌, ◌≤◌, ◌<◌}
use native.Mathlib.Decide.{ℕ_discrete, dec_le}
use native.Mathlib.Omega.{arith}
use borrow.Author.Tests.{eq-eqb, lt-ltb, ltb-true, not-true}
use lib.Dec.{eqb, ltb}
use lib.ListN.{length, get_or, length-append, get_or-append}
use lib.Seq.{get_or_at}
use Rattle.bodies.specs.Refusals.{done}
use Rattle.lists.proofs.Laws.{set_below_inside, and_both, and_left, and_right}
use Rattle.links.specs.Log.{bit, masks_in}
use Rattle.links.specs.Relay.{Links, of_log}
use Rattle.links.specs.Inner.Clock.{news}
use Rattle.links.proofs.Facts.{p_news}
use Rattle.station_spec.specs.declared.Station.{Station}
use Rattle.group_spec.specs.declared.RoundDone.{RoundDone}
use Rattle.group_spec.specs.State.{size_of}
use Rattle.group_spec.specs.Calls.{round_call}
use Rattle.bulletins_spec.specs.declared.Bulletins.{Bulletins}
use Rattle.bulletins_spec.specs.declared.Notice.{Notice}
use Rattle.bulletins_spec.specs.declared.Shown.{Shown}
use Rattle.bulletins_spec.specs.declared.BulletinsRound.{BulletinsRound}
use Rattle.bulletins_spec.specs.State.{issuer_of, holds, stands, tag_at, event_at, notice_at}
use Rattle.bulletins_spec.specs.Order.{in_order}
use Rattle.bulletins_spec.specs.Calls.{set_after, bulletins_after, gains, shown_by, shown_of, notices, none_shown, all_shown, fits, round_part, bulletins_round_call}
use Rattle.bulletins_spec.specs.History.{Issued, Answer, shown_in, no_bulletins_round}
use Rattle.bulletins_spec.specs.Claim.{Before, Ascends, Once}
use Rattle.bulletins_spec.proofs.Order.{Ranked, order_from, order_has, order_ranked}
use Rattle.bulletins_spec.proofs.Picked.{picked_from, picked_has, picked-ascends, notices_shown}
use Rattle.bulletins_spec.proofs.Kept.{Kept, kept_log, kept_inside}
use Rattle.bulletins_spec.proofs.KeptRound.{set_clock, stands_after, after_tag, after_event, kept_round}

-- due at another station in round u + 1, by the clocks
pub record Fresh (L : Links) (issues : List Issued) (p u : ℕ) (b : Notice) : Type 0 where
  pub after : ℕ
  pub accepted : Memᴰ (record { notice = b; after = after }) issues
  pub other : p ≡ b.issuer → ⊥
  pub now : after < news L (suc u) p b.issuer
  pub before : news L u p b.issuer ≤ after

-- the accepted issue of the bulletin at place s
abbrev pub standing : Bulletins → (ℕ → ℕ) → ℕ → Issued
standing B T s = record { notice = notice_at B s; after = T s }

-- what the answer to an accepted issue shows
abbrev pub answer_of : Issued → Answer
answer_of x = record { station = x.notice.issuer; after = x.after; notice = x.notice }

pub record Told (n : ℕ) (log : List (List ℕ)) (B : Bulletins) (issues : List Issued) (answers : List Answer) (rounds : List BulletinsRound) : Type 0 where
  pub time : ℕ → ℕ
  pub count : length rounds ≡ length log
  pub kept : Kept n (of_log n log) (length log) time B
  pub listed : (x : Issued) → Memᴰ x issues → (s : ℕ) × (s < 4 * n) × (stands B s ≡ true) × (x ≡ standing B time s)
  pub every : (s : ℕ) → s < 4 * n → stands B s ≡ true → Memᴰ (standing B time s) issues
  pub shows : (p u : ℕ) → p < n → u < length log → (b : Notice) → Memᴰ b (shown_in rounds p (suc u)) ↔ Fresh (of_log n log) issues p u b
  pub ordered : (p u : ℕ) → p < n → u < length log → Ascends (shown_in rounds p (suc u))
  pub once : Once issues
  pub told : answers ≡ map answer_of issues

-- one round more, of a group of n that does not refuse it
module _ (n : ℕ) (low : 1 ≤ n) (high : n ≤ 16) (log : List (List ℕ)) (masks : List ℕ) (g : List Station) (B : Bulletins)
    (issues : List Issued) (answers : List Answer) (rounds : List BulletinsRound)
    (size : size_of g ≡ n) (fine : (round_call g masks).refusal ≡ done) (t : Told n log B issues answers rounds) where
  abbrev u : ℕ
  u = length log

  abbrev log' : List (List ℕ)
  log' = log ++ (masks ∷ [])

  abbrev L : Links
  L = of_log n log'

  here : masks_in log' (suc u) ≡ masks
  unfolding masks_in
  here = get_or_at log masks [] [] u refl

  k : Kept n L u t.time B
  k = kept_log n log (masks ∷ []) u t.time B (omega arith) t.kept

  -- ---- what the round shows

  gains_parts : (p s : ℕ) → gains B masks p s ≡ true → (bit (set_after B masks p) s ≡ true) × (holds B p s ≡ false)
  unfolding gains
  gains_parts p s h =
      let a = bit (set_after B masks p) s in
      let b = not (holds B p s) in
      (and_left a b h, not-true (holds B p s) (and_right a b h))

  gains_make : (p s : ℕ) → bit (set_after B masks p) s ≡ true → holds B p s ≡ false → gains B masks p s ≡ true
  unfolding gains
  gains_make p s a b = and_both a (ap not b)

  -- what p gains stands, and its news of the issuer was too old and is not any more
  gained : (p s : ℕ) → p < n → s < 4 * n → gains B masks p s ≡ true
      → (stands B s ≡ true) × (t.time s < news L (suc u) p (issuer_of s)) × (news L u p (issuer_of s) ≤ t.time s)
  gained p s lp ls h =
      let parts = gains_parts p s h in
      let now : (stands B s && ltb (t.time s) (news L (suc u) p (issuer_of s))) ≡ true = sym (set_clock n high log' masks u t.time B here k p s lp ls) ∙ parts.0 in
      let st = and_left (stands B s) (ltb (t.time s) (news L (suc u) p (issuer_of s))) now in
      (st, ltb-true (t.time s) (news L (suc u) p (issuer_of s)) (and_right (stands B s) _ now), older st parts.1)
    where
      older : stands B s ≡ true → holds B p s ≡ false → news L u p (issuer_of s) ≤ t.time s
      older st h₂ =
          elim (dec_le (news L u p (issuer_of s)) (t.time s)) [
            | yes l ↦ l
            | no l ↦
                absurd (false≢true (sym h₂ ∙ k.held p s lp ls ∙ and_both st (lt-ltb (t.time s) (news L u p (issuer_of s)) (omega arith))))
          ]

  unheld : (p s : ℕ) → p < n → s < 4 * n → news L u p (issuer_of s) ≤ t.time s → holds B p s ≡ false
  unheld p s lp ls l = go (holds B p s) refl
    where
      go : (c : Bool) → holds B p s ≡ c → c ≡ false
      go false e = refl
      go true e =
          let h : (stands B s && ltb (t.time s) (news L u p (issuer_of s))) ≡ true = sym (k.held p s lp ls) ∙ e in
          absurd (omega (arith, ltb-true (t.time s) (news L u p (issuer_of s)) (and_right (stands B s) _ h)))

  new_from : (p : ℕ) → p < n → (b : Notice) → Memᴰ b (shown_by B masks p) → Fresh L issues p u b
  unfolding shown_by
  new_from p lp b m =
      let x = picked_from (gains B masks p) (notice_at B) b (in_order (tag_at B) B.n) m in
      let s = x.0 in
      let ls : s < 4 * n = omega (arith, order_from (tag_at B) B.n s x.1, k.size) in
      let c = gained p s lp ls x.2 in
      subst (λ (y : Notice). Fresh L issues p u y) (sym x.3)
      (record {
        after = t.time s;
        accepted = t.every s ls c.0;
        other = λ q. false≢true (sym (gains_parts p s x.2).1 ∙ ap (λ (i : ℕ). holds B i s) q ∙ c.0);
        now = c.1;
        before = c.2;
      })

  new_has : (p : ℕ) → p < n → (b : Notice) → Fresh L issues p u b → Memᴰ b (shown_by B masks p)
  unfolding shown_by
  new_has p lp b f =
      let x = t.listed (record { notice = b; after = f.after }) f.accepted in
      let s = x.0 in
      let ls = x.1 in
      let e : b ≡ notice_at B s = ap (λ (y : Issued). y.notice) x.3 in
      let i : b.issuer ≡ issuer_of s = ap (λ (y : Notice). y.issuer) e in
      let a : f.after ≡ t.time s = ap (λ (y : Issued). y.after) x.3 in
      let now : t.time s < news L (suc u) p (issuer_of s) = subst (λ (q : ℕ). t.time s < news L (suc u) p q) i (omega (arith, f.now)) in
      let before : news L u p (issuer_of s) ≤ t.time s = subst (λ (q : ℕ). news L u p q ≤ t.time s) i (omega (arith, f.before)) in
      picked_has (gains B masks p) (notice_at B) b (in_order (tag_at B) B.n) s
      (order_has (tag_at B) B.n s (omega (arith, k.size)))
      (gains_make p s
      (set_clock n high log' masks u t.time B here k p s lp ls ∙ and_both x.2 (lt-ltb (t.time s) (news L (suc u) p (issuer_of s)) now))
      (unheld p s lp ls before))
      e

  new_ordered : (p : ℕ) → p < n → Ascends (shown_by B masks p)
  unfolding shown_by
  new_ordered p lp =
      picked-ascends (gains B masks p) (notice_at B) (Ranked (tag_at B)) (in_order (tag_at B) B.n) (order_ranked (tag_at B) B.n)
      (λ s r ms mr gs gr h. go s r (below s ms) (below r mr) gs gr h)
    where
      below : (s : ℕ) → Memᴰ s (in_order (tag_at B) B.n) → s < 4 * n
      below s m = omega (arith, order_from (tag_at B) B.n s m, k.size)

      go : (s r : ℕ) → s < 4 * n → r < 4 * n → gains B masks p s ≡ true → gains B masks p r ≡ true → Ranked (tag_at B) s r → Before (notice_at B s) (notice_at B r)
      go s r ls lr gs gr (inl l) = inl l
      go s r ls lr gs gr (inr h) =
          elim (ℕ_discrete (tag_at B s) (tag_at B r)) [
            | yes e ↦ absurd (h.2 (k.tags s r ls lr h.0 (gained p s lp ls gs).0 (gained p r lp lr gr).0 e))
            | no d ↦ inr (h.0, omega (arith, h.1))
          ]

  -- ---- the answer of the round

  suited : fits g B ≡ true
  suited = and_both (kept_inside n low high (of_log n log) u t.time B t.kept) (eq-eqb (size_of g) B.n (size ∙ sym t.kept.size))

  abbrev made : BulletinsRound
  made = bulletins_round_call g B masks

  part : round_part g B masks ≡ round_call g masks
  unfolding round_part
  part = rw suited

  part_fine : eqb (round_part g B masks).refusal done ≡ true
  part_fine = eq-eqb (round_part g B masks).refusal done (ap (λ (r : RoundDone). r.refusal) part ∙ fine)

  pub made_round : made.round ≡ round_call g masks
  unfolding bulletins_round_call
  made_round = part

  made_bulletins : made.bulletins ≡ bulletins_after B masks
  unfolding bulletins_round_call
  made_bulletins = rw part_fine

  made_shown : made.shown ≡ all_shown B masks
  unfolding bulletins_round_call
  made_shown = rw part_fine

  all_shown_lem : (p : ℕ) → p < n → notices (get_or (all_shown B masks) p (shown_of [])) ≡ shown_by B masks p
  unfolding all_shown none_shown
  all_shown_lem p lp =
      ap notices (set_below_inside B.n (λ q. shown_of (shown_by B masks q)) none_shown p (shown_of []) (omega (arith, k.size)) (omega arith))
      ∙ notices_shown (shown_by B masks p)

  abbrev rounds' : List BulletinsRound
  rounds' = rounds ++ (made ∷ [])

  shown_now : (p : ℕ) → p < n → shown_in rounds' p (suc u) ≡ shown_by B masks p
  unfolding shown_in
  shown_now p lp =
      ap (λ (r : BulletinsRound). notices (get_or r.shown p (shown_of []))) (get_or_at rounds made [] no_bulletins_round u t.count)
      ∙ ap (λ (l : List Shown). notices (get_or l p (shown_of []))) made_shown
      ∙ all_shown_lem p lp

  shown_before : (p w : ℕ) → w < u → shown_in rounds' p (suc w) ≡ shown_in rounds p (suc w)
  unfolding shown_in
  shown_before p w l =
      ap (λ (r : BulletinsRound). notices (get_or r.shown p (shown_of [])))
      (get_or-append rounds (made ∷ []) no_bulletins_round w (omega (arith, t.count)))

  log_length : length log' ≡ suc u
  log_length = length-append log (masks ∷ []) ∙ omega arith

  -- ---- all that is known, after the round

  module _ (p w : ℕ) (b : Notice) (l : w < u) where
    clock_now : news (of_log n log) (suc w) p b.issuer ≡ news L (suc w) p b.issuer
    clock_now = p_news n log (masks ∷ []) (suc w) p b.issuer l

    clock_before : news (of_log n log) w p b.issuer ≡ news L w p b.issuer
    clock_before = p_news n log (masks ∷ []) w p b.issuer (omega arith)

    later : Fresh (of_log n log) issues p w b → Fresh L issues p w b
    later f =
        record {
          after = f.after;
          accepted = f.accepted;
          other = f.other;
          now = omega (arith, f.now, clock_now);
          before = omega (arith, f.before, clock_before);
        }

    earlier : Fresh L issues p w b → Fresh (of_log n log) issues p w b
    earlier f =
        record {
          after = f.after;
          accepted = f.accepted;
          other = f.other;
          now = omega (arith, f.now, clock_now);
          before = omega (arith, f.before, clock_before);
        }

  shows_round : (p w : ℕ) → p < n → w < length log' → (b : Notice) → Memᴰ b (shown_in rounds' p (suc w)) ↔ Fresh L issues p w b
  shows_round p w lp lw b =
      elim (ℕ_discrete w u) [
        | yes e ↦
            subst (λ (v : ℕ). Memᴰ b (shown_in rounds' p (suc v)) ↔ Fresh L issues p v b) (sym e)
            (rw (shown_now p lp) (new_from p lp b, new_has p lp b))
        | no d ↦
            (let l : w < u = omega (arith, log_length) in
            let h = t.shows p w lp l b in
            rw (shown_before p w l) (λ x. later p w b l (h.0 x), λ f. h.1 (earlier p w b l f)))
      ]

  ordered_round : (p w : ℕ) → p < n → w < length log' → Ascends (shown_in rounds' p (suc w))
  ordered_round p w lp lw =
      elim (ℕ_discrete w u) [
        | yes e ↦ subst (λ (v : ℕ). Ascends (shown_in rounds' p (suc v))) (sym e) (rw (shown_now p lp) (new_ordered p lp))
        | no d ↦ (let l : w < u = omega (arith, log_length) in rw (shown_before p w l) (t.ordered p w lp l))
      ]

  abbrev B' : Bulletins
  B' = bulletins_after B masks

  standing_after : (s : ℕ) → standing B' t.time s ≡ standing B t.time s
  standing_after s =
      ap (λ (x : ℕ). record { notice = record { issuer = issuer_of s; tag = x; event = event_at B' s }; after = t.time s }) (after_tag n high log' masks u t.time B here k s)
      ∙ ap (λ (x : ℕ). record { notice = record { issuer = issuer_of s; tag = tag_at B s; event = x }; after = t.time s }) (after_event n high log' masks u t.time B here k s)

  same_stands : (s : ℕ) → s < 4 * n → stands B' s ≡ stands B s
  same_stands = stands_after n high log' masks u t.time B here k

  pub told_round : Told n log' made.bulletins issues answers rounds'
  told_round =
      subst (λ (X : Bulletins). Told n log' X issues answers rounds') (sym made_bulletins)
      (record {
        time = t.time;
        count = length-append rounds (made ∷ []) ∙ omega (arith, t.count, log_length);
        kept = subst (λ (v : ℕ). Kept n L v t.time B') (sym log_length) (kept_round n high log' masks u t.time B here k);
        listed =
            λ x m.
            let y = t.listed x m in
            (y.0, y.1, same_stands y.0 y.1 ∙ y.2, y.3 ∙ sym (standing_after y.0));
        every = λ s ls h. Memᴰ.cast (standing_after s) (t.every s ls (sym (same_stands s ls) ∙ h));
        shows = shows_round;
        ordered = ordered_round;
        once = t.once;
        told = t.told;
      })
