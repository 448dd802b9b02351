-- Calls on bytes one after the other: what a call leaves is accepted by the next, and decoded to
-- just the state that the call gave. The numbers fit their fields from fresh on: a tag and an event
-- have 32 bits by the types of an issue, and a union of sets of 64 places is such a set.
use mathlib.Core.Bool.{Bool, true, false, cond, not, ◌||◌}
use mathlib.Core.List.{List, [], ◌∷◌}
use mathlib.Core.Path.{◌≡◌, refl, sym, ◌∙◌, subst}
use Prim.Native.Nat.{ℕ, zero, suc, ◌+◌, ◌*◌, ◌^◌, ◌<◌, ◌≤◌}
use native.Mathlib.Decide.{ℕ_discrete, dec_le}
use native.Mathlib.Omega.{arith}
use borrow.Author.Tests.{eqb-true, eqb-false, ltb-true, leb-true}
use lib.Bits.{bit_or, or_lt}
use lib.Dec.{eqb, ltb, leb}
use lib.ListN.{length-set, get_or-replicate, get_or-eq_default}
use lib.Pow.{pow-lt}
use Rattle.bodies.specs.Refusals.{done, bad_number, outside_limits, not_an_edit, already_issued, refuse_number}
use Rattle.lists.proofs.Keeps.{cond_keeps, set_keeps}
use Rattle.lists.proofs.Laws.{and_left, and_right, set_below_inside, set_below_above, length-set_below}
use Rattle.links.specs.Log.{hears_in}
use Rattle.planning.specs.Sets.{united}
use Rattle.station_spec.specs.declared.Setup.{Setup}
use Rattle.station_spec.specs.declared.Station.{Station}
use Rattle.group_spec.specs.Calls.{group_fresh_refusal}
use Rattle.group_spec.specs.History.{Call, Call.post, Call.round}
use Rattle.group_spec.proofs.Setups.{accepts}
use Rattle.bulletins_spec.specs.declared.Bulletins.{Bulletins}
use Rattle.bulletins_spec.specs.State.{set_of, event_inside, bulletins_inside, fresh_bulletins}
use Rattle.bulletins_spec.specs.Calls.{free_place, has_tag, has_four, issue_refusal, issued, issue_call, set_after, bulletins_after, round_part, bulletins_round_call}
use Rattle.bulletins_spec.specs.History.{Entry, Entry.call, Entry.issue, History, next, begins, continued, run_of}
use Rattle.bulletins_spec.proofs.KeptIssue.{free_range}
use Rattle.bulletin_bytes.specs.Bulletins.{encode_bulletins, decode_bulletins, is_bulletins}
use Rattle.bulletin_bytes.proofs.Bulletins.{Fits, bulletins_accepted, bulletins_decoded}

pub record Again (B : Bulletins) : Type 0 where
  pub accepted : is_bulletins (encode_bulletins B) ≡ true
  pub decoded : decode_bulletins (encode_bulletins B) ≡ B

again : (B : Bulletins) → Fits B → Again B
again B f = record { accepted = bulletins_accepted B; decoded = bulletins_decoded B f }

abbrev Word : ℕ → Type 0
Word x = x < 4_294_967_296

abbrev Set64 : ℕ → Type 0
Set64 x = x < 18_446_744_073_709_551_616

-- ---- fresh

fresh_fits : (n : ℕ) → n < 256 → Fits (fresh_bulletins n)
unfolding fresh_bulletins
fresh_fits n small =
    record {
      shape = record { tags = refl; events = refl; held = refl };
      size = small;
      tags = λ s l. subst Word (sym (get_or-replicate 64 s 0 0 l)) (omega arith);
      events = λ s l. subst Word (sym (get_or-replicate 64 s 0 0 l)) (omega arith);
      held = λ p l. subst Set64 (sym (get_or-replicate 16 p 0 0 l)) (omega arith);
    }

-- ---- issue

module _ (B : Bulletins) (f : Fits B) (i tag event : ℕ) (small_tag : Word tag) (small_event : Word event) where
  -- an issue that is done has an issuer below 16 and a free place
  issue_places : issue_refusal B i tag event ≡ done → (i < 16) × (free_place B i < 64)
  unfolding issue_refusal bulletins_inside
  issue_places e = go (bulletins_inside B) (ltb i B.n) (event_inside event) (has_tag B i tag) (has_four B i) refl refl refl e
    where
      few : bulletins_inside B ≡ true → B.n ≤ 16
      few h = leb-true B.n 16 (and_right (leb 1 B.n) (leb B.n 16) (and_left _ _ h))

      go : (a b c d e : Bool) → bulletins_inside B ≡ a → ltb i B.n ≡ b → has_four B i ≡ e
          → refuse_number (not a) outside_limits (refuse_number (not b) bad_number (refuse_number (not c) not_an_edit (refuse_number (d || e) already_issued done))) ≡ done
          → (i < 16) × (free_place B i < 64)
      go true true true false false p q r z =
          let below = ltb-true i B.n q in
          let most = few p in
          let range = (free_range B 4 (4 * i)).1 in
          let l : i < 16 = omega arith in
          (l, elim (ℕ_discrete (free_place B i) (4 * i + 4)) [ yes w ↦ absurd (eqb-false (free_place B i) (4 * i + 4) r w) | no w ↦ omega (arith, range, l) ])
      go true true true false true p q r z = absurd (omega (arith, z))
      go true true true true e p q r z = absurd (omega (arith, z))
      go true true false d e p q r z = absurd (omega (arith, z))
      go true false c d e p q r z = absurd (omega (arith, z))
      go false b c d e p q r z = absurd (omega (arith, z))

  issued-fits : i < 16 → free_place B i < 64 → Fits (issued B i tag event)
  unfolding issued
  issued-fits li lp =
      record {
        shape =
            record {
              tags = length-set B.tags (free_place B i) tag ∙ f.shape.tags;
              events = length-set B.events (free_place B i) event ∙ f.shape.events;
              held = length-set B.held i (bit_or (set_of B i) (2 ^ free_place B i)) ∙ f.shape.held;
            };
        size = f.size;
        tags = λ s l. set_keeps Word B.tags (free_place B i) tag 0 s (omega (arith, f.shape.tags)) (f.tags s l) small_tag;
        events = λ s l. set_keeps Word B.events (free_place B i) event 0 s (omega (arith, f.shape.events)) (f.events s l) small_event;
        held =
            λ p l.
            set_keeps Set64 B.held i (bit_or (set_of B i) (2 ^ free_place B i)) 0 p (omega (arith, f.shape.held)) (f.held p l)
            (or_lt 64 (set_of B i) (2 ^ free_place B i) (f.held i li) (pow-lt lp));
      }

  issue_fits : Fits (issue_call B i tag event).bulletins
  unfolding issue_call
  issue_fits = go (eqb (issue_refusal B i tag event) done) refl
    where
      go : (t : Bool) → eqb (issue_refusal B i tag event) done ≡ t → Fits (cond t (issued B i tag event) B)
      go true e = let p = issue_places (eqb-true (issue_refusal B i tag event) done e) in issued-fits p.0 p.1
      go false e = f

-- ---- round

united_small : (k : ℕ) (heard : ℕ → Bool) (h : ℕ → ℕ) (x : ℕ) → ((j : ℕ) → Set64 (h j)) → Set64 x → Set64 (united k heard h x)
unfolding united
united_small zero heard h x each first = first
united_small (suc k) heard h x each first =
    let below = united_small k heard h x each first in
    cond_keeps Set64 (heard k) (bit_or (united k heard h x) (h k)) (united k heard h x) (or_lt 64 (united k heard h x) (h k) below (each k)) below

module _ (B : Bulletins) (f : Fits B) where
  any_set : (j : ℕ) → Set64 (set_of B j)
  any_set j = elim (dec_le (suc j) 16) [ yes l ↦ f.held j l | no l ↦ subst Set64 (sym (get_or-eq_default B.held 0 (omega (arith, f.shape.held)))) (omega arith) ]

  after_fits : (masks : List ℕ) → Fits (bulletins_after B masks)
  unfolding bulletins_after set_after
  after_fits masks =
      let after : ℕ → ℕ = λ p. united B.n (λ j. hears_in B.n masks p j) (set_of B) (set_of B p) in
      record {
        shape =
            record {
              tags = f.shape.tags;
              events = f.shape.events;
              held = length-set_below B.n after B.held ∙ f.shape.held;
            };
        size = f.size;
        tags = f.tags;
        events = f.events;
        held =
            λ p l.
            elim (dec_le (suc p) B.n) [
              | yes m ↦
                  subst Set64 (sym (set_below_inside B.n after B.held p 0 m (omega (arith, f.shape.held))))
                  (united_small B.n (λ j. hears_in B.n masks p j) (set_of B) (set_of B p) any_set (any_set p))
              | no m ↦ subst Set64 (sym (set_below_above B.n after B.held p 0 (omega arith))) (f.held p l)
            ];
      }

  round_fits : (g : List Station) (masks : List ℕ) → Fits (bulletins_round_call g B masks).bulletins
  unfolding bulletins_round_call
  round_fits g masks = go (eqb (round_part g B masks).refusal done)
    where
      go : (t : Bool) → Fits (cond t (bulletins_after B masks) B)
      go true = after_fits masks
      go false = f

-- ---- every list whose tags and events have 32 bits

pub data Words : List Entry → Type 0 where
  no_entry : Words []
  one_call : {c : Call} {rest : List Entry} → Words rest → Words (call c ∷ rest)
  one_issue : {i tag event : ℕ} {rest : List Entry} → tag < 4_294_967_296 → event < 4_294_967_296 → Words rest → Words (issue i tag event ∷ rest)

next-post : (H : History) (x : _) → Fits H.bulletins → Fits (next H (call (post x))).bulletins
unfolding next
next-post H x f = f

next-round : (H : History) (masks : List ℕ) → Fits H.bulletins → Fits (next H (call (round masks))).bulletins
unfolding next
next-round H masks f = round_fits H.bulletins f H.group.group masks

next-issue : (H : History) (i tag event : ℕ) → Word tag → Word event → Fits H.bulletins → Fits (next H (issue i tag event)).bulletins
unfolding next
next-issue H i tag event t e f = issue_fits H.bulletins f i tag event t e

continued-fits : (H : History) (entries : List Entry) → Words entries → Fits H.bulletins → Fits (continued H entries).bulletins
unfolding continued
continued-fits H [] no_entry f = f
continued-fits H (call (post x) ∷ rest) (one_call w) f = continued-fits (next H (call (post x))) rest w (next-post H x f)
continued-fits H (call (round masks) ∷ rest) (one_call w) f = continued-fits (next H (call (round masks))) rest w (next-round H masks f)
continued-fits H (issue i tag event ∷ rest) (one_issue t e w) f =
    continued-fits (next H (issue i tag event)) rest w (next-issue H i tag event t e f)

begins-fits : (setup : Setup) → setup.n < 256 → Fits (begins setup).bulletins
unfolding begins
begins-fits setup l = fresh_fits setup.n l

-- what the list leaves is accepted, and decoded as it is
pub run_again : (setup : Setup) → group_fresh_refusal setup ≡ done → (entries : List Entry) → Words entries → Again (run_of setup entries).bulletins
run_again setup ok entries w =
    again (run_of setup entries).bulletins (continued-fits (begins setup) entries w (begins-fits setup (omega (arith, (accepts setup ok).high))))
