-- A station has broadcast k exactly where the number that it has got to is at least k (`has_got`),
-- and that number never falls. So the first round of the recursion is the first by relays; and
-- where two links agree up to a round their answers do, so rounds added can only turn never into
-- one of them.
use mathlib.Core.Bool.{cond}
use mathlib.Core.List.{List, ◌++◌}
use mathlib.Core.Logic.{inl, inr, ⊎_elim, ◌↔◌}
use mathlib.Core.Option.{Option, none, some}
use mathlib.Core.Path.{◌≡◌, refl, sym, ◌∙◌, ap}
use Prim.Native.Nat.{ℕ, zero, suc, ◌+◌, ◌<◌, ◌≤◌}
use native.Mathlib.Decide.{ℕ_discrete, dec_le}
use native.Mathlib.Nat.{le_refl}
use native.Mathlib.Omega.{arith}
use lib.ListN.{length, length-append}
use borrow.Author.Tests.{le-leb, lt-leb}
use lib.Dec.{leb}
use Rattle.lists.proofs.Later.{from_on}
use Rattle.links.specs.Relay.{Links, of_log}
use Rattle.links.specs.EndRule.{RelayBy, Starts, at_first}
use Rattle.links.specs.Inner.Number.{start, num, got}
use Rattle.links.specs.Question.{HasBy, BroughtIn, Answered, in_round, in_none, Extends, kept, still, now, otherwise, answer_in}
use Rattle.links.specs.Inner.Clock.{news}
use Rattle.links.specs.Inner.Number.{answers}
use Rattle.links.specs.Inner.Know.{knows}
use Rattle.links.specs.Forecast.{end_count}
use Rattle.links.proofs.Clock.{news_own}
use Rattle.links.proofs.Forecast.{num-end_count}
use Rattle.links.proofs.Number.{step, num_zero, num_mono, start_limit, same_start}
use Rattle.links.proofs.EndRule.{starts-num, num-starts}
use Rattle.links.proofs.Got.{got_own, got_limit, got_mono, got-start, num_limit}
use Rattle.links.proofs.Version.{got_relay}
use Rattle.links.proofs.Prefix.{Same, got_same, same-append}

module _ (L : Links) where
  -- Each number up to the present one has started.
  pub started_by : (u s k : ℕ) → 1 ≤ k → k ≤ num L u s → (t : ℕ) × Starts L s k t × (t ≤ u)
  started_by zero s k a b = let e : k ≡ 1 = omega (arith, num_zero L s) in (0, rw e at_first, le_refl 0)
  started_by (suc u) s k a b =
      elim (dec_le k (num L u s)) [
        | yes l ↦ (let r = started_by u s k a l in (r.0, r.1, omega (arith, r.2)))
        | no g ↦
            (let e : num L (suc u) s ≡ k = ⊎_elim (λ c. omega (arith, c.2)) (λ c. omega (arith, c.2)) (step L u s) in
            (start L (suc u) s, rw e at (starts-num L (suc u) s), start_limit L (suc u) s))
      ]

  -- A number starts in one round only.
  pub starts_once : (s k t t' : ℕ) → Starts L s k t → Starts L s k t' → t ≡ t'
  starts_once s k t t' a b =
      let x = num-starts L s k t a in
      let y = num-starts L s k t' b in
      sym x.1 ∙ same_start L t t' s (x.0 ∙ sym y.0) ∙ y.1

  -- By numbers and by relays.
  pub has_got : (r s k u : ℕ) → 1 ≤ k → (k ≤ got L u r s) ↔ HasBy L r s k u
  has_got r s k u low = (there, back)
    where
      there : k ≤ got L u r s → HasBy L r s k u
      there h =
          let t = started_by u s k low (omega (arith, got_limit L u r s)) in
          record {
            started = t.0;
            starts = t.1;
            there =
                elim (ℕ_discrete r s) [
                  | yes e ↦ inl (e, t.2)
                  | no d ↦ inr (d, (got_relay L u r s k t.0 d t.1).0 h)
                ];
          }

      back : HasBy L r s k u → k ≤ got L u r s
      back h =
          ⊎_elim
          (λ (e : (r ≡ s) × (h.started ≤ u)).
          rw e.0 (omega (arith, got_own L u s, (num-starts L s k h.started h.starts).0, num_mono L h.started u s e.1)))
          (λ (e : (r ≡ s → ⊥) × RelayBy L s h.started r u). (got_relay L u r s k h.started e.0 h.starts).1 e.1)
          h.there

  -- Station s itself has it in the round in which it starts it.
  pub brought_own : (s k u : ℕ) → 1 ≤ k → BroughtIn L s s k u ↔ Starts L s k u
  brought_own s k u low = (there, back)
    where
      there : BroughtIn L s s k u → Starts L s k u
      there b =
          let h = b.has in
          let own : HasBy L s s k h.started = record { started = h.started; starts = h.starts; there = inl (refl, le_refl h.started) } in
          let l : h.started ≤ u =
          ⊎_elim (λ (e : (s ≡ s) × (h.started ≤ u)). e.1) (λ (e : (s ≡ s → ⊥) × RelayBy L s h.started s u). absurd (e.0 refl)) h.there in
          let e : h.started ≡ u = omega (arith, b.first h.started own) in
          rw e at h.starts

      back : Starts L s k u → BroughtIn L s s k u
      back b =
          record {
            has = record { started = u; starts = b; there = inl (refl, le_refl u) };
            first =
                λ v h.
                ⊎_elim
                (λ (e : (s ≡ s) × (h.started ≤ v)). omega (arith, e.1, starts_once s k u h.started b h.starts))
                (λ (e : (s ≡ s → ⊥) × RelayBy L s h.started s v). absurd (e.0 refl))
                h.there;
          }

  -- Another has it in the first round by which a relay from s after that start has come.
  pub brought_other : (r s k t u : ℕ) → 1 ≤ k → (r ≡ s → ⊥) → Starts L s k t
      → BroughtIn L r s k u ↔ (RelayBy L s t r u × ((v : ℕ) → RelayBy L s t r v → u ≤ v))
  brought_other r s k t u low d b = (there, back)
    where
      relays : (v : ℕ) → HasBy L r s k v ↔ RelayBy L s t r v
      relays v = (λ h. (got_relay L v r s k t d b).0 ((has_got r s k v low).1 h), λ h. (has_got r s k v low).0 ((got_relay L v r s k t d b).1 h))

      there : BroughtIn L r s k u → RelayBy L s t r u × ((v : ℕ) → RelayBy L s t r v → u ≤ v)
      there h = ((relays u).0 h.has, λ v x. h.first v ((relays v).1 x))

      back : RelayBy L s t r u × ((v : ℕ) → RelayBy L s t r v → u ≤ v) → BroughtIn L r s k u
      back h = record { has = (relays u).1 h.0; first = λ v x. h.1 v ((relays v).0 x) }

-- What an answer says, by numbers: a round that is the first, or none up to the last.
data Says (L : Links) (r s k last : ℕ) : Option ℕ → Type 0 where
  says_round : {u : ℕ} → u ≤ last → k ≤ got L u r s → ((v : ℕ) → k ≤ got L v r s → u ≤ v) → Says L r s k last (some u)
  says_none : (got L last r s < k) → Says L r s k last none

module _ (L : Links) (r s k : ℕ) where
  -- One round more.
  more : (u : ℕ) (a : Option ℕ) → Says L r s k u a → Says L r s k (suc u) (otherwise a k (got L (suc u) r s) (suc u))
  unfolding otherwise
  more u (some v) (says_round l h f) = says_round {u = v} (omega arith) h f
  more u none (says_none h) =
      elim (dec_le k (got L (suc u) r s)) [
        | yes l ↦
            rw (le-leb k (got L (suc u) r s) l)
            (says_round (le_refl (suc u)) l
            (λ v x. elim (dec_le (suc u) v) [ yes y ↦ y | no y ↦ absurd (omega (arith, got_mono L v u r s (omega arith))) ]))
        | no g ↦ rw (lt-leb k (got L (suc u) r s) (omega arith)) (says_none (omega arith))
      ]

  says : (last : ℕ) → Says L r s k last (answer_in L r s k last)
  unfolding answer_in otherwise
  says zero =
      elim (dec_le k (got L 0 r s)) [
        | yes l ↦ rw (le-leb k (got L 0 r s) l) (says_round (le_refl 0) l (λ v x. omega arith))
        | no g ↦ rw (lt-leb k (got L 0 r s) (omega arith)) (says_none (omega arith))
      ]
  says (suc u) = more u (answer_in L r s k u) (says u)

  by_relays : (last : ℕ) (a : Option ℕ) → 1 ≤ k → Says L r s k last a → Answered L r s k last a
  by_relays last (some u) low (says_round l h f) =
      in_round {u = u} l (record { has = (has_got L r s k u low).0 h; first = λ v x. f v ((has_got L r s k v low).1 x) })
  by_relays last none low (says_none h) = in_none (λ x. omega (arith, (has_got L r s k last low).1 x))

  -- The answer by relays alone.
  pub answer_relays : (last : ℕ) → 1 ≤ k → Answered L r s k last (answer_in L r s k last)
  answer_relays last low = by_relays last (answer_in L r s k last) low (says last)

  -- What is had stays had.
  pub has_later : (u v : ℕ) → 1 ≤ k → u ≤ v → HasBy L r s k u → HasBy L r s k v
  has_later u v low l h = (has_got L r s k v low).0 (omega (arith, (has_got L r s k u low).1 h, got_mono L u v r s l))

  -- There is no other.
  pub answer_only : (last : ℕ) (a b : Option ℕ) → 1 ≤ k → Answered L r s k last a → Answered L r s k last b → a ≡ b
  answer_only last (some u) (some v) low (in_round l x) (in_round m y) =
      let e : u ≡ v = omega (arith, x.first v y.has, y.first u x.has) in
      ap some e
  answer_only last (some u) none low (in_round l x) (in_none y) = absurd (y (has_later u last low l x.has))
  answer_only last none (some v) low (in_none x) (in_round m y) = absurd (x (has_later v last low m y.has))
  answer_only last none none low (in_none x) (in_none y) = refl

-- More rounds.
pub answer_same : (L M : Links) (last : ℕ) → Same L M last → (r s k u : ℕ) → u ≤ last → answer_in L r s k u ≡ answer_in M r s k u
unfolding answer_in
answer_same L M last same r s k zero l = rw (got_same L M last same 0 r s l)
answer_same L M last same r s k (suc u) l = rw (answer_same L M last same r s k u (omega arith), got_same L M last same (suc u) r s l)

begin : (last : ℕ) (a : Option ℕ) → Extends last last a a
begin last none = still
begin last (some u) = kept

grow : (last w k have : ℕ) (a b : Option ℕ) → last ≤ w → Extends last w a b → Extends last (suc w) a (otherwise b k have (suc w))
unfolding otherwise
grow last w k have (some u) (some v) l kept = kept
grow last w k have (some u) none l x3 = elim x3 [ ]
grow last w k have none (some v) l (now x y) = now {u = v} x (omega arith)
grow last w k have none none l still =
    elim (dec_le k have) [
      | yes h ↦ rw (le-leb k have h) (now {u = suc w} (omega arith) (le_refl (suc w)))
      | no g ↦ rw (lt-leb k have (omega arith)) still
    ]

step_answer : (M : Links) (r s k w : ℕ) → answer_in M r s k (suc w) ≡ otherwise (answer_in M r s k w) k (got M (suc w) r s) (suc w)
unfolding answer_in
step_answer M r s k w = refl

pub answer_extends : (L M : Links) (last more : ℕ) → Same L M last → last ≤ more → (r s k : ℕ)
    → Extends last more (answer_in L r s k last) (answer_in M r s k more)
answer_extends L M last more same l r s k =
    rw (answer_same L M last same r s k last (le_refl last))
    (from_on (λ w. Extends last w (answer_in M r s k last) (answer_in M r s k w)) last (begin last (answer_in M r s k last))
    (λ w h before.
    rw (step_answer M r s k w) (grow last w k (got M (suc w) r s) (answer_in M r s k last) (answer_in M r s k w) h before))
    more l)

-- Rounds added at the end of a log.
pub answer_added : (n : ℕ) (log more : List (List ℕ)) (r s k : ℕ)
    → Extends (length log) (length (log ++ more)) (answer_in (of_log n log) r s k (length log)) (answer_in (of_log n (log ++ more)) r s k (length (log ++ more)))
answer_added n log more r s k =
    answer_extends (of_log n log) (of_log n (log ++ more)) (length log) (length (log ++ more)) (same-append n log more)
    (omega (arith, length-append log more)) r s k

-- What r has of s, read off the sets without a history: as many broadcasts as have ended, and the
-- present one where r has it.
module _ (L : Links) where
  knows_has : (u s p : ℕ) → knows L u s p s ≡ leb (suc (start L u s)) (news L u p s)
  unfolding knows answers
  knows_has u s p = go (news L u p s)
    where
      go : (v : ℕ) → answers L s (start L u s) s v ≡ leb (suc (start L u s)) v
      go zero = sym (lt-leb (suc (start L u s)) 0 (omega arith))
      go (suc w) = ap (leb (suc (start L u s))) (news_own L w s)

  pub got-knows : (u r s : ℕ) → r < L.size → got L u r s ≡ end_count L u s + cond (knows L u s r s) 1 0
  got-knows u r s l =
      elim (dec_le (suc (start L u s)) (news L u r s)) [
        | yes h ↦
            rw (knows_has u s r, le-leb (suc (start L u s)) (news L u r s) h)
            (omega (arith, (got-start L u u r s (le_refl u)).1 h, got_limit L u r s, num-end_count L u s))
        | no g ↦
            rw (knows_has u s r, lt-leb (suc (start L u s)) (news L u r s) (omega arith))
            (elim (dec_le (num L u s) (got L u r s)) [
              | yes x ↦ absurd (g ((got-start L u u r s (le_refl u)).0 x))
              | no x ↦ omega (arith, num_limit L u r s l, num-end_count L u s)
            ])
      ]
