-- What is known after round u rests on the rounds up to u alone. Two links that agree up to a round
-- have the same clocks, numbers, relays and ends up to it, by induction over rounds; so rounds that
-- are added at the end of a log change nothing that came before.
use mathlib.Core.Bool.{Bool, ◌||◌}
use mathlib.Core.List.{List, [], ◌++◌}
use mathlib.Core.Path.{◌≡◌, refl, sym, ◌∙◌, ap}
use Prim.Native.Nat.{ℕ, zero, suc, ◌≤◌}
use native.Mathlib.Decide.{ℕ_discrete, dec_le}
use native.Mathlib.Omega.{arith}
use lib.Dec.{eqb}
use lib.ListN.{length, get_or-append}
use Rattle.lists.specs.Below.{all_below}
use Rattle.lists.proofs.Laws.{all_below_ext}
use Rattle.links.specs.Log.{masks_in, hears_in}
use Rattle.links.specs.Relay.{Links, Relay, of_log}
use Rattle.links.specs.EndRule.{RelayBy, AllReturned, EndsIn, Starts, at_first, after}
use Rattle.links.specs.Inner.Ended.{Ended}
use Rattle.links.specs.Inner.Clock.{latest, news}
use Rattle.links.specs.Inner.Number.{answers, full, start, ends, num, num_of, got, got_of}
use Rattle.links.proofs.Clock.{news_own, news_start, news_step, news_limit}
use Rattle.links.proofs.Relay.{relay_keeps, relay_after}

latest_same : (h k : ℕ → Bool) (f g : ℕ → ℕ) (x y n : ℕ)
    → ((j : ℕ) → h j ≡ k j)
    → ((j : ℕ) → f j ≡ g j)
    → x ≡ y
    → latest n h f x ≡ latest n k g y
unfolding latest
latest_same h k f g x y zero eh ef ex = ex
latest_same h k f g x y (suc n) eh ef ex = rw (eh n, ef n, latest_same h k f g x y n eh ef ex)

-- L and M have the same stations, and the same hearings up to a round.
pub record Same (L M : Links) (last : ℕ) : Type 0 where
  pub sizes : L.size ≡ M.size
  pub hearings : (u p j : ℕ) → u ≤ last → L.hears u p j ≡ M.hears u p j

pub same_sym : (L M : Links) (last : ℕ) → Same L M last → Same M L last
same_sym L M last e = record { sizes = sym e.sizes; hearings = λ u p j l. sym (e.hearings u p j l) }

module _ (L M : Links) (last : ℕ) (same : Same L M last) where
  pub news_same : (u p q : ℕ) → u ≤ last → news L u p q ≡ news M u p q
  news_same zero p q l =
      elim (ℕ_discrete p q) [
        | yes e ↦ rw e (news_own L 0 q ∙ sym (news_own M 0 q))
        | no d ↦ news_start L p q d ∙ sym (news_start M p q d)
      ]
  news_same (suc u) p q l =
      elim (ℕ_discrete p q) [
        | yes e ↦ rw e (news_own L (suc u) q ∙ sym (news_own M (suc u) q))
        | no d ↦
            news_step L u p q d
            ∙ latest_same
            (λ j. L.hears (suc u) p j)
            (λ j. M.hears (suc u) p j)
            (λ j. news L u j q)
            (λ j. news M u j q)
            (news L u p q)
            (news M u p q)
            L.size
            (λ j. same.hearings (suc u) p j l)
            (λ j. news_same u j q (omega arith))
            (news_same u p q (omega arith))
            ∙ ap (λ (n : ℕ). latest n (λ j. M.hears (suc u) p j) (λ j. news M u j q) (news M u p q)) same.sizes
            ∙ sym (news_step M u p q d)
      ]

  pub answers_same : (s t r v : ℕ) → v ≤ suc last → answers L s t r v ≡ answers M s t r v
  unfolding answers
  answers_same s t r zero l = refl
  answers_same s t r (suc w) l = rw (news_same w r s (omega arith))

  pub full_same : (u s t : ℕ) → u ≤ last → full L u s t ≡ full M u s t
  unfolding full
  full_same u s t l =
      all_below_ext
      L.size
      (λ r. eqb r s || answers L s t r (news L u s r))
      (λ r. eqb r s || answers M s t r (news M u s r))
      (λ r lr.
      ap
      (λ (b : Bool). eqb r s || b)
      (answers_same s t r (news L u s r) (omega (arith, news_limit L u s r))
      ∙ ap (λ (v : ℕ). answers M s t r v) (news_same u s r l)))
      ∙ ap (λ (n : ℕ). all_below n (λ r. eqb r s || answers M s t r (news M u s r))) same.sizes

  pub start_same : (u s : ℕ) → u ≤ last → start L u s ≡ start M u s
  unfolding start
  start_same zero s l = refl
  start_same (suc u) s l = rw (start_same u s (omega arith), full_same (suc u) s (start M u s) l)

  pub ends_same : (u s : ℕ) → u ≤ last → ends L u s ≡ ends M u s
  unfolding ends
  ends_same zero s l = refl
  ends_same (suc u) s l = rw (start_same u s (omega arith)) (full_same (suc u) s (start M u s) l)

  pub num_same : (u s : ℕ) → u ≤ last → num L u s ≡ num M u s
  unfolding num
  num_same zero s l = refl
  num_same (suc u) s l = rw (num_same u s (omega arith), ends_same (suc u) s l)

  num_of_same : (s v : ℕ) → v ≤ suc last → num_of L s v ≡ num_of M s v
  unfolding num_of
  num_of_same s zero l = refl
  num_of_same s (suc w) l = num_same w s (omega arith)

  pub got_same : (u r s : ℕ) → u ≤ last → got L u r s ≡ got M u r s
  unfolding got
  got_same u r s l =
      num_of_same s (news L u r s) (omega (arith, news_limit L u r s)) ∙ ap (λ (v : ℕ). num_of M s v) (news_same u r s l)

  pub got_of_same : (q s v : ℕ) → v ≤ suc last → got_of L q s v ≡ got_of M q s v
  unfolding got_of
  got_of_same q s zero l = refl
  got_of_same q s (suc w) l = got_same w q s (omega arith)

  pub relay_same : {a t b k : ℕ} → k ≤ last → Relay L a t b k → Relay M a t b k
  relay_same l = relay_keeps (λ u p j e h. sym (same.hearings u p j (omega arith)) ∙ h)

  relay_by_same : (a t b v : ℕ) → v ≤ last → RelayBy L a t b v → RelayBy M a t b v
  relay_by_same a t b v l k = record { arrival = k.arrival; by = k.by; relay = relay_same (omega (arith, k.by)) k.relay }

pub returned_same : (L M : Links) (last : ℕ) → Same L M last → (s t u : ℕ) → u ≤ last → AllReturned L s t u → AllReturned M s t u
returned_same L M last same s t u l a =
    record {
      each =
          λ r lr d.
          let k = a.each r (omega (arith, same.sizes)) d in
          let m : k.turning ≤ last = omega (arith, relay_after k.back.relay, k.back.by) in
          record {
            turning = k.turning;
            out = relay_by_same L M last same s t r k.turning m k.out;
            back = relay_by_same L M last same r k.turning s u l k.back;
          };
    }

pub ends_in-same : (L M : Links) (last : ℕ) → Same L M last → (s t u : ℕ) → u ≤ last → EndsIn L s t u → EndsIn M s t u
ends_in-same L M last same s t u l e =
    record {
      later = e.later;
      returned = returned_same L M last same s t u l e.returned;
      first =
          λ v h a.
          elim (dec_le u v) [
            | yes k ↦ k
            | no k ↦ e.first v h (returned_same M L last (same_sym L M last same) s t v (omega arith) a)
          ];
    }

pub starts-same : (L M : Links) (last : ℕ) → Same L M last → (s k t : ℕ) → t ≤ last → Starts L s k t → Starts M s k t
starts-same L M last same s k t l at_first = at_first
starts-same L M last same s k t l (after {k = j} {t = b} before e) =
    after (starts-same L M last same s j b (omega (arith, e.later)) before) (ends_in-same L M last same s b t l e)

pub ended_same : (L M : Links) (last : ℕ) → Same L M last → (s u : ℕ) → u ≤ last → Ended L s u → Ended M s u
ended_same L M last same s u l e =
    record {
      number = e.number;
      started = e.started;
      starts = starts-same L M last same s e.number e.started (omega (arith, e.ends_in.later)) e.starts;
      ends_in = ends_in-same L M last same s e.started u l e.ends_in;
    }

-- Rounds added at the end of a log leave what came before.
masks_append : (log more : List (List ℕ)) (u : ℕ) → u ≤ length log → masks_in log u ≡ masks_in (log ++ more) u
unfolding masks_in
masks_append log more zero l = refl
masks_append log more (suc u) l = sym (get_or-append log more [] u l)

pub same-append : (n : ℕ) (log more : List (List ℕ)) → Same (of_log n log) (of_log n (log ++ more)) (length log)
same-append n log more =
    record { sizes = refl; hearings = λ u p j l. ap (λ (m : List ℕ). hears_in n m p j) (masks_append log more u l) }
