-- A round keeps the sets standing for what is known. A bit of a set that a round makes is `learnt`
-- of the links, bit by bit; so a set at its own station is full exactly where the links end a
-- broadcast, and what `close` makes of the sets is `knows` after the round.
use mathlib.Core.Bool.{Bool, true, false, cond, ◌&&◌, ◌||◌, or-false}
use mathlib.Core.List.{List}
use mathlib.Core.Path.{◌≡◌, refl, sym, ap, ap₂, ◌∙◌}
use Prim.Native.Nat.{ℕ, zero, suc, ◌+◌, ◌*◌, ◌^◌, ◌<◌, ◌≤◌}
use native.Mathlib.Decide.{ℕ_discrete}
use native.Mathlib.Numerals.{add-one}
use native.Mathlib.Omega.{arith}
use borrow.Author.Tests.{eq-eqb, ne_eqb}
use lib.Bits.{bit_or}
use lib.Dec.{eqb}
use lib.ListN.{get_or, length, replicate}
use Rattle.lists.specs.Below.{all_below}
use Rattle.lists.proofs.Laws.{all_below_ext}
use Rattle.links.specs.Log.{bit}
use Rattle.links.specs.Relay.{Links}
use Rattle.links.specs.Inner.Number.{ends}
use Rattle.links.specs.Inner.Know.{knows, either, brought, learnt, newly}
use Rattle.links.specs.Forecast.{end_count}
use Rattle.links.proofs.Log.{bit_zero}
use Rattle.links.proofs.Forecast.{end_count_zero, end_count_step, end_count_most, last_end_zero, last_end_step}
use Rattle.links.proofs.Know.{either_true, knows_zero, knows_step, ends-learnt}
use Rattle.planning.specs.Sets.{cell, united, with_receiver, learnt_set, first_set, is_full, Learnt, Closed, AllBegun}
use Rattle.planning_spec.specs.LinkLog.{rounds_of, links_of, mask_hears}
use Rattle.planning_spec.proofs.LinkLog.{log_hears}
use Rattle.planning.specs.Stands.{Stands}
use Rattle.planning.proofs.Bits.{bit_or_lem, bit-pow, is_full_bits}

pub united-bit : (k : ℕ) (heard : ℕ → Bool) (f : ℕ → ℕ) (x r : ℕ) → bit (united k heard f x) r ≡ either k heard (λ j. bit (f j) r) (bit x r)
unfolding united either
united-bit zero heard f x r = refl
united-bit (suc k) heard f x r = go (heard k) (united-bit k heard f x r)
  where
    go : (b : Bool) → bit (united k heard f x) r ≡ either k heard (λ j. bit (f j) r) (bit x r)
        → bit (cond b (bit_or (united k heard f x) (f k)) (united k heard f x)) r
        ≡ cond b (either k heard (λ j. bit (f j) r) (bit x r) || bit (f k) r) (either k heard (λ j. bit (f j) r) (bit x r))
    go true e = bit_or_lem (united k heard f x) (f k) r ∙ ap (λ (y : Bool). y || bit (f k) r) e
    go false e = e

pub either_ext : (k : ℕ) (h₁ h₂ f g : ℕ → Bool) (x y : Bool) → ((j : ℕ) → j < k → h₁ j ≡ h₂ j) → ((j : ℕ) → j < k → f j ≡ g j) → x ≡ y
    → either k h₁ f x ≡ either k h₂ g y
unfolding either
either_ext zero h₁ h₂ f g x y a b e = e
either_ext (suc k) h₁ h₂ f g x y a b e =
    rw (either_ext k h₁ h₂ f g x y (λ j l. a j (omega arith)) (λ j l. b j (omega arith)) e, a k (omega arith), b k (omega arith))

-- Where f p is x anyway, whether p is heard says nothing.
either_own : (k p : ℕ) (h g f : ℕ → Bool) (x : Bool) → ((j : ℕ) → (j ≡ p → ⊥) → h j ≡ g j) → f p ≡ x → either k h f x ≡ either k g f x
unfolding either
either_own zero p h g f x e q = refl
either_own (suc k) p h g f x e q =
    rw (either_own k p h g f x e q)
    (elim (ℕ_discrete k p) [
      | no d ↦ rw (e k d)
      | yes y ↦ both (ap f y ∙ q) (h k) ∙ sym (both (ap f y ∙ q) (g k))
    ])
  where
    absorbed : (b : Bool) → b ≡ x → (either k g f x || b) ≡ either k g f x
    absorbed true c = rw (sym c) (rw (either_true k g f))
    absorbed false c = or-false (either k g f x)

    both : f k ≡ x → (b : Bool) → cond b (either k g f x || f k) (either k g f x) ≡ either k g f x
    both c true = absorbed (f k) c
    both c false = refl

pub with_receiver-bit : (p s x r : ℕ) → bit (with_receiver p s x) r ≡ (bit x r || (eqb p r && bit x s))
unfolding with_receiver
with_receiver-bit p s x r = go (bit x s)
  where
    tail : (a : Bool) → a ≡ (a && true)
    tail true = refl
    tail false = refl

    none : (a b : Bool) → a ≡ (a || (b && false))
    none true b = refl
    none false true = refl
    none false false = refl

    go : (b : Bool) → bit (cond b (bit_or x (2 ^ p)) x) r ≡ (bit x r || (eqb p r && b))
    go true = bit_or_lem x (2 ^ p) r ∙ ap (λ (y : Bool). bit x r || y) (bit-pow p r ∙ tail (eqb p r))
    go false = none (bit x r) (eqb p r)

eqb_turned : (a b : ℕ) → eqb a b ≡ eqb b a
eqb_turned a b =
    elim (ℕ_discrete a b) [ yes e ↦ rw (eq-eqb a b e, eq-eqb b a (sym e)) | no d ↦ rw (ne_eqb a b d, ne_eqb b a (λ e. d (sym e))) ]

pub first_set-bit : (p s r : ℕ) → bit (first_set p s) r ≡ newly s p r
unfolding first_set newly
first_set-bit p s r = go (eqb p s)
  where
    go : (b : Bool) → bit (cond b (2 ^ s) 0) r ≡ (b && eqb r s)
    go true = bit-pow s r ∙ eqb_turned s r
    go false = bit_zero r

hears_other : (mask p j : ℕ) → (j ≡ p → ⊥) → bit mask j ≡ mask_hears mask p j
unfolding mask_hears
hears_other mask p j d = rw (ne_eqb p j (λ e. d (sym e)))

choose_bit : (b : Bool) (x y r : ℕ) → bit (cond b x y) r ≡ cond b (bit x r) (bit y r)
choose_bit true x y r = refl
choose_bit false x y r = refl

module _ (L : Links) (u : ℕ) (mask : ℕ → ℕ) (few : L.size ≤ 16)
    (masks : (p j : ℕ) → p < L.size → j < L.size → mask_hears (mask p) p j ≡ L.hears (suc u) p j) where
  learnt-bit : (sets ends last : List ℕ) → Stands L u sets ends last → (p s r : ℕ) → p < L.size → s < L.size → r < L.size
      → bit (learnt_set L.size mask sets p s) r ≡ learnt L u s p r
  unfolding learnt_set learnt brought
  learnt-bit sets ends last k p s r hp hs hr =
      with_receiver-bit p s (united L.size (bit (mask p)) (λ j. cell sets j s) (cell sets p s)) r
      ∙ ap₂ (λ (a b : Bool). a || (eqb p r && b)) (one r hr) (one s hs)
    where
      one : (r : ℕ) → r < L.size
          → bit (united L.size (bit (mask p)) (λ j. cell sets j s) (cell sets p s)) r
          ≡ either L.size (λ j. L.hears (suc u) p j) (λ j. knows L u s j r) (knows L u s p r)
      one r hr =
          united-bit L.size (bit (mask p)) (λ j. cell sets j s) (cell sets p s) r
          ∙ either_own L.size p (bit (mask p)) (mask_hears (mask p) p) (λ j. bit (cell sets j s) r) (bit (cell sets p s) r) (hears_other (mask p) p) refl
          ∙ either_ext L.size (mask_hears (mask p) p) (λ j. L.hears (suc u) p j) (λ j. bit (cell sets j s) r) (λ j. knows L u s j r)
          (bit (cell sets p s) r) (knows L u s p r) (λ j l. masks p j hp l) (λ j l. k.each j s r l hs hr) (k.each p s r hp hs hr)

  -- A round.
  pub stands_step : (sets mid after ends₀ ends₁ last₀ last₁ : List ℕ) → Stands L u sets ends₀ last₀ → Learnt L.size L.size mask sets mid
      → Closed L.size L.size (suc u) mid after ends₀ ends₁ last₀ last₁ → Stands L (suc u) after ends₁ last₁
  stands_step sets mid after ends₀ ends₁ last₀ last₁ k a c =
      record {
        size = c.size ∙ a.size ∙ k.size;
        size_ends = c.size_ends ∙ k.size_ends;
        size_last = c.size_last ∙ k.size_last;
        each =
            λ p s r hp hs hr.
            ap (λ (x : ℕ). bit x r) (c.sets p s (omega arith) (omega arith) hs)
            ∙ choose_bit (is_full L.size (cell mid s s)) (first_set p s) (cell mid p s) r
            ∙ ap₂ (λ (x y : Bool). cond x (bit (first_set p s) r) y) (all s hs) (bits p s r hp hs hr)
            ∙ ap (λ (x : Bool). cond (all_below L.size (λ i. learnt L u s s i)) x (learnt L u s p r)) (first_set-bit p s r)
            ∙ sym (knows_step L u s p r);
        count =
            λ s hs.
            c.count s hs
            ∙ ap₂ (λ (x : Bool) (y : ℕ). cond x (y + 1) y) (all s hs ∙ sym (ends-learnt L u s)) (k.count s hs)
            ∙ counted (ends L (suc u) s) (end_count L u s)
            ∙ sym (end_count_step L u s);
        round_of =
            λ s hs.
            c.round_of s hs
            ∙ ap₂ (λ (x : Bool) (y : ℕ). cond x (suc u) y) (all s hs ∙ sym (ends-learnt L u s)) (k.round_of s hs)
            ∙ sym (last_end_step L u s);
        count_rest = λ s h. c.count_rest s h ∙ k.count_rest s h;
        round_rest = λ s h. c.round_rest s h ∙ k.round_rest s h;
      }
    where
      bits : (p s r : ℕ) → p < L.size → s < L.size → r < L.size → bit (cell mid p s) r ≡ learnt L u s p r
      bits p s r hp hs hr = ap (λ (x : ℕ). bit x r) (a.sets p s hp (omega arith)) ∙ learnt-bit sets ends₀ last₀ k p s r hp hs hr

      all : (s : ℕ) → s < L.size → is_full L.size (cell mid s s) ≡ all_below L.size (λ i. learnt L u s s i)
      all s hs =
          is_full_bits L.size (cell mid s s)
          ∙ all_below_ext L.size (λ r. bit (cell mid s s) r) (λ i. learnt L u s s i) (λ r hr. bits s s r hs hs hr)

      counted : (b : Bool) (x : ℕ) → cond b (x + 1) x ≡ cond b (suc x) x
      counted true x = add-one x
      counted false x = refl

-- Before round 1.
pub stands_start : (L : Links) → L.size ≤ 16 → (sets ends last : List ℕ) → AllBegun L.size sets → length ends ≡ 16 → length last ≡ 16
    → ((s : ℕ) → get_or ends s 0 ≡ 0) → ((s : ℕ) → get_or last s 0 ≡ 0) → Stands L 0 sets ends last
stands_start L few sets ends last a he hl ze zl =
    record {
      size = a.size;
      size_ends = he;
      size_last = hl;
      each =
          λ p s r hp hs hr.
          ap (λ (x : ℕ). bit x r) (a.each p s (omega arith) (omega arith) hs) ∙ first_set-bit p s r ∙ sym (knows_zero L s p r);
      count = λ s hs. ze s ∙ sym (end_count_zero L s);
      round_of = λ s hs. zl s ∙ sym (last_end_zero L s);
      count_rest = λ s h. ze s;
      round_rest = λ s h. zl s;
    }

-- A count of ends fits into 16 bits.
pub stands_small : (L : Links) (u : ℕ) (sets ends last : List ℕ) → u ≤ 2048 → Stands L u sets ends last → (s : ℕ) → s < L.size → get_or ends s 0 < 65535
stands_small L u sets ends last h k s hs = omega (arith, k.count s hs, end_count_most L u s)

-- One round more of a log, as a loop's counter has it.
pub round_more : (n : ℕ) (log : List ℕ) (u : ℕ) → n ≤ 16 → u < rounds_of n log → (sets mid after ends₀ ends₁ last₀ last₁ : List ℕ)
    → Stands (links_of n log) u sets ends₀ last₀ → Learnt n n (λ p. get_or log (u * n + p) 0) sets mid
    → Closed n n (u + 1) mid after ends₀ ends₁ last₀ last₁ → Stands (links_of n log) (u + 1) after ends₁ last₁
round_more n log u few h sets mid after ends₀ ends₁ last₀ last₁ k a c =
    rw (add-one u)
    (stands_step (links_of n log) u (λ p. get_or log (u * n + p) 0) few (λ p j hp hj. log_hears n log u p j h hp hj) sets mid after ends₀ ends₁ last₀ last₁ k a
    (rw (add-one u) at c))

pub zeros_at : (k s : ℕ) → ◌≡◌ {A = ℕ} (get_or (replicate k 0) s 0) 0
zeros_at zero s = refl
zeros_at (suc k) zero = refl
zeros_at (suc k) (suc s) = zeros_at k s
