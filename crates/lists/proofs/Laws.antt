-- Laws of lists read by place: what holds at every place below n, what a filled list holds below n
-- and from n up, and what is gathered. Each is an induction on n, whose last place is looked at
-- first.
use mathlib.Core.Path.{◌≡◌, refl, sym, ap, ap₂, ◌∙◌}
use mathlib.Core.Bool.{Bool, true, false, cond, not, ◌&&◌, ◌||◌, or-false}
use mathlib.Core.List.{List, [], ◌∷◌, ◌++◌, map, map-append}
use Prim.Native.Nat.{ℕ, zero, suc, ◌+◌, ◌≤◌, ◌<◌}
use native.Mathlib.Numerals.{add-one}
use native.Mathlib.Decide.{ℕ_discrete}
use native.Mathlib.Omega.{arith}
use lib.ListN.{get_or, set, length, length-set, length-append, length-map, get_or-append, get_or-map}
use lib.Seq.{get_or-set_same, get_or-set_other, get_or_at, ext_get_or}
use Rattle.lists.specs.Below.{all_below, any_below, set_below, filter_map, tabulate}

pub and_both : {a b : Bool} → a ≡ true → b ≡ true → (a && b) ≡ true
and_both p q = rw (p, q)

pub and_left : (a b : Bool) → (a && b) ≡ true → a ≡ true
and_left true b h = refl
and_left false b h = h

pub and_right : (a b : Bool) → (a && b) ≡ true → b ≡ true
and_right true b h = h
and_right false b h = let z : false ≡ true = h in absurd (mathlib.Core.Bool.false≢true z)

pub both : (a b : Bool) → (a && b) ≡ true → (a ≡ true) × (b ≡ true)
both a b h = (and_left a b h, and_right a b h)

pub or_left : (a b : Bool) → (a || b) ≡ false → a ≡ false
or_left true b h = h
or_left false b h = refl

pub or_right : (a b : Bool) → (a || b) ≡ false → b ≡ false
or_right true b h = let z : true ≡ false = h in absurd (mathlib.Core.Bool.true≢false z)
or_right false b h = h

pub cond-not : {A : Type 0} (b : Bool) (x y : A) → cond (not b) x y ≡ cond b y x
cond-not true x y = refl
cond-not false x y = refl

pub all_below_at : (n : ℕ) (test : ℕ → Bool) → all_below n test ≡ true → (k : ℕ) → k < n → test k ≡ true
unfolding all_below
all_below_at zero test h k l = absurd (omega arith)
all_below_at (suc n) test h k l =
    elim (ℕ_discrete k n) [
      | yes e ↦ rw e (and_right (all_below n test) (test n) h)
      | no d ↦ all_below_at n test (and_left (all_below n test) (test n) h) k (omega arith)
    ]

pub all_below_make : (n : ℕ) (test : ℕ → Bool) → ((k : ℕ) → k < n → test k ≡ true) → all_below n test ≡ true
unfolding all_below
all_below_make zero test h = refl
all_below_make (suc n) test h = and_both (all_below_make n test (λ k l. h k (omega arith))) (h n (omega arith))

-- one place more, as a loop's counter has it
pub all_below_more : (n : ℕ) (test : ℕ → Bool) → all_below n test ≡ true → test n ≡ true → all_below (n + 1) test ≡ true
unfolding all_below
all_below_more n test h e = rw add-one (and_both h e)

-- two tests that agree below n
pub all_below_ext : (n : ℕ) (f g : ℕ → Bool) → ((k : ℕ) → k < n → f k ≡ g k) → all_below n f ≡ all_below n g
unfolding all_below
all_below_ext zero f g h = refl
all_below_ext (suc n) f g h = rw (all_below_ext n f g (λ k l. h k (omega arith)), h n (omega arith))

-- one place at which the test fails
pub all_below_fails : (n : ℕ) (test : ℕ → Bool) (k : ℕ) → k < n → test k ≡ false → all_below n test ≡ false
all_below_fails n test k l e = go (all_below n test) refl
  where
    go : (b : Bool) → all_below n test ≡ b → b ≡ false
    go true h = sym (all_below_at n test h k l) ∙ e
    go false h = refl

-- a test that does not hold at every place fails at some place
pub all_below_not : (n : ℕ) (test : ℕ → Bool) → all_below n test ≡ false → (k : ℕ) × (k < n) × (test k ≡ false)
unfolding all_below
all_below_not zero test h = let z : true ≡ false = h in absurd (mathlib.Core.Bool.true≢false z)
all_below_not (suc n) test h = go (all_below n test) refl (λ e. all_below_not n test e) h
  where
    go : (b : Bool)
        → all_below n test ≡ b
        → (all_below n test ≡ false → (k : ℕ) × (k < n) × (test k ≡ false))
        → (b && test n) ≡ false
        → (k : ℕ) × (k < suc n) × (test k ≡ false)
    go true e before h = (n, omega arith, h)
    go false e before h = let r = before e in (r.0, omega (arith, r.1), r.2)

pub any_below_none : (n : ℕ) (test : ℕ → Bool) → ((k : ℕ) → k < n → test k ≡ false) → any_below n test ≡ false
unfolding any_below
any_below_none zero test h = refl
any_below_none (suc n) test h = rw (any_below_none n test (λ k l. h k (omega arith)), h n (omega arith))

pub any_below_at : (n : ℕ) (test : ℕ → Bool) → any_below n test ≡ false → (k : ℕ) → k < n → test k ≡ false
unfolding any_below
any_below_at zero test h k l = absurd (omega arith)
any_below_at (suc n) test h k l =
    elim (ℕ_discrete k n) [
      | yes e ↦ rw e (or_right (any_below n test) (test n) h)
      | no d ↦ any_below_at n test (or_left (any_below n test) (test n) h) k (omega arith)
    ]

pub any_below_hit : (n : ℕ) (test : ℕ → Bool) (k : ℕ) → k < n → test k ≡ true → any_below n test ≡ true
any_below_hit n test k l e = go (any_below n test) refl
  where
    go : (b : Bool) → any_below n test ≡ b → b ≡ true
    go true h = refl
    go false h = sym (any_below_at n test h k l) ∙ e

pub any_below_ext : (n : ℕ) (f g : ℕ → Bool) → ((k : ℕ) → k < n → f k ≡ g k) → any_below n f ≡ any_below n g
unfolding any_below
any_below_ext zero f g h = refl
any_below_ext (suc n) f g h = rw (any_below_ext n f g (λ k l. h k (omega arith)), h n (omega arith))

or_swap : (a b c : Bool) → ((a || b) || c) ≡ ((a || c) || b)
or_swap true b c = refl
or_swap false true true = refl
or_swap false true false = refl
or_swap false false true = refl
or_swap false false false = refl

-- two tests that differ at one place, where the first fails
pub any_below_add :
    (n : ℕ) (f g : ℕ → Bool) (k : ℕ) → k < n → f k ≡ false → ((i : ℕ) → i < n → (i ≡ k → ⊥) → g i ≡ f i) →
    any_below n g ≡ (any_below n f || g k)
unfolding any_below
any_below_add zero f g k l e h = absurd (omega arith)
any_below_add (suc n) f g k l e h =
    elim (ℕ_discrete n k) [
      | yes i ↦
          (let x : any_below n g ≡ any_below n f = any_below_ext n g f (λ j b. h j (omega arith) (λ q. absurd (omega arith))) in
          let y : f n ≡ false = ap f i ∙ e in
          let z : g n ≡ g k = ap g i in
          rw (x, y, z) (ap (λ (b : Bool). b || g k) (sym (or-false (any_below n f)))))
      | no d ↦
          rw (any_below_add n f g k (omega arith) e (λ j b q. h j (omega arith) q), h n (omega arith) d)
          (or_swap (any_below n f) (g k) (f n))
    ]

module _ {A : Type 0} where
  pub length-set_below : (n : ℕ) (f : ℕ → A) (l : List A) → length (set_below n f l) ≡ length l
  unfolding set_below
  length-set_below zero f l = refl
  length-set_below (suc n) f l = simp length-set (length-set_below n f l)

  -- one place more, as a loop's counter has it
  pub set_below_more : (n : ℕ) (f : ℕ → A) (l : List A) → set (set_below n f l) n (f n) ≡ set_below (n + 1) f l
  unfolding set_below
  set_below_more n f l = rw add-one

  -- a place below n
  pub set_below_inside : (n : ℕ) (f : ℕ → A) (l : List A) (k : ℕ) (d : A) → k < n → k < length l → get_or (set_below n f l) k d ≡ f k
  unfolding set_below
  set_below_inside zero f l k d h b = absurd (omega arith)
  set_below_inside (suc n) f l k d h b =
      elim (ℕ_discrete k n) [
        | yes e ↦ rw e (get_or-set_same (set_below n f l) n (f n) d (rw length-set_below (rw e at b)))
        | no ne ↦ get_or-set_other (set_below n f l) n k (f n) d ne ∙ set_below_inside n f l k d (omega arith) b
      ]

  -- a place from n up
  pub set_below_above : (n : ℕ) (f : ℕ → A) (l : List A) (k : ℕ) (d : A) → n ≤ k → get_or (set_below n f l) k d ≡ get_or l k d
  unfolding set_below
  set_below_above zero f l k d h = refl
  set_below_above (suc n) f l k d h =
      get_or-set_other (set_below n f l) n k (f n) d (λ e. absurd (omega arith)) ∙ set_below_above n f l k d (omega arith)

  -- two functions that agree below n
  pub set_below_ext : (n : ℕ) (f g : ℕ → A) (l : List A) → ((k : ℕ) → k < n → f k ≡ g k) → set_below n f l ≡ set_below n g l
  unfolding set_below
  set_below_ext zero f g l h = refl
  set_below_ext (suc n) f g l h = rw (set_below_ext n f g l (λ k b. h k (omega arith)), h n (omega arith))

  -- every place filled with the entries of a list of the same length
  pub set_below_all : (n : ℕ) (m l : List A) (d : A) → length m ≡ n → length l ≡ n → set_below n (λ k. get_or m k d) l ≡ m
  set_below_all n m l d e₁ e₂ =
      ext_get_or d (set_below n (λ k. get_or m k d) l) m (length-set_below n (λ k. get_or m k d) l ∙ e₂ ∙ sym e₁)
      (λ i h.
      let b : i < length l = omega (arith, length-set_below n (λ k. get_or m k d) l) in
      set_below_inside n (λ k. get_or m k d) l i d (omega arith) b)

  pub filter_map_ext :
      (n : ℕ) (t₁ t₂ : ℕ → Bool) (f g : ℕ → A) → ((k : ℕ) → k < n → t₁ k ≡ t₂ k) → ((k : ℕ) → k < n → f k ≡ g k) →
      filter_map n t₁ f ≡ filter_map n t₂ g
  unfolding filter_map
  filter_map_ext zero t₁ t₂ f g h e = refl
  filter_map_ext (suc n) t₁ t₂ f g h e =
      rw (filter_map_ext n t₁ t₂ f g (λ k b. h k (omega arith)) (λ k b. e k (omega arith)), h n (omega arith), e n (omega arith))

  pub length-tabulate : (n : ℕ) (f : ℕ → A) → length (tabulate n f) ≡ n
  unfolding tabulate
  length-tabulate zero f = refl
  length-tabulate (suc n) f = simp (length-append, length-tabulate n f) (omega arith)

  pub tabulate_at : (n : ℕ) (f : ℕ → A) (k : ℕ) (d : A) → k < n → get_or (tabulate n f) k d ≡ f k
  unfolding tabulate
  tabulate_at zero f k d h = absurd (omega arith)
  tabulate_at (suc n) f k d h =
      elim (ℕ_discrete k n) [
        | yes e ↦ rw e (get_or_at (tabulate n f) (f n) [] d n (length-tabulate n f))
        | no ne ↦ get_or-append (tabulate n f) (f n ∷ []) d k (rw length-tabulate (omega arith)) ∙ tabulate_at n f k d (omega arith)
      ]

  pub tabulate_ext : (n : ℕ) (f g : ℕ → A) → ((k : ℕ) → k < n → f k ≡ g k) → tabulate n f ≡ tabulate n g
  unfolding tabulate
  tabulate_ext zero f g h = refl
  tabulate_ext (suc n) f g h = rw (tabulate_ext n f g (λ k b. h k (omega arith)), h n (omega arith))

-- a list, and what a function makes of it, place by place
pub tabulate-map :
    {A B : Type 0} (f : A → B) (l : List A) (d : A) → tabulate (length l) (λ k. f (get_or l k d)) ≡ map f l
tabulate-map f l d =
    ext_get_or (f d) (tabulate (length l) (λ k. f (get_or l k d))) (map f l)
    (length-tabulate (length l) (λ k. f (get_or l k d)) ∙ sym (length-map l f))
    (λ i h.
    tabulate_at (length l) (λ k. f (get_or l k d)) i (f d) (omega (arith, length-tabulate (length l) (λ k. f (get_or l k d))))
    ∙ sym (get_or-map f l i d))

-- what a function makes of what is gathered
pub map_filter_map :
    {A B : Type 0} (g : A → B) (n : ℕ) (test : ℕ → Bool) (f : ℕ → A) → map g (filter_map n test f) ≡ filter_map n test (λ k. g (f k))
unfolding filter_map
map_filter_map g zero test f = refl
map_filter_map {A} {B} g (suc n) test f =
    map-append g (filter_map n test f) (cond (test n) (f n ∷ []) []) ∙ ap₂ ◌++◌ (map_filter_map g n test f) (last (test n))
  where
    last : (b : Bool) → map g (cond b (f n ∷ []) []) ≡ cond b (g (f n) ∷ []) []
    last true = refl
    last false = refl
