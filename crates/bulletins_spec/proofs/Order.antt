-- Places by issuer and then by tag. `inserted` passes on the higher of two tags, so it loses and
-- adds no place and keeps a list ordered; and so the list of all places has each place of an issuer
-- below n once, lower issuers first and of one issuer lower tags first.
use mathlib.Core.List.Memᴰ
use mathlib.Core.List.{List, [], ◌∷◌, ◌++◌, Memᴰ}
use mathlib.Core.Logic.{◌⊎◌, inl, inr}
use mathlib.Core.Path.{◌≡◌, refl, sym, ap, ◌∙◌}
use Prim.Native.Nat.{ℕ, zero, suc, ◌+◌, ◌*◌, ◌≤◌, ◌<◌}
use native.Mathlib.Decide.{ℕ_discrete, dec_le}
use native.Mathlib.Omega.{arith}
use borrow.Author.Tests.{lt-ltb, le-ltb}
use Rattle.bulletins_spec.specs.State.{issuer_of}
use Rattle.bulletins_spec.specs.Order.{four_of, lower, higher, inserted, by_tag, in_order}

-- each place of a list stands so to each later one
pub data Pairwise (R : ℕ → ℕ → Type 0) : List ℕ → Type 0 where
  empty : Pairwise R []
  also : {s : ℕ} {l : List ℕ} → ((r : ℕ) → Memᴰ r l → R s r) → Pairwise R l → Pairwise R (s ∷ l)

module _ (R : ℕ → ℕ → Type 0) where
  pairwise_append : (l m : List ℕ) → Pairwise R l → Pairwise R m → ((s r : ℕ) → Memᴰ s l → Memᴰ r m → R s r) → Pairwise R (l ++ m)
  pairwise_append l m empty q h = q
  pairwise_append l m (also {s = s} {l = rest} first p) q h =
      also {s = s} {l = rest ++ m}
      (λ r k. elim (Memᴰ.append_cases rest k) [ inl a ↦ first r a | inr b ↦ h s r (Memᴰ.head refl) b ])
      (pairwise_append rest m p q (λ t r a b. h t r (Memᴰ.tail a) b))

  pairwise_weaken : (Q : ℕ → ℕ → Type 0) (l : List ℕ) → Pairwise R l → ((s r : ℕ) → Memᴰ s l → Memᴰ r l → R s r → Q s r) → Pairwise Q l
  pairwise_weaken Q l empty h = empty
  pairwise_weaken Q l (also {s = s} {l = rest} first p) h =
      also {s = s} {l = rest}
      (λ r k. h s r (Memᴰ.head refl) (Memᴰ.tail k) (first r k))
      (pairwise_weaken Q rest p (λ t r a b. h t r (Memᴰ.tail a) (Memᴰ.tail b)))

abbrev pub Differs : ℕ → ℕ → Type 0
Differs s r = s ≡ r → ⊥

-- ---- the four places of an issuer

pub four_from : (i s : ℕ) → Memᴰ s (four_of i) → (4 * i ≤ s) × (s < 4 * i + 4)
four_from i s m =
    elim (Memᴰ.cases_cons m) [
      | inl a ↦ (omega arith, omega arith)
      | inr m₁ ↦
          elim (Memᴰ.cases_cons m₁) [
            | inl b ↦ (omega arith, omega arith)
            | inr m₂ ↦
                elim (Memᴰ.cases_cons m₂) [
                  | inl c ↦ (omega arith, omega arith)
                  | inr m₃ ↦ (let d = Memᴰ.eq_of_singleton m₃ in (omega arith, omega arith))
                ]
          ]
    ]

pub four_has : (i s : ℕ) → 4 * i ≤ s → s < 4 * i + 4 → Memᴰ s (four_of i)
four_has i s low high =
    elim (ℕ_discrete s (4 * i)) [
      | yes a ↦ Memᴰ.head a
      | no a ↦
          elim (ℕ_discrete s (4 * i + 1)) [
            | yes b ↦ Memᴰ.tail (Memᴰ.head b)
            | no b ↦
                elim (ℕ_discrete s (4 * i + 2)) [
                  | yes c ↦ Memᴰ.tail (Memᴰ.tail (Memᴰ.head c))
                  | no c ↦
                      (let e : s ≡ 4 * i + 3 = omega arith in
                      Memᴰ.tail (Memᴰ.tail (Memᴰ.tail (Memᴰ.head e))))
                ]
          ]
    ]

four_differ : (i : ℕ) → Pairwise Differs (four_of i)
four_differ i =
    also {s = 4 * i} {l = (4 * i + 1) ∷ (4 * i + 2) ∷ (4 * i + 3) ∷ []} (λ r m e. absurd (omega (arith, above_first r m)))
    (also {s = 4 * i + 1} {l = (4 * i + 2) ∷ (4 * i + 3) ∷ []} (λ r m e. absurd (omega (arith, above_second r m)))
    (also {s = 4 * i + 2} {l = (4 * i + 3) ∷ []} (λ r m e. absurd (omega (arith, Memᴰ.eq_of_singleton m)))
    (also {s = 4 * i + 3} {l = []} (λ r m e. Memᴰ.not-nil m) empty)))
  where
    above_second : (r : ℕ) → Memᴰ r ((4 * i + 2) ∷ (4 * i + 3) ∷ []) → 4 * i + 1 < r
    above_second r m =
        elim (Memᴰ.cases_cons m) [ inl a ↦ omega arith | inr k ↦ omega (arith, Memᴰ.eq_of_singleton k) ]

    above_first : (r : ℕ) → Memᴰ r ((4 * i + 1) ∷ (4 * i + 2) ∷ (4 * i + 3) ∷ []) → 4 * i < r
    above_first r m =
        elim (Memᴰ.cases_cons m) [ inl a ↦ omega arith | inr k ↦ omega (arith, above_second r k) ]

module _ (tag : ℕ → ℕ) where
  -- the lower and the higher of two are the two
  pub two : (s r : ℕ)
      → ((lower tag s r ≡ s) × (higher tag s r ≡ r) × (tag s ≤ tag r))
      ⊎ ((lower tag s r ≡ r) × (higher tag s r ≡ s) × (tag r ≤ tag s))
  unfolding lower higher
  two s r =
      elim (dec_le (suc (tag r)) (tag s)) [
        | yes l ↦ inr (rw (lt-ltb (tag r) (tag s) l) (refl, refl, omega arith))
        | no l ↦ inl (rw (le-ltb (tag r) (tag s) (omega arith)) (refl, refl, omega arith))
      ]

  pub inserted_from : (x s : ℕ) (l : List ℕ) → Memᴰ x (inserted tag s l) → Memᴰ x (s ∷ l)
  unfolding inserted
  inserted_from x s [] m = m
  inserted_from x s (r ∷ l) m = go (two s r) (Memᴰ.cases_cons m) (λ k. inserted_from x (higher tag s r) l k)
    where
      go : ((lower tag s r ≡ s) × (higher tag s r ≡ r) × (tag s ≤ tag r)) ⊎ ((lower tag s r ≡ r) × (higher tag s r ≡ s) × (tag r ≤ tag s))
          → (x ≡ lower tag s r) ⊎ Memᴰ x (inserted tag (higher tag s r) l)
          → (Memᴰ x (inserted tag (higher tag s r) l) → Memᴰ x (higher tag s r ∷ l))
          → Memᴰ x (s ∷ r ∷ l)
      go (inl t) (inl e) rest = Memᴰ.head (e ∙ t.0)
      go (inr t) (inl e) rest = Memᴰ.tail (Memᴰ.head (e ∙ t.0))
      go (inl t) (inr k) rest =
          elim (Memᴰ.cases_cons (rest k)) [
            | inl e ↦ Memᴰ.tail (Memᴰ.head (e ∙ t.1))
            | inr j ↦ Memᴰ.tail (Memᴰ.tail j)
          ]
      go (inr t) (inr k) rest =
          elim (Memᴰ.cases_cons (rest k)) [
            | inl e ↦ Memᴰ.head (e ∙ t.1)
            | inr j ↦ Memᴰ.tail (Memᴰ.tail j)
          ]

  inserted_has : (x s : ℕ) (l : List ℕ) → (x ≡ s) ⊎ Memᴰ x l → Memᴰ x (inserted tag s l)
  unfolding inserted
  inserted_has x s [] (inl e) = Memᴰ.head e
  inserted_has x s [] (inr m) = absurd (Memᴰ.not-nil m)
  inserted_has x s (r ∷ l) h = go (two s r) h (λ k. inserted_has x (higher tag s r) l k)
    where
      go : ((lower tag s r ≡ s) × (higher tag s r ≡ r) × (tag s ≤ tag r)) ⊎ ((lower tag s r ≡ r) × (higher tag s r ≡ s) × (tag r ≤ tag s))
          → (x ≡ s) ⊎ Memᴰ x (r ∷ l)
          → ((x ≡ higher tag s r) ⊎ Memᴰ x l → Memᴰ x (inserted tag (higher tag s r) l))
          → Memᴰ x (lower tag s r ∷ inserted tag (higher tag s r) l)
      go (inl t) (inl e) rest = Memᴰ.head (e ∙ sym t.0)
      go (inr t) (inl e) rest = Memᴰ.tail (rest (inl (e ∙ sym t.1)))
      go (inl t) (inr m) rest =
          elim (Memᴰ.cases_cons m) [
            | inl e ↦ Memᴰ.tail (rest (inl (e ∙ sym t.1)))
            | inr k ↦ Memᴰ.tail (rest (inr k))
          ]
      go (inr t) (inr m) rest =
          elim (Memᴰ.cases_cons m) [
            | inl e ↦ Memᴰ.head (e ∙ sym t.0)
            | inr k ↦ Memᴰ.tail (rest (inr k))
          ]

  by_tag_from : (x : ℕ) (l : List ℕ) → Memᴰ x (by_tag tag l) → Memᴰ x l
  unfolding by_tag
  by_tag_from x [] m = m
  by_tag_from x (s ∷ l) m =
      elim (Memᴰ.cases_cons (inserted_from x s (by_tag tag l) m)) [
        | inl e ↦ Memᴰ.head e
        | inr k ↦ Memᴰ.tail (by_tag_from x l k)
      ]

  by_tag_has : (x : ℕ) (l : List ℕ) → Memᴰ x l → Memᴰ x (by_tag tag l)
  unfolding by_tag
  by_tag_has x [] m = m
  by_tag_has x (s ∷ l) m =
      inserted_has x s (by_tag tag l) (elim (Memᴰ.cases_cons m) [ inl e ↦ inl e | inr k ↦ inr (by_tag_has x l k) ])

  -- by tag, and another place
  abbrev Later : ℕ → ℕ → Type 0
  Later s r = (tag s ≤ tag r) × (s ≡ r → ⊥)

  inserted-later : (s : ℕ) (l : List ℕ) → ((r : ℕ) → Memᴰ r l → s ≡ r → ⊥) → Pairwise Later l → Pairwise Later (inserted tag s l)
  unfolding inserted
  inserted-later s l d empty = also (λ r m. absurd (Memᴰ.not-nil m)) empty
  inserted-later s l d (also {s = r} {l = rest} first p) =
      go (two s r)
      (inserted-later s rest (λ x m. d x (Memᴰ.tail m)) p)
      (inserted-later r rest (λ x m. (first x m).1) p)
    where
      go : ((lower tag s r ≡ s) × (higher tag s r ≡ r) × (tag s ≤ tag r)) ⊎ ((lower tag s r ≡ r) × (higher tag s r ≡ s) × (tag r ≤ tag s))
          → Pairwise Later (inserted tag s rest)
          → Pairwise Later (inserted tag r rest)
          → Pairwise Later (lower tag s r ∷ inserted tag (higher tag s r) rest)
      go (inl t) a b =
          rw (t.0, t.1)
          (also {s = s} {l = inserted tag r rest}
          (λ x m.
          elim (Memᴰ.cases_cons (inserted_from x r rest m)) [
            | inl e ↦ (omega (arith, t.2, ap tag e), d x (Memᴰ.head e))
            | inr k ↦ (omega (arith, t.2, (first x k).0), d x (Memᴰ.tail k))
          ])
          b)
      go (inr t) a b =
          rw (t.0, t.1)
          (also {s = r} {l = inserted tag s rest}
          (λ x m.
          elim (Memᴰ.cases_cons (inserted_from x s rest m)) [
            | inl e ↦ (omega (arith, t.2, ap tag e), λ q. d r (Memᴰ.head refl) (sym e ∙ sym q))
            | inr k ↦ first x k
          ])
          a)

  by_tag-later : (l : List ℕ) → Pairwise Differs l → Pairwise Later (by_tag tag l)
  unfolding by_tag
  by_tag-later l empty = empty
  by_tag-later l (also {s = s} {l = rest} first p) =
      inserted-later s (by_tag tag rest) (λ r m. first r (by_tag_from r rest m)) (by_tag-later rest p)

  -- ---- all places

  pub order_from : (n s : ℕ) → Memᴰ s (in_order tag n) → s < 4 * n
  unfolding in_order
  order_from zero s m = absurd (Memᴰ.not-nil m)
  order_from (suc i) s m =
      elim (Memᴰ.append_cases (in_order tag i) m) [
        | inl a ↦ omega (arith, order_from i s a)
        | inr b ↦ omega (arith, (four_from i s (by_tag_from s (four_of i) b)).1)
      ]

  pub order_has : (n s : ℕ) → s < 4 * n → Memᴰ s (in_order tag n)
  unfolding in_order
  order_has zero s l = absurd (omega arith)
  order_has (suc i) s l =
      elim (dec_le (suc s) (4 * i)) [
        | yes k ↦ Memᴰ.append_left (by_tag tag (four_of i)) (order_has i s k)
        | no k ↦ Memᴰ.append_right (in_order tag i) (by_tag_has s (four_of i) (four_has i s (omega arith) (omega arith)))
      ]

  -- a lower issuer, or the same and no higher tag, at another place
  abbrev pub Ranked : ℕ → ℕ → Type 0
  Ranked s r = (issuer_of s < issuer_of r) ⊎ ((issuer_of s ≡ issuer_of r) × (tag s ≤ tag r) × (s ≡ r → ⊥))

  pub order_ranked : (n : ℕ) → Pairwise Ranked (in_order tag n)
  unfolding in_order
  order_ranked zero = empty
  order_ranked (suc i) =
      pairwise_append Ranked (in_order tag i) (by_tag tag (four_of i)) (order_ranked i)
      (pairwise_weaken Later Ranked (by_tag tag (four_of i)) (by_tag-later (four_of i) (four_differ i))
      (λ s r a b h.
      let x = four_from i s (by_tag_from s (four_of i) a) in
      let y = four_from i r (by_tag_from r (four_of i) b) in
      inr (omega (arith, x.0, x.1, y.0, y.1), h.0, h.1)))
      (λ s r a b.
      let x = order_from i s a in
      let y = four_from i r (by_tag_from r (four_of i) b) in
      inl (omega (arith, y.0)))
