-- The four places of an issuer, ordered by six comparisons, and all places one issuer after the
-- other.
use mathlib.Core.List.{List, [], ◌∷◌, ◌++◌, Memᴰ}
use mathlib.Core.Path.{◌≡◌, refl, sym, ap, ap₂, ◌∙◌}
use Prim.Native.Nat.{ℕ, zero, suc, ◌+◌, ◌*◌, ◌-◌, ◌<◌, ◌≤◌}
use native.Mathlib.Numerals.{add-one}
use native.Mathlib.Omega.{arith}
use borrow.Author.Tests.{lt-ltb, le-ltb}
use lib.ListN.{get_or, length, length-append, length-replicate, drop, replicate, set, take, get_or-append}
use lib.Seq.{take_at, set-get_or, drop-append-add}
use borrow.Rule.Slice.PartMut.{put_mid}
use Rattle.std.proofs.lemmas.List.{drop-replicate, take-append-drop}
use Rattle.std.proofs.lemmas.Slice.{take-put_mid, drop-put_mid}
use Rattle.bulletins_spec.specs.Order.{four_of, lower, higher, inserted, by_tag, in_order}
use Rattle.bulletins_spec.proofs.Order.{order_from}
use Rattle.bulletins.specs.Order.{two_ordered}

-- of two neighbours the lower one goes first
pub two_lower : (tag : ℕ → ℕ) (l : List ℕ) (k : ℕ) → tag (get_or l (k + 1) 0) < tag (get_or l k 0)
    → set (set l k (get_or l (k + 1) 0)) (k + 1) (get_or l k 0) ≡ two_ordered tag l k
unfolding lower higher
two_lower tag l k h = rw (lt-ltb (tag (get_or l (k + 1) 0)) (tag (get_or l k 0)) h)

pub two_kept : (tag : ℕ → ℕ) (l : List ℕ) (k : ℕ) → tag (get_or l k 0) ≤ tag (get_or l (k + 1) 0) → l ≡ two_ordered tag l k
unfolding lower higher
two_kept tag l k h =
    rw (le-ltb (tag (get_or l (k + 1) 0)) (tag (get_or l k 0)) h)
    (sym (ap (λ (m : List ℕ). set m (k + 1) (get_or l (k + 1) 0)) (set-get_or l k 0) ∙ set-get_or l (k + 1) 0))

module _ (tag : ℕ → ℕ) where
  -- the last two are ordered, then each of the others is put among those behind it
  pub four_sorted : (a b c d : ℕ) (l₁ l₂ l₃ l₄ l₅ l₆ : List ℕ)
      → l₁ ≡ two_ordered tag (a ∷ b ∷ c ∷ d ∷ []) 2 → l₂ ≡ two_ordered tag l₁ 1 → l₃ ≡ two_ordered tag l₂ 2
      → l₄ ≡ two_ordered tag l₃ 0 → l₅ ≡ two_ordered tag l₄ 1 → l₆ ≡ two_ordered tag l₅ 2
      → l₆ ≡ by_tag tag (a ∷ b ∷ c ∷ d ∷ [])
  unfolding by_tag inserted
  four_sorted a b c d l₁ l₂ l₃ l₄ l₅ l₆ e₁ e₂ e₃ e₄ e₅ e₆ = rw (e₆, e₅, e₄, e₃, e₂, e₁)

  four_length : (a b c d : ℕ) → length (by_tag tag (a ∷ b ∷ c ∷ d ∷ [])) ≡ 4
  unfolding by_tag inserted
  four_length a b c d = refl

  pub order_length : (n : ℕ) → length (in_order tag n) ≡ 4 * n
  unfolding in_order
  order_length zero = refl
  order_length (suc i) =
      omega (
        arith,
        length-append (in_order tag i) (by_tag tag (four_of i)),
        order_length i,
        four_length (4 * i) (4 * i + 1) (4 * i + 2) (4 * i + 3),
      )

  pub order_front : (n : ℕ) (rest : List ℕ) → take (4 * n) (in_order tag n ++ rest) ≡ in_order tag n
  order_front n rest = take_at (in_order tag n) rest (4 * n) (order_length n)

  pub order_long : (n : ℕ) (places : List ℕ) → n ≤ 16 → places ≡ in_order tag n ++ replicate (64 - 4 * n) 0 → length places ≡ 64
  order_long n places few o =
      ap length o
      ∙ length-append (in_order tag n) (replicate (64 - 4 * n) 0)
      ∙ omega (arith, order_length n, length-replicate {A = ℕ} (64 - 4 * n) 0)

  -- the places of one issuer more
  pub four_put : (i k : ℕ) (order four : List ℕ) → i < 16 → k ≡ 4 → order ≡ in_order tag i ++ replicate (64 - 4 * i) 0 → four ≡ by_tag tag (four_of i)
      → put_mid (4 * i) k order four ≡ in_order tag (i + 1) ++ replicate (64 - 4 * (i + 1)) 0
  unfolding in_order
  four_put i k order four l w o f =
      let m : ℕ = 4 * i + 4 in
      let done : List ℕ = in_order tag i in
      let long : length order ≡ 64 = order_long i order (omega arith) o in
      let four_long : length four ≡ 4 = ap length f ∙ four_length (4 * i) (4 * i + 1) (4 * i + 2) (4 * i + 3) in
      let front : take m (put_mid (4 * i) k order four) ≡ done ++ by_tag tag (four_of i) =
      take-put_mid (4 * i) k order four m (omega arith) (omega arith)
      ∙ ap₂ ◌++◌ (ap (take (4 * i)) o ∙ order_front i (replicate (64 - 4 * i) 0)) f in
      let at : m ≡ length done + 4 = omega (arith, order_length i) in
      let left : 64 - 4 * i - 4 ≡ 64 - 4 * (i + 1) = omega arith in
      let back : drop m (put_mid (4 * i) k order four) ≡ replicate (64 - 4 * (i + 1)) 0 =
      drop-put_mid (4 * i) k order four m (omega arith) (omega arith) (omega arith)
      ∙ ap₂ drop at o
      ∙ drop-append-add done (replicate (64 - 4 * i) 0) 4
      ∙ drop-replicate 4 (64 - 4 * i) 0
      ∙ ap (λ (n : ℕ). replicate n 0) left in
      sym (take-append-drop m (put_mid (4 * i) k order four))
      ∙ ap₂ ◌++◌ front back
      ∙ ap (λ (n : ℕ). in_order tag n ++ replicate (64 - 4 * (i + 1)) 0) (sym (add-one i))

  -- the places are below 4 n, and stand in front
  pub order_below : (n t : ℕ) (rest : List ℕ) → t < 4 * n → get_or (in_order tag n ++ rest) t 0 < 4 * n
  order_below n t rest l =
      rw (get_or-append (in_order tag n) rest 0 t (omega (arith, order_length n)))
      (order_from tag n (get_or (in_order tag n) t 0) (member (in_order tag n) t (omega (arith, order_length n))))
    where
      member : (l : List ℕ) (k : ℕ) → k < length l → Memᴰ (get_or l k 0) l
      member [] k h = absurd (omega arith)
      member (x ∷ l) zero h = Memᴰ.head refl
      member (x ∷ l) (suc k) h = Memᴰ.tail (member l k (omega arith))

  -- the first 4 n of the places are those in order, and below 64
  module _ (n : ℕ) (places : List ℕ) (few : n ≤ 16) (o : places ≡ in_order tag n ++ replicate (64 - 4 * n) 0) where
    pub places_ordered : take (4 * n) places ≡ in_order tag n
    places_ordered = ap (take (4 * n)) o ∙ order_front n (replicate (64 - 4 * n) 0)

    pub places_below : (t : ℕ) → t < 4 * n → get_or places t 0 < 64
    places_below t l = omega (arith, ap (λ (x : List ℕ). get_or x t 0) o, order_below n t (replicate (64 - 4 * n) 0) l)
