-- Bytes one behind the other, both ways. To decode what was encoded, `Stands` says that bytes stand
-- in a list from a place on, and is taken apart as the encoding is put together. To encode what was
-- decoded, each part gives the span that it was read from, and spans that meet are one span. What
-- is written from a place on by two writes, the second where the first ended, is written by one.
use mathlib.Core.Path.{◌≡◌, refl, sym, ap, ap₂, ◌∙◌}
use mathlib.Core.Bool.{Bool, true, false}
use mathlib.Core.List.{List, [], ◌∷◌, ◌++◌}
use Prim.Native.Nat.{ℕ, zero, suc, ◌+◌, ◌*◌, ◌%◌, ◌<◌, ◌≤◌}
use native.Mathlib.Decide.{ℕ_discrete}
use native.Mathlib.Nat.{mul-suc, mul-zero, add-zero, zero-add}
use native.Mathlib.Numerals.{add-one, add-two, add-three}
use native.Mathlib.Omega.{arith}
use lib.Dec.{eqb, leb, ltb}
use lib.ListN.{get_or, set, take, drop, length, replicate, length-append, length-replicate, get_or-append}
use lib.Seq.{sets, drop-cons, drop-drop, take-add, get_or-append-add, ext_get_or}
use borrow.Author.Tests.{lt-ltb, ltb-true, leb-true}
use Rattle.lists.specs.Below.{set_below, tabulate}
use Rattle.lists.proofs.Laws.{set_below_ext, set_below_all, set_below_more, length-tabulate, tabulate_at}
use Rattle.frame_spec.specs.Words.{word_at, word_bytes}
use Rattle.frame_spec.proofs.Spelled.{word_back, bytes_back}
use Rattle.station_bytes_spec.specs.Bytes.{byte_at, flag_byte, as_byte, span, joined_below}

-- the bytes xs stand in b from a place on
pub record Stands (b : List ℕ) (at : ℕ) (xs : List ℕ) : Type 0 where
  pub is : (i : ℕ) → i < length xs → get_or b (at + i) 0 ≡ get_or xs i 0

pub stands_whole : (b : List ℕ) → Stands b 0 b
stands_whole b = record { is = λ i l. ap (λ (j : ℕ). get_or b j 0) (zero-add i) }

module _ (b : List ℕ) (at : ℕ) where
  pub stands_left : (xs ys : List ℕ) → Stands b at (xs ++ ys) → Stands b at xs
  stands_left xs ys h =
      record { is = λ i l. h.is i (omega (arith, length-append xs ys)) ∙ get_or-append xs ys 0 i l }

  pub stands_right : (xs ys : List ℕ) (w : ℕ) → length xs ≡ w → Stands b at (xs ++ ys) → Stands b (at + w) ys
  stands_right xs ys w long h =
      record {
        is = λ i l.
            let place : at + w + i ≡ at + (length xs + i) = omega arith in
            ap (λ (j : ℕ). get_or b j 0) place ∙ h.is (length xs + i) (omega (arith, length-append xs ys)) ∙ get_or-append-add xs ys i 0;
      }

  pub first_byte : (x : ℕ) (xs : List ℕ) → Stands b at (x ∷ xs) → byte_at b at ≡ x
  first_byte x xs h = ap (λ (j : ℕ). get_or b j 0) (sym (add-zero at)) ∙ h.is 0 (omega arith)

  pub stands_word : (word : ℕ) → word < 4_294_967_296 → Stands b at (word_bytes word) → word_at b at ≡ word
  unfolding word_at word_bytes
  stands_word word small h =
      let e₀ : get_or b at 0 ≡ word % 256 = first_byte _ _ h in
      rw (e₀, h.is 1 (omega arith), h.is 2 (omega arith), h.is 3 (omega arith)) (bytes_back word small)

-- parts of one width
pub joined_long : (n w : ℕ) (part : ℕ → List ℕ) → ((k : ℕ) → k < n → length (part k) ≡ w) → length (joined_below n part) ≡ w * n
unfolding joined_below
joined_long zero w part h = sym (mul-zero w)
joined_long (suc n) w part h =
    length-append (joined_below n part) (part n)
    ∙ ap₂ ◌+◌ (joined_long n w part (λ k l. h k (omega arith))) (h n (omega arith))
    ∙ sym (mul-suc w n)

pub joined_ext : (n : ℕ) (f g : ℕ → List ℕ) → ((k : ℕ) → k < n → f k ≡ g k) → joined_below n f ≡ joined_below n g
unfolding joined_below
joined_ext zero f g h = refl
joined_ext (suc n) f g h = ap₂ ◌++◌ (joined_ext n f g (λ k l. h k (omega arith))) (h n (omega arith))

pub stands_joined :
    (b : List ℕ) (at n w : ℕ) (part : ℕ → List ℕ) → ((k : ℕ) → k < n → length (part k) ≡ w) → Stands b at (joined_below n part) →
    (k : ℕ) → k < n → Stands b (at + w * k) (part k)
unfolding joined_below
stands_joined b at zero w part long h k l = absurd (omega arith)
stands_joined b at (suc n) w part long h k l =
    elim (ℕ_discrete k n) [
      | yes e ↦
          rw e
          (stands_right b at (joined_below n part) (part n) (w * n) (joined_long n w part (λ j m. long j (omega arith))) h)
      | no d ↦
          stands_joined b at n w part (λ j m. long j (omega arith)) (stands_left b at (joined_below n part) (part n) h) k (omega arith)
    ]

-- every entry is a byte
pub record AllBytes (b : List ℕ) : Type 0 where
  pub small : (i : ℕ) → get_or b i 0 < 256

module _ (b : List ℕ) where
  pub span_join : (at v w t : ℕ) → v + w ≡ t → span at v b ++ span (at + v) w b ≡ span at t b
  span_join at v w t e =
      ap (λ (r : List ℕ). span at v b ++ take w r) (sym (drop-drop v at b)) ∙ sym (take-add v w (drop at b)) ∙ ap (λ (j : ℕ). span at j b) e

  pub spans_joined : (at n w : ℕ) → joined_below n (λ k. span (at + w * k) w b) ≡ span at (w * n) b
  unfolding joined_below
  spans_joined at zero w = rw (mul-zero w)
  spans_joined at (suc n) w =
      ap (λ (r : List ℕ). r ++ span (at + w * n) w b) (spans_joined at n w)
      ∙ span_join at (w * n) w (w * suc n) (sym (mul-suc w n))

  span-cons : (at w : ℕ) → at < length b → span at (suc w) b ≡ get_or b at 0 ∷ span (suc at) w b
  span-cons at w l = ap (take (suc w)) (drop-cons b at 0 l)

  pub four_span :
      (at : ℕ) → at + 4 ≤ length b → byte_at b at ∷ byte_at b (at + 1) ∷ byte_at b (at + 2) ∷ byte_at b (at + 3) ∷ [] ≡ span at 4 b
  four_span at l =
      rw (add-one at, add-two at, add-three at)
      (sym
      (span-cons at 3 (omega arith)
      ∙ ap (λ (r : List ℕ). get_or b at 0 ∷ r)
      (span-cons (suc at) 2 (omega arith)
      ∙ ap (λ (r : List ℕ). get_or b (suc at) 0 ∷ r)
      (span-cons (suc (suc at)) 1 (omega arith)
      ∙ ap (λ (r : List ℕ). get_or b (suc (suc at)) 0 ∷ r) (span-cons (suc (suc (suc at))) 0 (omega arith))))))

  pub word_span : AllBytes b → (at : ℕ) → at + 4 ≤ length b → word_bytes (word_at b at) ≡ span at 4 b
  unfolding word_at
  word_span h at l =
      word_back (byte_at b at) (byte_at b (at + 1)) (byte_at b (at + 2)) (byte_at b (at + 3)) (h.small at) (h.small (at + 1)) (h.small (at + 2))
      (h.small (at + 3))
      ∙ four_span at l

  pub word_small : AllBytes b → (at : ℕ) → word_at b at < 4_294_967_296
  unfolding word_at
  word_small h at = omega (arith, h.small at, h.small (at + 1), h.small (at + 2), h.small (at + 3))

-- flags and bytes
pub length_word : (w : ℕ) → length (word_bytes w) ≡ 4
unfolding word_bytes
length_word w = refl

pub flag_read : (flag : Bool) → eqb (flag_byte flag) 1 ≡ flag
flag_read true = refl
flag_read false = refl

pub flag_small : (flag : Bool) → leb (flag_byte flag) 1 ≡ true
flag_small true = refl
flag_small false = refl

pub flag_back : (x : ℕ) → leb x 1 ≡ true → flag_byte (eqb x 1) ≡ x
flag_back zero h = refl
flag_back (suc zero) h = refl
flag_back (suc (suc x)) h = absurd (omega (arith, leb-true (suc (suc x)) 1 h))

pub byte_same : (x : ℕ) → x < 256 → as_byte x ≡ x
unfolding as_byte
byte_same x h = rw (lt-ltb x 256 h)

pub byte_small : (x : ℕ) → as_byte x < 256
unfolding as_byte
byte_small x = go (ltb x 256) refl
  where
    go : (t : Bool) → ltb x 256 ≡ t → as_byte x < 256
    go true e = rw e (omega (arith, ltb-true x 256 e))
    go false e = rw e (omega arith)

-- a number that no limit lets through stays one
pub byte_outside : (x : ℕ) → 32 < x → 32 < as_byte x
unfolding as_byte
byte_outside x h = go (ltb x 256) refl
  where
    go : (t : Bool) → ltb x 256 ≡ t → 32 < as_byte x
    go true e = rw e h
    go false e = rw e (omega arith)

-- a list by its places
module _ {A : Type 0} where
  pub tabulate_is :
      (n : ℕ) (f : ℕ → A) (m : List A) (d : A) → length m ≡ n → ((k : ℕ) → k < n → f k ≡ get_or m k d) → tabulate n f ≡ m
  tabulate_is n f m d long h =
      ext_get_or d (tabulate n f) m (length-tabulate n f ∙ sym long)
      (λ i l.
      let below : i < n = omega (arith, length-tabulate n f) in
      tabulate_at n f i d below ∙ h i below)

  -- a loop that fills all places makes the whole list
  pub filled : (n : ℕ) (f : ℕ → A) (l : List A) (d : A) → length l ≡ n → set_below n f l ≡ tabulate n f
  filled n f l d long =
      set_below_ext n f (λ k. get_or (tabulate n f) k d) l (λ k m. sym (tabulate_at n f k d m)) ∙ set_below_all n (tabulate n f) l d (length-tabulate n f) long

-- the places below k, of n, have their numbers: what a loop that reads number after number keeps
pub record NumbersRead (n : ℕ) (f : ℕ → ℕ) (k : ℕ) (l : List ℕ) : Type 0 where
  pub most : k ≤ n
  pub read : l ≡ set_below k f (replicate n 0)

module _ {n : ℕ} {f : ℕ → ℕ} where
  pub numbers_none : NumbersRead n f 0 (replicate n 0)
  unfolding set_below
  numbers_none = record { most = omega arith; read = refl }

  module _ {k : ℕ} {l : List ℕ} (h : NumbersRead n f k l) where
    pub numbers_more : {x : ℕ} → k < n → x ≡ f k → NumbersRead n f (k + 1) (set l k x)
    numbers_more {x} below e =
        record { most = omega arith; read = ap₂ (λ (m : List ℕ) (y : ℕ). set m k y) h.read e ∙ set_below_more k f (replicate n 0) }

    pub numbers_all : n ≤ k → l ≡ tabulate n f
    numbers_all all =
        let e : k ≡ n = omega (arith, h.most) in
        h.read ∙ ap (λ (j : ℕ). set_below j f (replicate n 0)) e ∙ filled n f (replicate n 0) 0 (length-replicate n 0)

-- writes one behind the other
pub writes_meet :
    (xs : List ℕ) (l ys : List ℕ) (at w : ℕ) → length xs ≡ w → sets (sets l at xs) (at + w) ys ≡ sets l at (xs ++ ys)
writes_meet [] l ys at w e = ap (λ (j : ℕ). sets l j ys) (omega arith)
writes_meet (x ∷ xs) l ys at w e =
    ap (λ (j : ℕ). sets (sets (set l at x) (suc at) xs) j ys) (omega arith) ∙ writes_meet xs (set l at x) ys (suc at) (length xs) refl
