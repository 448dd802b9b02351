-- Entries picked from a list by a test, in their order: how many stand before a place, and the
-- place of each.
use Prim.Native.Nat.{ℕ, zero, suc, ◌+◌, ◌-◌, ◌≤◌, ◌<◌}
use mathlib.Core.Bool.{Bool, true, false, cond}
use mathlib.Core.List.{List, [], ◌∷◌, ◌++◌, append_assoc}
use mathlib.Core.Path.{◌≡◌, refl, sym, ap, ◌∙◌}
use native.Mathlib.Decide.{dec_le}
use native.Mathlib.Nat.{le_refl}
use native.Mathlib.Omega.{arith}
use lib.ListN.{get_or, length, take, drop, length-append}
use lib.Seq.{take-suc, take-add, take-length, split_at, get_or-append_seam}

module _ {A B : Type 0} (test : A → Bool) (f : A → B) where
  unfoldable pub picked : List A → List B
  picked [] = []
  picked (x ∷ xs) = cond (test x) (f x ∷ []) [] ++ picked xs

  pub picked-append : (xs ys : List A) → picked (xs ++ ys) ≡ picked xs ++ picked ys
  unfolding picked
  picked-append [] ys = refl
  picked-append (x ∷ xs) ys =
      ap (λ (z : List B). cond (test x) (f x ∷ []) [] ++ z) (picked-append xs ys)
      ∙ sym (append_assoc (cond (test x) (f x ∷ []) []) (picked xs) (picked ys))

  picked_first : (x : A) (xs : List A) → test x ≡ true → picked (x ∷ xs) ≡ f x ∷ picked xs
  unfolding picked
  picked_first x xs t = rw t

  picked_one : (x : A) → test x ≡ true → length (picked (x ∷ [])) ≡ 1
  unfolding picked
  picked_one x t = rw t

  picked_none : (x : A) → test x ≡ false → length (picked (x ∷ [])) ≡ 0
  unfolding picked
  picked_none x t = rw t

  nothing_picked : length (picked []) ≡ 0
  unfolding picked
  nothing_picked = refl

  picked_next :
      (d : A) (xs : List A) (k : ℕ) → k < length xs →
      length (picked (take (suc k) xs)) ≡ length (picked (take k xs)) + length (picked (get_or xs k d ∷ []))
  picked_next d xs k l =
      ap (λ (z : List A). length (picked z)) (take-suc xs k d l)
      ∙ ap length (picked-append (take k xs) (get_or xs k d ∷ []))
      ∙ length-append (picked (take k xs)) (picked (get_or xs k d ∷ []))

  picked_mono : (xs : List A) (k m : ℕ) → k ≤ m → length (picked (take k xs)) ≤ length (picked (take m xs))
  picked_mono xs k m h =
      let e : k + (m - k) ≡ m = omega arith in
      omega (
        arith,
        ap (λ (j : ℕ). length (picked (take j xs))) e,
        ap (λ (z : List A). length (picked z)) (take-add k (m - k) xs),
        ap length (picked-append (take k xs) (take (m - k) (drop k xs))),
        length-append (picked (take k xs)) (picked (take (m - k) (drop k xs))),
      )

  -- an entry that is picked is counted from the next place on
  pub picked_later :
      (d : A) (xs : List A) (k m : ℕ) → k < m → k < length xs → test (get_or xs k d) ≡ true →
      length (picked (take k xs)) < length (picked (take m xs))
  picked_later d xs k m h l t =
      omega (arith, picked_next d xs k l, picked_one (get_or xs k d) t, picked_mono xs (suc k) m h)

  -- and stands behind as many as are picked before it
  pub picked_at :
      (d : A) (e : B) (xs : List A) (k : ℕ) → k < length xs → test (get_or xs k d) ≡ true →
      (length (picked (take k xs)) < length (picked xs))
      × (get_or (picked xs) (length (picked (take k xs))) e ≡ f (get_or xs k d))
  picked_at d e xs k l t =
      let x = get_or xs k d in
      let rest = drop (suc k) xs in
      let whole : picked xs ≡ picked (take k xs) ++ f x ∷ picked rest =
      ap picked (split_at xs k d l)
      ∙ picked-append (take k xs) (x ∷ rest)
      ∙ ap (λ (z : List B). picked (take k xs) ++ z) (picked_first x rest t) in (
        omega (arith, ap length whole, length-append (picked (take k xs)) (f x ∷ picked rest)),
        ap (λ (z : List B). get_or z (length (picked (take k xs))) e) whole
            ∙ get_or-append_seam (picked (take k xs)) (f x) (picked rest) e,
      )

  -- the place of what is picked behind j others
  pub record Place (d : A) (xs : List A) (j : ℕ) : Type 0 where
    pub place : ℕ
    pub there : place < length xs
    pub tested : test (get_or xs place d) ≡ true
    pub before : length (picked (take place xs)) ≡ j

  pub picked-place : (d : A) (xs : List A) (j : ℕ) → j < length (picked xs) → Place d xs j
  picked-place d xs j l =
      go (length xs) (le_refl (length xs)) (rw (take-length xs) l)
    where
      go : (m : ℕ) → m ≤ length xs → j < length (picked (take m xs)) → Place d xs j
      go zero h b = absurd (omega (arith, nothing_picked))
      go (suc m) h b =
          elim (dec_le (suc j) (length (picked (take m xs)))) [
            | yes c ↦ go m (omega arith) c
            | no c ↦ here (test (get_or xs m d)) refl c
          ]
        where
          here : (t : Bool) → test (get_or xs m d) ≡ t → (suc j ≤ length (picked (take m xs)) → ⊥) → Place d xs j
          here true t c =
              record {
                place = m;
                there = h;
                tested = t;
                before = omega
                    (arith, c, picked_next d xs m h, picked_one (get_or xs m d) t);
              }
          here false t c = absurd (omega (arith, c, picked_next d xs m h, picked_none (get_or xs m d) t))

-- a property of each entry
module _ {A : Type 0} (P : A → Type 0) where
  unfoldable pub Each : List A → Type 0
  Each [] = Unit {0}
  Each (x ∷ xs) = P x × Each xs

  pub each_none : Each []
  unfolding Each
  each_none = tt

  pub each_append : (xs ys : List A) → Each xs → Each ys → Each (xs ++ ys)
  unfolding Each
  each_append [] ys h k = k
  each_append (x ∷ xs) ys h k = (h.0, each_append xs ys h.1 k)

  pub each_one : (t : Bool) (x : A) → (t ≡ true → P x) → Each (cond t (x ∷ []) [])
  unfolding Each
  each_one true x h = (h refl, tt)
  each_one false x h = tt

  pub each_at : (d : A) (xs : List A) (k : ℕ) → Each xs → k < length xs → P (get_or xs k d)
  unfolding Each
  each_at d [] k h l = absurd (omega arith)
  each_at d (x ∷ xs) zero h l = h.0
  each_at d (x ∷ xs) (suc k) h l = each_at d xs k h.1 (omega arith)
