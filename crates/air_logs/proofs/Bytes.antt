-- Bytes that are compared, and the blanks before a number.
use Rattle.std.proofs.Common.{◌≡◌, ℕ, suc, ◌+◌, ◌<◌, ◌≤◌, Bool, true, false, cond, Option, Some, None, unwrap_or, List, [], ◌∷◌, length, drop, get_or, not, refl, ◌∙◌, arith, length-drop}
use lib.Dec.{eqb, ltb}
use Rattle.std.specs.Cmp.Lexicographic.{pointwise}
use Rattle.std.specs.List.{position_or_len}
use Rattle.std.proofs.lemmas.List.Sums.{prefix_len-le-length}
use borrow.Author.Tests.{eqb-false, ltb-false}
use Rattle.columns.specs.declared.reader.Reading.TheVariants.{Blank}
use Rattle.columns.specs.Reading.{next, read_from}
use Rattle.air_logs_spec.specs.Form.{same_bytes}
use Rattle.air_logs.specs.Inner.{Unpadded}

-- what `==` says of two slices
pub same_pointwise : (a b : List ℕ) → same_bytes a b ≡ pointwise eqb a b
unfolding same_bytes
same_pointwise [] [] = refl
same_pointwise [] (y ∷ b) = refl
same_pointwise (x ∷ a) [] = refl
same_pointwise (x ∷ a) (y ∷ b) = rw (same_pointwise a b)

abbrev pub is_no_blank : ℕ → Bool
is_no_blank b = not (eqb b 32)

abbrev pub blanks : List ℕ → ℕ
blanks s = position_or_len is_no_blank s

one_less : (b : ℕ) (s : List ℕ) (k : ℕ) → drop (1 + k) (b ∷ s) ≡ drop k s
one_less b s k = let e : 1 + k ≡ suc k = omega arith in rw e

-- the blanks before the first other byte are passed over
blanks_read : (s : List ℕ) → read_from Blank s ≡ read_from Blank (drop (blanks s) s)
unfolding read_from next
blanks_read [] = refl
blanks_read (b ∷ s) = go (eqb b 32) refl (blanks_read s)
  where
    go :
        (u : Bool) → eqb b 32 ≡ u → read_from Blank s ≡ read_from Blank (drop (blanks s) s) →
        read_from Blank (b ∷ s) ≡ read_from Blank (drop (cond (not (not u)) (1 + blanks s) 0) (b ∷ s))
    go true e more = rw (e, one_less) more
    go false e more = refl

blanks_end : (s : List ℕ) → 0 < length (drop (blanks s) s) → get_or (drop (blanks s) s) 0 0 ≡ 32 → ⊥
blanks_end [] h e = absurd (omega arith)
blanks_end (b ∷ s) h e = go (eqb b 32) refl (blanks_end s) h e
  where
    go :
        (u : Bool) → eqb b 32 ≡ u → (0 < length (drop (blanks s) s) → get_or (drop (blanks s) s) 0 0 ≡ 32 → ⊥) →
        0 < length (drop (cond (not (not u)) (1 + blanks s) 0) (b ∷ s)) →
        get_or (drop (cond (not (not u)) (1 + blanks s) 0) (b ∷ s)) 0 0 ≡ 32 → ⊥
    go true e more h q = more (rw one_less at h) (rw one_less at q)
    go false e more h q = eqb-false b 32 e q

blanks_within : (s : List ℕ) → blanks s ≤ length s
blanks_within s = prefix_len-le-length _ s

-- the place of the first byte that is no blank, or the length
pub blanks_are :
    (s : List ℕ) (r : Option ℕ) (k : ℕ) → r ≡ cond (ltb (blanks s) (length s)) (Some (blanks s)) None → k ≡ unwrap_or r (length s) → k ≡ blanks s
blanks_are s r k e f = go (ltb (blanks s) (length s)) refl e
  where
    go : (u : Bool) → ltb (blanks s) (length s) ≡ u → r ≡ cond u (Some (blanks s)) None → k ≡ blanks s
    go true h e = f ∙ rw e
    go false h e = f ∙ rw e (omega (arith, ltb-false (blanks s) (length s) h, blanks_within s))

pub unpadded : (s : List ℕ) (k : ℕ) → k ≡ blanks s → Unpadded s (drop k s)
unpadded s k e =
    rw e
    (record { inside = omega (arith, length-drop (blanks s) s); read = blanks_read s; used = blanks_end s })
