-- Sixteen bytes are the same where their two numbers of eight bytes are: a number of eight bytes is
-- two words, a word four bytes, and each tells its parts.
use Prim.Native.Nat.{ℕ, zero, suc, ◌+◌, ◌-◌, ◌*◌, ◌<◌}
use mathlib.Core.Bool.{Bool, true, false, ◌&&◌, false≢true}
use mathlib.Core.List.{List}
use mathlib.Core.Path.{◌≡◌, refl, sym, ap, ◌∙◌}
use native.Mathlib.Decide.{dec_lt}
use native.Mathlib.Nat.{add-zero, zero-add}
use native.Mathlib.Omega.{arith}
use lib.Dec.{eqb}
use lib.ListN.{get_or, length}
use lib.Seq.{ext_get_or}
use borrow.Author.Tests.{eqb-true, eq-eqb, ne_eqb}
use Rattle.lists.proofs.Laws.{both, and_both}
use Rattle.frame_spec.specs.Words.{word_at}
use Rattle.hearing_spec.specs.Heeding.{same_bytes}
use Rattle.hearing_spec.proofs.EqualRecords.{same_make, same_open}

-- the number of eight bytes
abbrev pub long_at : List ℕ → ℕ → ℕ
long_at p at = word_at p at + 4_294_967_296 * word_at p (at + 4)

word_small : (p : List ℕ) → ((i : ℕ) → get_or p i 0 < 256) → (at : ℕ) → word_at p at < 4_294_967_296
unfolding word_at
word_small p small at = omega (arith, small at, small (at + 1), small (at + 2), small (at + 3))

module _ (p q : List ℕ) (small_p : (i : ℕ) → get_or p i 0 < 256) (small_q : (i : ℕ) → get_or q i 0 < 256) where
  -- a word tells its bytes
  word_bytes : (at : ℕ) → word_at p at ≡ word_at q at → (i : ℕ) → i < 4 → get_or p (at + i) 0 ≡ get_or q (at + i) 0
  unfolding word_at
  word_bytes at e i l =
      go i l (small_p at) (small_q at) (small_p (at + 1)) (small_q (at + 1)) (small_p (at + 2)) (small_q (at + 2)) (small_p (at + 3)) (small_q (at + 3))
    where
      go :
          (i : ℕ) → i < 4 → get_or p at 0 < 256 → get_or q at 0 < 256 → get_or p (at + 1) 0 < 256 → get_or q (at + 1) 0 < 256 →
          get_or p (at + 2) 0 < 256 → get_or q (at + 2) 0 < 256 → get_or p (at + 3) 0 < 256 → get_or q (at + 3) 0 < 256 →
          get_or p (at + i) 0 ≡ get_or q (at + i) 0
      go zero l a b c d f g h k = rw (add-zero at) (omega (arith, e))
      go (suc zero) l a b c d f g h k = omega (arith, e)
      go (suc (suc zero)) l a b c d f g h k = omega (arith, e)
      go (suc (suc (suc zero))) l a b c d f g h k = omega (arith, e)
      go (suc (suc (suc (suc i)))) l a b c d f g h k = absurd (omega (arith, l))

  -- a number of eight bytes tells its bytes
  long_bytes : (at : ℕ) → long_at p at ≡ long_at q at → (i : ℕ) → i < 8 → get_or p (at + i) 0 ≡ get_or q (at + i) 0
  long_bytes at e i l =
      let low : word_at p at ≡ word_at q at = omega (arith, e, word_small p small_p at, word_small q small_q at) in
      let high : word_at p (at + 4) ≡ word_at q (at + 4) = omega (arith, e, word_small p small_p at, word_small q small_q at) in
      elim (dec_lt i 4) [
        | yes b ↦ word_bytes at low i b
        | no d ↦
            (let z : at + 4 + (i - 4) ≡ at + i = omega arith in
            rw z at (word_bytes (at + 4) high (i - 4) (omega arith)))
      ]

  module _ (long_p : length p ≡ 16) (long_q : length q ≡ 16) where
    same_sound : long_at p 0 ≡ long_at q 0 → long_at p 8 ≡ long_at q 8 → p ≡ q
    same_sound e f = ext_get_or 0 p q (long_p ∙ sym long_q) each
      where
        each : (i : ℕ) → i < length p → get_or p i 0 ≡ get_or q i 0
        each i l =
            elim (dec_lt i 8) [
              | yes b ↦ rw zero-add at (long_bytes 0 e i b)
              | no d ↦
                  (let z : 8 + (i - 8) ≡ i = omega arith in
                  rw z at (long_bytes 8 f (i - 8) (omega arith)))
            ]

    pub same_is : (eqb (long_at p 0) (long_at q 0) && eqb (long_at p 8) (long_at q 8)) ≡ same_bytes p q
    same_is = go (eqb (long_at p 0) (long_at q 0) && eqb (long_at p 8) (long_at q 8)) (same_bytes p q) refl refl
      where
        go : (t u : Bool) → (eqb (long_at p 0) (long_at q 0) && eqb (long_at p 8) (long_at q 8)) ≡ t → same_bytes p q ≡ u → t ≡ u
        go true u e f = let b = both _ _ e in sym (same_make p q (same_sound (eqb-true _ _ b.0) (eqb-true _ _ b.1))) ∙ f
        go false true e f =
            let equal = same_open p q long_p long_q f in
            absurd
            (false≢true
            (sym e ∙ and_both (eq-eqb _ _ (ap (λ (l : List ℕ). long_at l 0) equal)) (eq-eqb _ _ (ap (λ (l : List ℕ). long_at l 8) equal))))
        go false false e f = refl

    -- the two numbers, one after the other
    pub same_then : long_at p 0 ≡ long_at q 0 → eqb (long_at p 8) (long_at q 8) ≡ same_bytes p q
    same_then e = rw (eq-eqb (long_at p 0) (long_at q 0) e) at same_is

    pub same_else : (long_at p 0 ≡ long_at q 0 → ⊥) → eqb (long_at p 0) (long_at q 0) ≡ same_bytes p q
    same_else d = ne_eqb (long_at p 0) (long_at q 0) d ∙ (rw (ne_eqb (long_at p 0) (long_at q 0) d) at same_is)
