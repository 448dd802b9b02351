-- Lines and their text: a line without a line end in it, with one behind it, is found again in
-- front of whatever follows, and the lines of a text put behind each other are that text. A number
-- in its columns has no line end.
use mathlib.Core.Path.{◌≡◌, refl, ap, ◌∙◌}
use mathlib.Core.Bool.{Bool, true, false, cond, not, ◌&&◌}
use mathlib.Core.List.{List, [], ◌∷◌, ◌++◌}
use Prim.Native.Nat.{ℕ, zero, suc, ◌+◌, ◌/◌, ◌%◌}
use native.Mathlib.Omega.{arith}
use lib.Dec.{eqb, ltb}
use lib.ListN.{replicate}
use borrow.Author.Tests.{eqb-true, ne_eqb, not-true}
use Rattle.lists.proofs.Laws.{and_both, and_left, and_right}
use Rattle.columns.specs.Writing.{columns, lead}
use Rattle.listing_spec.specs.Listing.{Lines, rest, line, before, lines_of}

-- no byte is a line end
unfoldable pub no_end : List ℕ → Bool
no_end [] = true
no_end (b ∷ bs) = not (eqb b 10) && no_end bs

pub no_end-append : (a b : List ℕ) → no_end a ≡ true → no_end b ≡ true → no_end (a ++ b) ≡ true
unfolding no_end
no_end-append [] b p q = q
no_end-append (x ∷ a) b p q =
    and_both (and_left (not (eqb x 10)) (no_end a) p) (no_end-append a b (and_right (not (eqb x 10)) (no_end a) p) q)

blanks : (w : ℕ) → no_end (replicate w 32) ≡ true
unfolding no_end
blanks zero = refl
blanks (suc w) = blanks w

no_end-lead : (minus : Bool) (w : ℕ) → no_end (lead minus w) ≡ true
unfolding lead no_end
no_end-lead false w = blanks w
no_end-lead true zero = refl
no_end-lead true (suc w) = no_end-append (replicate w 32) (45 ∷ []) (blanks w) refl

digit : (v : ℕ) → no_end ((48 + v % 10) ∷ []) ≡ true
unfolding no_end
digit v = rw (ne_eqb (48 + v % 10) 10 (λ e. absurd (omega arith)))

pub no_end-columns : (minus : Bool) (w v : ℕ) → no_end (columns minus w v) ≡ true
unfolding columns
no_end-columns minus zero v = unfold no_end in refl
no_end-columns minus (suc w) v =
    no_end-append (cond (ltb v 10) (lead minus w) (columns minus w (v / 10))) ((48 + v % 10) ∷ [])
    (go (ltb v 10) (no_end-columns minus w (v / 10))) (digit v)
  where
    go : (t : Bool) → no_end (columns minus w (v / 10)) ≡ true → no_end (cond t (lead minus w) (columns minus w (v / 10))) ≡ true
    go true e = no_end-lead minus w
    go false e = e

-- a line in front of others
pub line_first : (l bs : List ℕ) → no_end l ≡ true → lines_of (l ++ (10 ∷ bs)) ≡ line l (lines_of bs)
unfolding lines_of no_end
line_first [] bs h = refl
line_first (b ∷ l) bs h =
    let none : eqb b 10 ≡ false = negated (eqb b 10) (and_left (not (eqb b 10)) (no_end l) h) in
    let more = line_first l bs (and_right (not (eqb b 10)) (no_end l) h) in
    rw (none, more)
  where
    negated : (t : Bool) → not t ≡ true → t ≡ false
    negated t e = not-true t e

-- the text of lines, and what stands behind the last line end
unfoldable pub lines_text : Lines → List ℕ
lines_text (rest l) = l
lines_text (line l ls) = l ++ (10 ∷ lines_text ls)

before_text : (b : ℕ) (ls : Lines) → lines_text (before b ls) ≡ b ∷ lines_text ls
unfolding lines_text
before_text b (rest l) = refl
before_text b (line l ls) = refl

pub lines_text_lem : (bytes : List ℕ) → lines_text (lines_of bytes) ≡ bytes
unfolding lines_of
lines_text_lem [] = unfold lines_text in refl
lines_text_lem (b ∷ bs) = go (eqb b 10) refl (lines_text_lem bs)
  where
    go :
        (t : Bool) → eqb b 10 ≡ t → lines_text (lines_of bs) ≡ bs →
        lines_text (cond t (line [] (lines_of bs)) (before b (lines_of bs))) ≡ b ∷ bs
    go true e more = unfold lines_text in (rw (more, eqb-true b 10 e))
    go false e more = before_text b (lines_of bs) ∙ ap (λ (l : List ℕ). b ∷ l) more
