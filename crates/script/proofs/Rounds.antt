-- A mask; lines that no command can be: one without a letter, and one of more than sixteen masks;
-- and one mask more of those below n.
use mathlib.Core.Path.{◌≡◌, refl}
use mathlib.Core.Bool.{Bool, true, false, cond, ◌&&◌, and-false}
use mathlib.Core.List.{List, [], ◌∷◌}
use Prim.Native.Nat.{ℕ, ◌+◌, ◌*◌, ◌≤◌, ◌<◌}
use native.Mathlib.Omega.{arith}
use native.Mathlib.Numerals.{add-one}
use lib.Dec.{leb, eqb}
use lib.ListN.{length, take, set, get_or}
use lib.Seq.{take-suc-set}
use borrow.Author.Tests.{ne_eqb, leb-true, leb-false}
use Rattle.lists.specs.Below.{tabulate}
use Rattle.lists.proofs.Laws.{all_below_fails}
use Rattle.script.specs.declared.Command.TheVariants.{Post, Round, Malformed}
use Rattle.script.specs.Line.{natural_of, whole_of, is_mask, field_of, shaped, masks_inside, size_line, post_shaped, post_line, round_line, command_of, mask_at}

seventeenth : (line : List ℕ) → is_mask (field_of line 16) ≡ false
unfolding field_of is_mask
seventeenth line = refl

pub masks_over : (line : List ℕ) (n : ℕ) → 16 < n → masks_inside line n ≡ false
unfolding masks_inside
masks_over line n h = all_below_fails n (λ k. is_mask (field_of line k)) 16 h (seventeenth line)

pub masks_fail : (line : List ℕ) (n k : ℕ) → k < n → is_mask (field_of line k) ≡ false → masks_inside line n ≡ false
unfolding masks_inside
masks_fail line n k h e = all_below_fails n (λ k. is_mask (field_of line k)) k h e

pub no_letter : (n : ℕ) (line : List ℕ) → (n ≡ 0 → ⊥) → length line ≡ 0 → Malformed ≡ command_of n line
unfolding command_of round_line
no_letter n [] d e = rw (ne_eqb n 0 d, ne_eqb 0 (9 * n + 1) (λ q. absurd (omega arith)))
no_letter n (b ∷ line) d e = absurd (omega arith)

pub mask_more :
    (line : List ℕ) (n k : ℕ) (made : List ℕ) → k < length made → take k made ≡ tabulate k (mask_at line n) →
    take (k + 1) (set made k (mask_at line n k)) ≡ tabulate (k + 1) (mask_at line n)
unfolding tabulate
mask_more line n k made h e = rw (add-one, take-suc-set made k (mask_at line n k) h, e)

-- a line of more than 145 bytes is malformed
size_long : (line : List ℕ) → 145 < length line → size_line line ≡ Malformed
unfolding size_line
size_long line h = rw (ne_eqb (length line) 10 (λ e. absurd (omega arith)))

post_long : (line : List ℕ) → 145 < length line → post_line line ≡ Malformed
unfolding post_line post_shaped
post_long line h = rw (ne_eqb (length line) 37 (λ e. absurd (omega arith)))

round_over : (n : ℕ) (line : List ℕ) → 16 < n → round_line n line ≡ Malformed
unfolding round_line
round_over n line h = rw (masks_over line n h, and-false)

round_long : (n : ℕ) (line : List ℕ) → 145 < length line → round_line n line ≡ Malformed
unfolding round_line
round_long n line h = go (leb n 16) refl
  where
    go : (t : Bool) → leb n 16 ≡ t → cond (shaped line 82 n && masks_inside line n) Round Malformed ≡ Malformed
    go true e = let small = leb-true n 16 e in rw (ne_eqb (length line) (9 * n + 1) (λ q. absurd (omega arith)))
    go false e = rw (masks_over line n (leb-false n 16 e), and-false)

pub overlong : (n : ℕ) (line : List ℕ) → 145 < length line → command_of n line ≡ Malformed
unfolding command_of
overlong n line h = rw (size_long line h, post_long line h, round_long n line h) (go (eqb n 0) (eqb (get_or line 0 0) 80))
  where
    go : (a b : Bool) → cond a Malformed (cond b Malformed Malformed) ≡ Malformed
    go true b = refl
    go false true = refl
    go false false = refl

-- a round is of at most sixteen stations
post_no_round : (line : List ℕ) → post_line line ≡ Round → ⊥
unfolding post_line
post_no_round line e = go (post_shaped line) e
  where
    go : (t : Bool) → cond t (Post (natural_of (field_of line 0)) (natural_of (field_of line 1)) (natural_of (field_of line 2)) (whole_of (field_of line 3))) Malformed ≡ Round → ⊥
    go true q = let z : ◌≡◌ {A = ℕ} 0 1 = cc in omega arith
    go false q = let z : ◌≡◌ {A = ℕ} 0 1 = cc in omega arith

pub round_size : (n : ℕ) (line : List ℕ) → command_of n line ≡ Round → n ≤ 16
unfolding command_of
round_size n line e = go (leb n 16) refl (eqb (get_or line 0 0) 80) e
  where
    go : (t : Bool) → leb n 16 ≡ t → (b : Bool) → cond (eqb n 0) (size_line line) (cond b (post_line line) (round_line n line)) ≡ Round → n ≤ 16
    go true q b r = leb-true n 16 q
    go false q true r =
        let over : 16 < n = leb-false n 16 q in
        absurd (post_no_round line (rw (ne_eqb n 0 (λ z. absurd (omega arith))) at r))
    go false q false r =
        let over : 16 < n = leb-false n 16 q in
        let m : Malformed ≡ Round = rw (ne_eqb n 0 (λ z. absurd (omega arith)), round_over n line over) at r in
        let z : ◌≡◌ {A = ℕ} 0 1 = cc in omega arith
