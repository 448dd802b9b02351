-- Lines and fields one behind the other, and how many bytes they are.
use mathlib.Core.Path.{◌≡◌, refl, ap, ◌∙◌}
use mathlib.Core.Bool.{Bool, true, false, cond}
use mathlib.Core.List.{List, [], ◌∷◌, ◌++◌, append_assoc}
use Prim.Native.Nat.{ℕ, zero, suc, ◌+◌, ◌*◌, ◌≤◌}
use native.Mathlib.Omega.{arith}
use lib.ListN.{length, length-append}
use Rattle.columns.proofs.Fields.{length-columns}
use Rattle.lists.specs.Below.{filter_map, tabulate}
use Rattle.lists.proofs.Laws.{length-tabulate}
use Rattle.load_spec.specs.Draws.{post_draw, mask_draw, posts}
use Rattle.load_spec.specs.Script.{fields, line_of, text_of, size_line, post_line, mask_line, post_lines, round_lines}

pub fields-append : (a b : List ℕ) → fields (a ++ b) ≡ fields a ++ fields b
unfolding fields
fields-append [] b = refl
fields-append (v ∷ a) b = rw (fields-append a b, append_assoc)

pub text_append : (a b : List (List ℕ)) → text_of (a ++ b) ≡ text_of a ++ text_of b
unfolding text_of
text_append [] b = refl
text_append (l ∷ a) b = rw (text_append a b, append_assoc)

pub length_fields : (numbers : List ℕ) → length (fields numbers) ≡ 9 * length numbers
unfolding fields
length_fields [] = refl
length_fields (v ∷ vs) = simp (length-append, length_fields vs) (omega (arith, length-columns false 9 v))

pub length_line : (letter : ℕ) (numbers : List ℕ) → length (text_of (line_of letter numbers ∷ [])) ≡ 9 * length numbers + 2
unfolding text_of line_of
length_line letter numbers = simp length-append (omega (arith, length_fields numbers))

pub length_size : (n : ℕ) → length (text_of (size_line n ∷ [])) ≡ 11
unfolding size_line
length_size n = length_line 78 (n ∷ [])

pub length_post : (p draw : ℕ) → length (text_of (post_line p draw ∷ [])) ≡ 38
unfolding post_line
length_post p draw = length_line 80 (p ∷ 2 ∷ (draw + 1) ∷ draw ∷ [])

pub length_masks : (s n : ℕ) → length (text_of (mask_line s n ∷ [])) ≡ 9 * n + 2
unfolding mask_line
length_masks s n = length_line 82 (tabulate n (mask_draw s)) ∙ rw length-tabulate

pub length_round : (s n : ℕ) → length (text_of (round_lines s n)) ≡ length (text_of (post_lines s n)) + (9 * n + 2)
unfolding round_lines
length_round s n =
    ap length (text_append (post_lines s n) (mask_line s n ∷ []))
    ∙ length-append (text_of (post_lines s n)) (text_of (mask_line s n ∷ []))
    ∙ ap (λ (k : ℕ). length (text_of (post_lines s n)) + k) (length_masks s n)

-- a draw that posts brings 38 bytes, and another none
pub length_post_if : (p draw : ℕ) (t : Bool) → length (text_of (cond t (post_line p draw ∷ []) [])) ≡ cond t 38 0
unfolding text_of
length_post_if p draw true = length_post p draw
length_post_if p draw false = refl

at_most : (t : Bool) → cond t 38 0 ≤ 38
at_most true = omega arith
at_most false = omega arith

pub post_at_most : (p draw : ℕ) (t : Bool) → length (text_of (cond t (post_line p draw ∷ []) [])) ≤ 38
post_at_most p draw t = omega (arith, length_post_if p draw t, at_most t)

pub posts_at_most : (s n : ℕ) → length (text_of (post_lines s n)) ≤ 38 * n
unfolding post_lines filter_map text_of
posts_at_most s zero = omega arith
posts_at_most s (suc n) =
    let last = cond (posts (post_draw s n)) (post_line n (post_draw s n) ∷ []) [] in
    omega (
      arith,
      ap length (text_append (post_lines s n) last),
      length-append (text_of (post_lines s n)) (text_of last),
      posts_at_most s n,
      post_at_most n (post_draw s n) (posts (post_draw s n)),
    )
