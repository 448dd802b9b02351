-- One station more, as a loop over the stations has it: the state, the two draws, the post's line
-- and the mask.
use mathlib.Core.Path.{◌≡◌, refl, ap, ◌∙◌}
use mathlib.Core.Bool.{cond}
use mathlib.Core.List.{List, [], ◌∷◌, ◌++◌}
use Prim.Native.Nat.{ℕ, zero, suc, ◌+◌, ◌*◌, ◌≤◌}
use native.Mathlib.Omega.{arith}
use native.Mathlib.Numerals.{add-one}
use native.Mathlib.Decide.{ℕ_discrete}
use lib.ListN.{length, length-append}
use Rattle.lists.specs.Below.{filter_map}
use Rattle.load_spec.specs.Draws.{next_state, steps, draw_of, post_draw, mask_draw, posts}
use Rattle.load_spec.specs.Script.{text_of, post_line, post_lines}
use Rattle.load_spec.proofs.Text.{text_append}

pub steps_none : (s : ℕ) → s ≡ steps (2 * 0) s
unfolding steps
steps_none s = refl

step_once : (p s : ℕ) → steps (2 * p + 1) s ≡ next_state (steps (2 * p) s)
unfolding steps
step_once p s = rw add-one

step_twice : (p s : ℕ) → steps (2 * p + 2) s ≡ next_state (next_state (steps (2 * p) s))
unfolding steps
step_twice p s = let e : 2 * p + 2 ≡ suc (suc (2 * p)) = omega arith in rw e

-- t is the state before the draws of station p, and v the state after them: the first draw is the
-- post's, the second is the mask
pub post_drawn : (p s t d : ℕ) → t ≡ steps (2 * p) s → d ≡ draw_of (next_state t) → d ≡ post_draw s p
unfolding post_draw
post_drawn p s t d before drawn = drawn ∙ rw (before, step_once)

pub steps_more : (p s t v : ℕ) → t ≡ steps (2 * p) s → v ≡ next_state (next_state t) → v ≡ steps (2 * (p + 1)) s
steps_more p s t v before after =
    let e : 2 * (p + 1) ≡ 2 * p + 2 = omega arith in after ∙ rw (before, e, step_twice)

pub mask_drawn : (p s t v d : ℕ) → t ≡ steps (2 * p) s → v ≡ next_state (next_state t) → d ≡ draw_of v → d ≡ mask_draw s p
unfolding mask_draw
mask_drawn p s t v d before after drawn = drawn ∙ rw (after, before, step_twice)

-- the line of a station's post, where its draw posts
abbrev pub post_if : ℕ → ℕ → List ℕ
post_if p draw = text_of (cond (posts draw) (post_line p draw ∷ []) [])

pub posts_none : (s : ℕ) → text_of (post_lines s 0) ≡ []
unfolding post_lines filter_map text_of
posts_none s = refl

pub posts_more : (s p : ℕ) → text_of (post_lines s (p + 1)) ≡ text_of (post_lines s p) ++ post_if p (post_draw s p)
unfolding post_lines filter_map
posts_more s p = rw add-one (text_append (filter_map p _ _) _)

-- so many bytes of posts, and those of one station more
pub length_more :
    (s p d len k : ℕ) → d ≡ post_draw s p → len ≡ length (text_of (post_lines s p)) → k ≡ length (post_if p d) →
    len + k ≡ length (text_of (post_lines s (p + 1)))
length_more s p d len k drawn e f =
    omega (arith, ap length (posts_more s p), length-append (text_of (post_lines s p)) (post_if p (post_draw s p)), ap (λ (x : ℕ). length (post_if p x)) drawn)

-- fewer stations have no longer posts
pub length_grows : (s m n : ℕ) → m ≤ n → length (text_of (post_lines s m)) ≤ length (text_of (post_lines s n))
length_grows s m zero h = let e : m ≡ 0 = omega arith in rw e (omega arith)
length_grows s m (suc n) h =
    elim (ℕ_discrete m (suc n)) [
      | yes e ↦ rw e (omega arith)
      | no d ↦
          omega (
            arith,
            length_grows s m n (omega arith),
            ap length (posts_more s n),
            ap (λ (x : ℕ). length (text_of (post_lines s x))) (add-one n),
            length-append (text_of (post_lines s n)) (post_if n (post_draw s n)),
          )
    ]
