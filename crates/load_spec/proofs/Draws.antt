-- A state has 32 bits, for the step wraps; so a draw has 16.
use Prim.Native.Nat.{ℕ, suc, ◌+◌, ◌*◌, ◌≤◌}
use mathlib.Core.Path.{◌≡◌}
use native.Mathlib.Omega.{arith}
use Rattle.load_spec.specs.Draws.{next_state, steps, draw_of, post_draw, mask_draw}

draw_small : (s : ℕ) → draw_of (next_state s) ≤ 65535
unfolding next_state
draw_small s = omega arith

pub post_draw_small : (s p : ℕ) → post_draw s p ≤ 65535
unfolding post_draw steps
post_draw_small s p = let e : 2 * p + 1 ≡ suc (2 * p) = omega arith in rw e (draw_small (steps (2 * p) s))

pub mask_draw_small : (s p : ℕ) → mask_draw s p ≤ 65535
unfolding mask_draw steps
mask_draw_small s p =
    let e : 2 * p + 2 ≡ suc (suc (2 * p)) = omega arith in rw e (draw_small (next_state (steps (2 * p) s)))
