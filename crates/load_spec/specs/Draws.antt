-- Document 02, A5: the states of the generator, and what is drawn from them.
use Rattle.std.specs.Prelude.{ℕ, zero, suc, ◌+◌, ◌*◌, ◌/◌, ◌%◌, ◌^◌, Bool, ◌==◌}

-- the state after a state; it wraps at 32 bits
unfoldable pub next_state : ℕ → ℕ
next_state s = (1_664_525 * s + 1_013_904_223) % 2 ^ 32

-- the state after so many steps
unfoldable pub steps : ℕ → ℕ → ℕ
steps zero s = s
steps (suc k) s = next_state (steps k s)

-- what is drawn with a new state
abbrev pub draw_of : ℕ → ℕ
draw_of s = s / 65_536

-- From state s a round of n stations draws 2 × n times, and each draw is a step. Station by station
-- there are two draws: the first decides on the station's post, and the second is its mask.
unfoldable pub post_draw : ℕ → ℕ → ℕ
post_draw s p = draw_of (steps (2 * p + 1) s)

unfoldable pub mask_draw : ℕ → ℕ → ℕ
mask_draw s p = draw_of (steps (2 * p + 2) s)

unfoldable pub after_round : ℕ → ℕ → ℕ
after_round n s = steps (2 * n) s

-- a draw posts if it is a multiple of 8
abbrev pub posts : ℕ → Bool
posts draw = draw % 8 == 0
