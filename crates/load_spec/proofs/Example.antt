-- A script computed from the definitions: seed 7, two stations, two rounds. Station 0 posts before
-- the first, for its draw is 15,648, a multiple of 8.
use mathlib.Core.Path.{◌≡◌, refl}
use mathlib.Core.List.{[], ◌∷◌}
use Rattle.lists.specs.Below.{filter_map, tabulate}
use Rattle.load_spec.specs.Draws.{next_state, steps, post_draw, mask_draw, after_round}
use Rattle.load_spec.specs.Script.{line_of, size_line, post_line, mask_line, post_lines, round_lines, rounds_lines, script_lines}

pub example :
    script_lines 7 2 2
    ≡ line_of 78 (2 ∷ [])
    ∷ line_of 80 (0 ∷ 2 ∷ 15649 ∷ 15648 ∷ [])
    ∷ line_of 82 (59866 ∷ 60750 ∷ [])
    ∷ line_of 82 (56084 ∷ 3480 ∷ [])
    ∷ []
unfolding filter_map tabulate next_state steps post_draw mask_draw after_round size_line post_line mask_line post_lines round_lines rounds_lines script_lines
example = refl
