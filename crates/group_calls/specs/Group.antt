-- What the calls on a group that lies as bytes return and write. Each is the group's call of
-- document 01 on the decoded group: bytes that are no group are refused with 2 as a group outside
-- its limits is, and a lent buffer that is too short is refused last.
use Rattle.std.specs.Prelude.{ℕ, not, List, get_or}
use Rattle.bodies.specs.Refusals.{done, outside_limits, refuse_number}
use Rattle.lists.specs.Below.{tabulate}
use Rattle.group_spec.specs.declared.GroupAnswer.{GroupAnswer}
use Rattle.group_spec.specs.declared.Post.{Post}
use Rattle.group_spec.specs.declared.RoundDone.{RoundDone}
use Rattle.group_spec.specs.Calls.{group_post_call, round_call}
use Rattle.station_bytes_spec.specs.Group.{group_width, decode_group, is_group}
use Rattle.station_bytes_spec.specs.Reports.{reports_width}
use Rattle.station_calls.specs.Station.{or_else, room_refusal}

-- 2: the bytes are no group
abbrev pub group_refusal : List ℕ → ℕ
group_refusal b = refuse_number (not (is_group b)) outside_limits done

-- group fresh, by what the group's call answers: 1, 13, 17, 9
unfoldable pub group_fresh_returned : GroupAnswer → List ℕ → ℕ
group_fresh_returned made state = or_else made.refusal (room_refusal group_width state)

-- group post: 2, 1, 15, 4, 17, 3
abbrev pub group_post_answer : List ℕ → Post → GroupAnswer
group_post_answer state post = group_post_call (decode_group state) post

unfoldable pub group_post_returned : List ℕ → Post → ℕ
group_post_returned state post = or_else (group_refusal state) (group_post_answer state post).refusal

-- sixteen masks; those that are not there count as 0
unfoldable pub sixteen_masks : List ℕ → List ℕ
sixteen_masks masks = tabulate 16 (λ k. get_or masks k 0)

-- round: 2, 10, the first refused frame's 14 or 8, 9
abbrev pub round_answer : List ℕ → List ℕ → RoundDone
round_answer state masks = round_call (decode_group state) (sixteen_masks masks)

unfoldable pub round_returned : List ℕ → List ℕ → List ℕ → ℕ
round_returned state masks reports =
    or_else (group_refusal state)
    (or_else (round_answer state masks).refusal (or_else (room_refusal 16 masks) (room_refusal reports_width reports)))
