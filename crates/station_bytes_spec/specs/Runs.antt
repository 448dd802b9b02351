-- A group that lies as bytes, call after call: what each call of a list leaves, as the C library's
-- contracts say it.
use Rattle.std.specs.Prelude.{ℕ, if◌then◌else◌, List, [], ◌∷◌, ◌==◌}
use Rattle.bodies.specs.Refusals.{done}
use Rattle.group_spec.specs.Calls.{group_post_call, round_call}
use Rattle.group_spec.specs.History.{Call, post, round}
use Rattle.station_bytes_spec.specs.Group.{encode_group, decode_group}

-- one call: the bytes of the group that it gives; as they were where it is refused
unfoldable pub next_bytes : List ℕ → Call → List ℕ
next_bytes b (post x) =
    let made = group_post_call (decode_group b) x in
    if made.refusal == done then encode_group made.group else b
next_bytes b (round masks) =
    let made = round_call (decode_group b) masks in
    if made.refusal == done then encode_group made.group else b

-- and all of a list
unfoldable pub continued_bytes : List ℕ → List Call → List ℕ
continued_bytes b [] = b
continued_bytes b (c ∷ cs) = continued_bytes (next_bytes b c) cs
