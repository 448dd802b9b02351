-- Document 01, "Bodies, labels and records", and document 02, A9: what each case of the body enum
-- stands for, as the four numbers of a record.
use Rattle.std.specs.Prelude.{ℕ, Bool, if◌then◌else◌, ◌&&◌, nat_le, ◌==◌, ℤ, pos, int_le}
use Rattle.bodies.specs.declared.Body.{Body}
use Rattle.bodies.specs.declared.Body.TheVariants.{Empty, Neutral, Insert, Drop, Shift}

-- the column "Kind"
abbrev pub kind_of : Body → ℕ
kind_of Empty = 0
kind_of Neutral = 1
kind_of (Insert channel event start) = 2
kind_of (Drop channel event) = 3
kind_of (Shift channel event frames) = 4

-- the column "Event"
abbrev pub event_of : Body → ℕ
event_of Empty = 0
event_of Neutral = 0
event_of (Insert channel event start) = event
event_of (Drop channel event) = event
event_of (Shift channel event frames) = event

-- the column "Argument"
abbrev pub argument_of : Body → ℤ
argument_of Empty = pos 0
argument_of Neutral = pos 0
argument_of (Insert channel event start) = start
argument_of (Drop channel event) = pos 0
argument_of (Shift channel event frames) = frames

-- the channel of an edit (document 02, A9)
abbrev pub channel_of : Body → ℕ
channel_of Empty = 0
channel_of Neutral = 0
channel_of (Insert channel event start) = channel
channel_of (Drop channel event) = channel
channel_of (Shift channel event frames) = channel

-- kind 0, which is never taken
abbrev pub is_empty : Body → Bool
is_empty b = kind_of b == 0

-- the term "edit": kinds 2 to 4, whatever the numbers
abbrev pub is_edit : Body → Bool
is_edit b = nat_le 2 (kind_of b)

-- kind, event, argument and channel are the same
abbrev pub same_body : Body → Body → Bool
same_body a b =
    (kind_of a == kind_of b && event_of a == event_of b)
    && (int_le (argument_of a) (argument_of b) && int_le (argument_of b) (argument_of a))
    && channel_of a == channel_of b

-- the body of a kind with its event, argument and channel; numbers that the kind does not have are
-- left out, and a number that is no kind gives Empty
unfoldable pub body_of : ℕ → ℕ → ℤ → ℕ → Body
body_of kind event argument channel =
    if kind == 1 then Neutral
    else if kind == 2 then Insert channel event argument
    else if kind == 3 then Drop channel event
    else if kind == 4 then Shift channel event argument
    else Empty
