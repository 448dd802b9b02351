-- Document 01, "Bodies, labels and records", and document 02, A9: the table of kinds, the channels
-- of an edition, and when a body is inside its limits.
use Rattle.std.specs.Prelude.{ℕ, Bool, if◌then◌else◌, ◌&&◌, List, [], ◌∷◌, nat_le, nat_lt, ◌==◌, ℤ}
use Rattle.std.specs.Prelude.{pos, negsuc, int_le, length, slice_index_or}
use Rattle.bodies.specs.declared.Body.{Body}
use Rattle.bodies.specs.declared.limits.Limits.{Limits}
use Rattle.bodies.specs.Body.{kind_of, event_of, argument_of, channel_of, is_edit}

-- a row of the table: the least and the most of the event, then of the argument
abbrev pub row : ℕ → ℕ → ℤ → ℤ → Limits
row e₁ e₂ a₁ a₂ =
    record { least_event = e₁; most_event = e₂; least_argument = a₁; most_argument = a₂ }

-- the table of kinds, a row for each of 0 to 4 (negsuc k is -(k + 1))
abbrev pub kinds : List Limits
kinds =
    row 0 0 (pos 0) (pos 0) ∷
    row 0 0 (pos 0) (pos 0) ∷
    row 1 99_999_999 (pos 0) (pos 2_699_999) ∷
    row 1 99_999_999 (pos 0) (pos 0) ∷
    row 1 99_999_999 (negsuc 89_999) (pos 90_000) ∷ []

-- the row of a kind; a number that is no kind has none, and what stands here for it is never asked
abbrev pub limits_of : ℕ → Limits
limits_of kind = slice_index_or kinds kind (row 0 0 (pos 0) (pos 0))

-- the event and the argument lie between a row's limits, both ends among them
abbrev pub between : Limits → ℕ → ℤ → Bool
between l event argument =
    (nat_le l.least_event event && nat_le event l.most_event) &&
    (int_le l.least_argument argument && int_le argument l.most_argument)

-- these are the numbers of a kind, inside its limits
unfoldable pub numbers_inside : ℕ → ℕ → ℤ → Bool
numbers_inside kind event argument = nat_lt kind (length kinds) && between (limits_of kind) event argument

-- what is an edition: 0 or 1
abbrev pub is_edition : ℕ → Bool
is_edition edition = nat_lt edition 2

-- the channel of a body of a kind in an edition: 1 to 200 for an edit in edition 1, else 0
unfoldable pub channel_inside : ℕ → ℕ → ℕ → Bool
channel_inside edition kind channel =
    if edition == 1 && nat_le 2 kind then nat_le 1 channel && nat_le channel 200 else channel == 0

-- the body's channel is one of its edition (else refusal 17, where it is posted)
abbrev pub on_channel : ℕ → Body → Bool
on_channel edition b = channel_inside edition (kind_of b) (channel_of b)

-- the body is inside the limits of its kind
unfoldable pub inside_kind : Body → Bool
inside_kind b = numbers_inside (kind_of b) (event_of b) (argument_of b)

-- the limits of a body in an edition: those of its kind, and of its channel
unfoldable pub body_inside : ℕ → Body → Bool
body_inside edition b = inside_kind b && on_channel edition b

-- a body that may be posted (else refusal 4): an edit inside the limits of its kind
unfoldable pub postable : Body → Bool
postable b = is_edit b && inside_kind b

-- a body that may wait: an edit inside its limits, by the test `inside` (in an edition that is
-- `body_inside edition`)
unfoldable pub may_wait : (Body → Bool) → Body → Bool
may_wait inside b = is_edit b && inside b
