-- Document 01, "A station and its calls", Limits: when a station is inside its limits. Entries from
-- N up, places past a length, and the record of a station of which none is held are not looked at.
use Rattle.std.specs.Prelude.{ℕ, Bool, cond, not, ◌&&◌, ◌||◌, leb, eqb}
use Rattle.bodies.specs.declared.Body.{Body}
use Rattle.bodies.specs.Body.{is_empty}
use Rattle.bodies.specs.Limits.{is_edition, body_inside}
use Rattle.labels.specs.Label.{is_label}
use Rattle.frame_spec.specs.declared.Record.{Record}
use Rattle.frame_spec.specs.Record.{record_limits}
use Rattle.frame_spec.specs.Frame.{valid_number}
use Rattle.lists.specs.Below.{all_below}
use Rattle.queues.specs.declared.Lane.{Lane}
use Rattle.station_spec.specs.declared.Station.{Station}
use Rattle.queues.specs.Waiting.{waiting_inside}
use Rattle.station_spec.specs.State.{label_of, acked_of, held_of, record_of, lane_at}

-- a body that a lane may hold: inside its limits, by the test `inside`, and not Empty
abbrev pub takeable : (Body → Bool) → Body → Bool
takeable inside b = not (is_empty b) && inside b

-- a lane of at most `most` bodies, each of which it may hold
unfoldable pub lane_inside : (Body → Bool) → ℕ → Lane → Bool
lane_inside inside most l =
    leb l.len most
    && (eqb l.len 0 || takeable inside l.first)
    && (leb l.len 1 || takeable inside l.second)

-- a record of station k in the table of station `own` among n: inside the record limits, but the
-- own record's count is free, and may reach what a byte holds
unfoldable pub record_inside : (Body → Bool) → ℕ → ℕ → ℕ → Record → Bool
record_inside inside n own k r = eqb r.station k && record_limits inside n (eqb k own) r

-- what station `own` among n has of station k: its label, its record where one is held, and its
-- lane
abbrev pub entry_inside : (Body → Bool) → ℕ → ℕ → ℕ → ℕ → Bool → Record → Lane → Bool
entry_inside inside n own k label held r lane =
    is_label label && (not held || record_inside inside n own k r) && lane_inside inside (cond (eqb k own) 1 2) lane

-- the bodies that a station allows: those inside their limits in its edition. No other limit of a
-- station says how it judges a body.
unfoldable pub allowed : Station → Body → Bool
allowed s = body_inside s.edition

-- what a station has of station k
unfoldable pub place_inside : Station → ℕ → Bool
place_inside s k = entry_inside (allowed s) s.n s.own k (label_of s k) (held_of s k) (record_of s k) (lane_at s k)

-- "Limits"
unfoldable pub station_inside : Station → Bool
station_inside s =
    valid_number s.n s.own
    && is_edition s.edition
    && acked_of s s.own
    && held_of s s.own
    && allowed s s.body
    && waiting_inside (allowed s) s.waiting
    && all_below s.n (place_inside s)
