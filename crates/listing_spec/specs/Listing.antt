-- Document 01, "The relay listing": the whole listing of a whole script, over the group's calls.
use Rattle.std.specs.Prelude.{ℕ, ◌+◌, true, false, if◌then◌else◌, ◌&&◌, ◌||◌, List, [], ◌∷◌, ◌++◌}
use Rattle.std.specs.Prelude.{nat_lt, ◌==◌, ℤ, length}
use Rattle.bodies.specs.declared.Body.{Body}
use Rattle.bodies.specs.declared.Body.TheVariants.{Empty}
use Rattle.bodies.specs.Body.{body_of}
use Rattle.bodies.specs.Limits.{numbers_inside}
use Rattle.bodies.specs.Refusals.{done, malformed_line}
use Rattle.station_spec.specs.declared.Setup.{Setup}
use Rattle.station_spec.specs.State.{alone_setup}
use Rattle.group_spec.specs.declared.Post as group
use Rattle.group_spec.specs.declared.GroupAnswer.{GroupAnswer}
use Rattle.group_spec.specs.declared.RoundDone.{RoundDone}
use Rattle.group_spec.specs.State.{fresh_group}
use Rattle.group_spec.specs.Calls.{group_fresh_call, group_post_call, round_call}
use Rattle.script.specs.declared.Command.{Command}
use Rattle.script.specs.declared.Command.TheVariants.{Size, Post, Round, Malformed}
use Rattle.script.specs.Line.{command_of, masks_of}
use Rattle.listing_spec.specs.declared.Session.{Session}
use Rattle.listing_lines.specs.Lines.{turned_down, line_bytes, line_length, end_line, end_length}
use Rattle.listing_lines.specs.Reports.{round_text}

-- before any line is read: no size yet, no round done
unfoldable pub session_begun : Session
session_begun = record { n = 0; rounds = 0; stopped = false; group = fresh_group alone_setup }

-- the limit that a listing names (document 02, A2): the largest, with which document 01's listings
-- are read
abbrev pub listing_limit : ℕ
listing_limit = 32

-- what an `N` line gives the fresh group: scripts run edition 0 (document 02, A9)
abbrev pub setup_of : ℕ → Setup
setup_of n = record { n = n; limit = listing_limit; edition = 0 }

-- the body that a post's numbers name, without a channel; numbers that no body has are posted as
-- Empty, which is no edit
unfoldable pub posted_body : ℕ → ℕ → ℤ → Body
posted_body kind event argument =
    if numbers_inside kind event argument then body_of kind event argument 0 else Empty

-- what a `P` line gives the group post: scripts post as desk 0 (document 02, A7)
abbrev pub post_of : ℕ → ℕ → ℕ → ℤ → group.Post
post_of station kind event argument = record { station = station; desk = 0; body = posted_body kind event argument }

-- a refusal, with the number of rounds done
abbrev pub refusal_text : ℕ → ℕ → ℕ → List ℕ
refusal_text rounds station refusal = line_bytes rounds turned_down station refusal Empty

-- what is printed where the reading stops: at a malformed line, or at a round that has no number
abbrev pub malformed_text : Session → List ℕ
malformed_text s = refusal_text s.rounds 0 malformed_line

abbrev pub halted : Session → Session
halted s = record { n = s.n; rounds = s.rounds; stopped = true; group = s.group }

-- the last round that a listing can number
abbrev pub last_round : ℕ
last_round = 999_999

-- the session after each call of the group's, by what the call returned
unfoldable pub sized_by : Session → ℕ → GroupAnswer → Session
sized_by s n made = record { n = n; rounds = s.rounds; stopped = false; group = made.group }

unfoldable pub posted_by : Session → GroupAnswer → Session
posted_by s made = record { n = s.n; rounds = s.rounds; stopped = false; group = made.group }

unfoldable pub rounded_by : Session → RoundDone → Session
rounded_by s made = record { n = s.n; rounds = s.rounds + 1; stopped = false; group = made.group }

-- what a post prints among n stations, so many rounds done: a refusal; a station that is not below
-- n is printed as 0
unfoldable pub refused_text : ℕ → ℕ → ℕ → ℕ → List ℕ
refused_text n rounds station refusal =
    if refusal == done then [] else refusal_text rounds (if nat_lt station n then station else 0) refusal

-- the session after a command, whose line has the masks of a round
unfoldable pub obeyed : Session → List ℕ → Command → Session
obeyed s masks (Size n) = sized_by s n (group_fresh_call (setup_of n))
obeyed s masks (Post station kind event argument) =
    posted_by s (group_post_call s.group (post_of station kind event argument))
obeyed s masks Round =
    if nat_lt s.rounds last_round then rounded_by s (round_call s.group masks) else halted s
obeyed s masks Malformed = halted s

-- what a command prints
unfoldable pub answered : Session → List ℕ → Command → List ℕ
answered s masks (Size n) = []
answered s masks (Post station kind event argument) =
    refused_text s.n s.rounds station (group_post_call s.group (post_of station kind event argument)).refusal
answered s masks Round =
    if nat_lt s.rounds last_round
    then round_text s.n (s.rounds + 1) (round_call s.group masks).reports
    else malformed_text s
answered s masks Malformed = malformed_text s

-- the session after a line, and what the line prints; a reading that has stopped neither changes
-- nor prints any more
unfoldable pub after : Session → List ℕ → Session
after s line = if s.stopped then s else obeyed s (masks_of s.n line) (command_of s.n line)

unfoldable pub printed : Session → List ℕ → List ℕ
printed s line = if s.stopped then [] else answered s (masks_of s.n line) (command_of s.n line)

-- the end of a script; so many bytes stand after its last line end. Nothing is printed where the
-- reading has stopped, or where an `N` line was read and none stand there; else the script has no
-- `N` line, or breaks off in a line, and that is malformed
unfoldable pub rest_text : Session → ℕ → List ℕ
rest_text s left = if s.stopped || (nat_lt 0 s.n && left == 0) then [] else malformed_text s

abbrev pub closed : Session → List ℕ → List ℕ
closed s rest = rest_text s (length rest)

-- the most bytes that the end of a script prints: a refusal, and the last line
abbrev pub closing_room : ℕ
closing_room = line_length + end_length

-- a script's lines, each without its line end, and what stands after the last line end
pub data Lines : Type 0 where
  rest : List ℕ → Lines
  line : List ℕ → Lines → Lines

-- a byte put before the first line
abbrev pub before : ℕ → Lines → Lines
before b (rest l) = rest (b ∷ l)
before b (line l ls) = line (b ∷ l) ls

-- a line end is byte 10
unfoldable pub lines_of : List ℕ → Lines
lines_of [] = rest []
lines_of (b ∷ bs) = if b == 10 then line [] (lines_of bs) else before b (lines_of bs)

-- what the lines print
unfoldable pub listed : Session → Lines → List ℕ
listed s (rest l) = closed s l
listed s (line l ls) = printed s l ++ listed (after s l) ls

-- the listing of a script
unfoldable pub listing_of : List ℕ → List ℕ
listing_of script = listed session_begun (lines_of script) ++ end_line
