-- Document 01, "The relay listing", over the lists of calls that demand 3 speaks of: the calls that
-- a script makes, read off its lines alone; and that its listing is what the history of these calls
-- gives, call by call.
use Rattle.std.specs.Prelude.{ℕ, ◌+◌, ◌≤◌, Bool, true, if◌then◌else◌, not, ◌≡◌, List, [], ◌∷◌, ◌++◌}
use Rattle.std.specs.Prelude.{nat_lt, ◌==◌, length}
use Rattle.bodies.specs.Refusals.{malformed_line}
use Rattle.group_spec.specs.Calls.{group_post_call, round_call}
use Rattle.group_spec.specs.History.{Call, post, round, History, next, begun, history_of}
use Rattle.script.specs.declared.Command.{Command}
use Rattle.script.specs.declared.Command.TheVariants.{Size, Post, Round, Malformed}
use Rattle.script.specs.Line.{command_of, masks_of}
use Rattle.listing_lines.specs.Lines.{end_line}
use Rattle.listing_lines.specs.Reports.{round_text}
use Rattle.listing_spec.specs.declared.Session.{Session}
use Rattle.listing_spec.specs.Listing as listing
use Rattle.listing_spec.specs.Listing.{setup_of, post_of, last_round, refusal_text, refused_text, after}
use Rattle.listing_spec.specs.Listing.{Lines, rest, line, lines_of, listing_of}

-- the call of a command, before the calls of the lines after it, which are others after a round;
-- none from where the reading stops
unfoldable pub called : ℕ → List ℕ → Command → List Call → List Call → List Call
called rounds masks (Post station kind event argument) more later = post (post_of station kind event argument) ∷ more
called rounds masks Round more later = if nat_lt rounds last_round then round masks ∷ later else []
called rounds masks Malformed more later = []
called rounds masks (Size n) more later = []

-- the calls of lines after the `N` line, so many rounds done before them
unfoldable pub calls_in : ℕ → ℕ → Lines → List Call
calls_in n rounds (rest l) = []
calls_in n rounds (line l ls) =
    called rounds (masks_of n l) (command_of n l) (calls_in n rounds ls) (calls_in n (rounds + 1) ls)

-- the reading stops at a command, or somewhere after it
unfoldable pub stops_at : ℕ → Command → Bool → Bool → Bool
stops_at rounds (Post station kind event argument) more later = more
stops_at rounds Round more later = if nat_lt rounds last_round then later else true
stops_at rounds Malformed more later = true
stops_at rounds (Size n) more later = true

-- the reading stops in lines after the `N` line, or they break off in a line
unfoldable pub stops_in : ℕ → ℕ → Lines → Bool
stops_in n rounds (rest l) = not (length l == 0)
stops_in n rounds (line l ls) = stops_at rounds (command_of n l) (stops_in n rounds ls) (stops_in n (rounds + 1) ls)

-- N as an `N` line says it; 0 where there is none
abbrev pub size_said : Command → ℕ
size_said (Size n) = n
size_said (Post station kind event argument) = 0
size_said Round = 0
size_said Malformed = 0

-- of a whole script: N of its first line, 0 where that is no `N` line; the lines after it; its
-- calls; whether its reading stops
abbrev pub size_in : Lines → ℕ
size_in (rest l) = 0
size_in (line l ls) = size_said (command_of 0 l)

abbrev pub lines_after : Lines → Lines
lines_after (rest l) = rest l
lines_after (line l ls) = ls

abbrev pub size_of : List ℕ → ℕ
size_of script = size_in (lines_of script)

abbrev pub calls_of : List ℕ → List Call
calls_of script = calls_in (size_of script) 0 (lines_after (lines_of script))

abbrev pub stops : List ℕ → Bool
stops script = stops_in (size_of script) 0 (lines_after (lines_of script))

-- the session after all lines
unfoldable pub session_in : Session → Lines → Session
session_in s (rest l) = s
session_in s (line l ls) = session_in (after s l) ls

abbrev pub session_of : List ℕ → Session
session_of script = session_in listing.session_begun (lines_of script)

-- what a call prints in a group of n, after the calls of a history: a post its refusal, a round
-- what it reports
unfoldable pub call_text : ℕ → History → Call → List ℕ
call_text n H (post x) = refused_text n (length H.rounds) x.station (group_post_call H.group x).refusal
call_text n H (round masks) = round_text n (length H.rounds + 1) (round_call H.group masks).reports

unfoldable pub calls_text : ℕ → History → List Call → List ℕ
calls_text n H [] = []
calls_text n H (c ∷ cs) = call_text n H c ++ calls_text n (next H c) cs

-- The session of a script that begins with an `N` line makes exactly the script's calls, in their
-- order: its group and its number of rounds are those of their history, and its listing is what
-- these calls print, and then a refusal where the reading stops.
pub record RunsCalls (script : List ℕ) : Type 0 where
  pub group : (session_of script).group ≡ (history_of (setup_of (size_of script)) (calls_of script)).group
  pub rounds : (session_of script).rounds ≡ length (history_of (setup_of (size_of script)) (calls_of script)).rounds
  pub lists :
      listing_of script
      ≡ calls_text (size_of script) (begun (setup_of (size_of script))) (calls_of script)
      ++ (if stops script then refusal_text (session_of script).rounds 0 malformed_line else [])
      ++ end_line

-- Every script runs its calls; one that does not begin with an `N` line makes none, and its listing
-- is one refusal.
pub record ScriptsRun : Type 0 where
  pub runs_calls : (script : List ℕ) → 1 ≤ size_of script → RunsCalls script
  pub no_size :
      (script : List ℕ) → size_of script ≡ 0 →
      (calls_of script ≡ []) × (listing_of script ≡ refusal_text 0 0 malformed_line ++ end_line)
