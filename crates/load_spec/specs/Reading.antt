-- Document 02, A5: the listing program finds no line of a generated script malformed; full queues
-- may still refuse posts.
use Rattle.std.specs.Prelude.{ℕ, ◌≤◌, ◌≡◌, false, List, [], ◌⊎◌}
use Rattle.bodies.specs.Refusals.{done, queue_full}
use Rattle.group_spec.specs.Calls.{group_post_call}
use Rattle.script.specs.declared.Command.{Command}
use Rattle.script.specs.declared.Command.TheVariants.{Size, Post, Round, Malformed}
use Rattle.script.specs.Line.{command_of}
use Rattle.listing_spec.specs.declared.Session.{Session}
use Rattle.listing_spec.specs.Listing.{Lines, rest, line, session_begun, post_of, after, closed, lines_of, last_round}
use Rattle.load_spec.specs.Script.{script_of}

-- what the group returns for a command that is a post
abbrev pub post_answer : Session → Command → ℕ
post_answer s (Size n) = done
post_answer s (Post station kind event argument) =
    (group_post_call s.group (post_of station kind event argument)).refusal
post_answer s Round = done
post_answer s Malformed = done

-- a line is read by a reading that has not stopped and is not malformed, and a post is accepted or
-- meets a full queue
pub record Fine (s : Session) (l : List ℕ) : Type 0 where
  pub reading : s.stopped ≡ false
  pub formed : command_of s.n l ≡ Malformed → ⊥
  pub room : (post_answer s (command_of s.n l) ≡ done) ⊎ (post_answer s (command_of s.n l) ≡ queue_full)

-- from one session to another every line is fine, and at the end the reading has not stopped,
-- nothing stands behind the last line end, and nothing is printed for it
pub data Through : Session → Lines → Session → Type 0 where
  at_end : {s : Session} → s.stopped ≡ false → closed s [] ≡ [] → Through s (rest []) s
  past : {s t : Session} {ls : Lines} (l : List ℕ) → Fine s l → Through (after s l) ls t → Through s (line l ls) t

-- a script is read to its end: it is of n stations, and all its rounds are done
pub record ReadWhole (script : List ℕ) (n count : ℕ) : Type 0 where
  pub end : Session
  pub through : Through session_begun (lines_of script) end
  pub size : end.n ≡ n
  pub rounds : end.rounds ≡ count

-- every generated script is
abbrev pub LoadsRead : Type 0
LoadsRead = (seed n count : ℕ) → 1 ≤ n → n ≤ 16 → count ≤ last_round → ReadWhole (script_of seed n count) n count
