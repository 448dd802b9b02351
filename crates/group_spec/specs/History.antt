-- Document 01, "A group and its rounds", demand 3: one list of calls from a fresh group, and what
-- the demand's words mean of it.
use Rattle.std.specs.Prelude.{ℕ, zero, suc, Bool, false, cond, ◌&&◌, List, [], ◌∷◌, ◌++◌, get_or, take, eqb}
use Rattle.bodies.specs.declared.Body.{Body}
use Rattle.bodies.specs.Body.{is_empty, is_edit}
use Rattle.bodies.specs.Refusals.{done}
use Rattle.lists.specs.Below.{filter_map}
use Rattle.station_spec.specs.declared.Setup.{Setup}
use Rattle.station_spec.specs.declared.Station.{Station}
use Rattle.queues.specs.declared.Slot.{Slot}
use Rattle.station_spec.specs.declared.Taking.{Taking}
use Rattle.queues.specs.Queue.{no_slot}
use Rattle.queues.specs.Waiting.{next_desk}
use Rattle.group_spec.specs.declared.Post.{Post}
use Rattle.group_spec.specs.declared.Report.{Report}
use Rattle.group_spec.specs.declared.RoundDone.{RoundDone}
use Rattle.group_spec.specs.State.{station_at, size_of, fresh_group}
use Rattle.group_spec.specs.Calls.{group_post_call, round_call, no_report}

-- a group post or a round, with any arguments
pub data Call : Type 0 where
  post : Post → Call
  round : List ℕ → Call

-- what a list of calls leaves: the group, what its rounds returned, the masks they were given, its
-- accepted posts, and the edits that its turns started
pub record History : Type 0 where
  pub group : List Station
  pub rounds : List RoundDone
  pub log : List (List ℕ)
  pub accepted : List Post
  pub starts : List Post

-- the report of station p in a round
abbrev pub report_in : RoundDone → ℕ → Report
report_in r p = get_or r.reports p no_report

-- the edits that the turns of a round report as started, in station order; each is of the desk that
-- was next in the group before the round, for hearing leaves the waiting edits as they are
unfoldable pub starts_in : List Station → RoundDone → List Post
starts_in g r =
    filter_map (size_of g) (λ p. is_edit (report_in r p).turn.started_body)
    (λ p.
    record { station = p; desk = next_desk (station_at g p).waiting; body = (report_in r p).turn.started_body })

-- one call more
unfoldable pub next : History → Call → History
next H (post x) =
    let made = group_post_call H.group x in
    record {
      group = made.group;
      rounds = H.rounds;
      log = H.log;
      accepted = H.accepted ++ cond (eqb made.refusal done) (x ∷ []) [];
      starts = H.starts;
    }
next H (round masks) =
    let made = round_call H.group masks in
    record {
      group = made.group;
      rounds = H.rounds ++ (made ∷ []);
      log = H.log ++ (masks ∷ []);
      accepted = H.accepted;
      starts = H.starts ++ starts_in H.group made;
    }

unfoldable pub begun : Setup → History
begun setup = record { group = fresh_group setup; rounds = []; log = []; accepted = []; starts = [] }

unfoldable pub continued : History → List Call → History
continued H [] = H
continued H (c ∷ cs) = continued (next H c) cs

-- the history of a list of calls from a fresh group
abbrev pub history_of : Setup → List Call → History
history_of setup calls = continued (begun setup) calls

-- a round that is not there
abbrev pub no_round : RoundDone
no_round = record { refusal = 0; group = []; reports = [] }

-- a body, where it is not Empty
abbrev pub unless_empty : Body → List Body
unless_empty b = cond (is_empty b) [] (b ∷ [])

module _ {A : Type 0} where
  -- what each round adds, round after round
  unfoldable pub collect : (RoundDone → List A) → List RoundDone → List A
  collect f [] = []
  collect f (r ∷ rs) = f r ++ collect f rs

-- the bodies of those entries that are of station s
unfoldable pub takings_of : ℕ → List Taking → List Body
takings_of s [] = []
takings_of s (t ∷ ts) = cond (eqb t.source s) (t.body ∷ []) [] ++ takings_of s ts

-- the bodies of those posts that are made at station s, by either desk
unfoldable pub posts_at : ℕ → List Post → List Body
posts_at s [] = []
posts_at s (x ∷ xs) = cond (eqb x.station s) (x.body ∷ []) [] ++ posts_at s xs

-- the bodies of those posts that a desk makes at station s
unfoldable pub posts_of : ℕ → ℕ → List Post → List Body
posts_of s desk [] = []
posts_of s desk (x ∷ xs) = cond (eqb x.station s && eqb x.desk desk) (x.body ∷ []) [] ++ posts_of s desk xs

-- the term "started": what the turns of s report as started, the Empty ones left out
unfoldable pub started : History → ℕ → List Body
started H s = collect (λ r. unless_empty (report_in r s).turn.started_body) H.rounds

-- the term "taken": of another station, what the rounds report that p took of it; of p itself, what
-- p started
unfoldable pub taken_from : History → ℕ → ℕ → List Body
taken_from H p s =
    cond (eqb p s)
    (started H s)
    (collect (λ r. takings_of s (take (report_in r p).takings_len (report_in r p).takings)) H.rounds)

-- the edits of a row, each with its source, in station order
unfoldable pub edits_of : ℕ → List Slot → List Taking
edits_of n row =
    filter_map n (λ k. is_edit (get_or row k no_slot).body)
    (λ k. record { source = k; body = (get_or row k no_slot).body })

-- the term "aired list", of station p among n
unfoldable pub aired_list : ℕ → History → ℕ → List Taking
aired_list n H p =
    collect (λ r. cond (report_in r p).turn.aired (edits_of n (report_in r p).turn.row) []) H.rounds

-- the edits of a list of bodies
unfoldable pub only_edits : List Body → List Body
only_edits [] = []
only_edits (b ∷ bs) = cond (is_edit b) (b ∷ []) [] ++ only_edits bs

-- station s reports an end in round u; rounds are numbered from 1
unfoldable pub ends_at : History → ℕ → ℕ → Bool
ends_at H s zero = false
ends_at H s (suc u) =
    (report_in (get_or H.rounds u no_round) s).turn.ended

-- the round in which the broadcast that s has after round u started: its last reported end, or 0
unfoldable pub started_in : History → ℕ → ℕ → ℕ
started_in H s zero = 0
started_in H s (suc u) = cond (ends_at H s (suc u)) (suc u) (started_in H s u)
