-- Document 02, A12: one list of issues, posts and rounds from a fresh group, and what it leaves.
use Rattle.std.specs.Prelude.{ℕ, zero, suc, if◌then◌else◌, List, [], ◌∷◌, ◌++◌, ◌==◌, slice_index_or, length}
use Rattle.bodies.specs.Refusals.{done}
use Rattle.station_spec.specs.declared.Setup.{Setup}
use Rattle.group_spec.specs.History as group
use Rattle.group_spec.specs.History.{Call, Call.post, Call.round, begun, no_round}
use Rattle.bulletins_spec.specs.declared.Bulletins.{Bulletins}
use Rattle.bulletins_spec.specs.declared.Notice.{Notice}
use Rattle.bulletins_spec.specs.declared.BulletinsRound.{BulletinsRound}
use Rattle.bulletins_spec.specs.State.{fresh_bulletins}
use Rattle.bulletins_spec.specs.Calls.{issue_call, bulletins_round_call, shown_of, notices}

-- a post or a round, or an issue: issuer, tag and event; with any arguments
pub data Entry : Type 0 where
  call : Call → Entry
  issue : ℕ → ℕ → ℕ → Entry

-- the list without its issues
unfoldable pub calls_of : List Entry → List Call
calls_of [] = []
calls_of (call c ∷ rest) = c ∷ calls_of rest
calls_of (issue i tag event ∷ rest) = calls_of rest

-- an accepted issue: the bulletin, and the round of issue, which is the number of rounds done by
-- then
pub record Issued : Type 0 where
  pub notice : Notice
  pub after : ℕ

-- what the answer to an issue shows: at which station, after how many rounds
pub record Answer : Type 0 where
  pub station : ℕ
  pub after : ℕ
  pub notice : Notice

-- what a list leaves: the group and what its own calls gave, the bulletins, the accepted issues,
-- what their answers show, and what the rounds returned
pub record History : Type 0 where
  pub group : group.History
  pub bulletins : Bulletins
  pub issues : List Issued
  pub answers : List Answer
  pub rounds : List BulletinsRound

-- one entry more. A round is given the group that the call before it left; that the group's part of
-- its answer is what the group's own round gives is a claim (`Claim.group_part`)
unfoldable pub next : History → Entry → History
next H (call (post x)) =
    record {
      group = group.next H.group (post x);
      bulletins = H.bulletins;
      issues = H.issues;
      answers = H.answers;
      rounds = H.rounds;
    }
next H (call (round masks)) =
    let made = bulletins_round_call H.group.group H.bulletins masks in
    record {
      group = group.next H.group (round masks);
      bulletins = made.bulletins;
      issues = H.issues;
      answers = H.answers;
      rounds = H.rounds ++ (made ∷ []);
    }
next H (issue i tag event) =
    let made = issue_call H.bulletins i tag event in
    let accepted = made.refusal == done in
    let u = length H.rounds in
    record {
      group = H.group;
      bulletins = made.bulletins;
      issues =
          H.issues
          ++ (if accepted
          then record { notice = record { issuer = i; tag = tag; event = event }; after = u } ∷ []
          else []);
      answers = H.answers ++ (if accepted then record { station = i; after = u; notice = made.shown } ∷ [] else []);
      rounds = H.rounds;
    }

unfoldable pub begins : Setup → History
begins setup =
    record { group = begun setup; bulletins = fresh_bulletins setup.n; issues = []; answers = []; rounds = [] }

unfoldable pub continued : History → List Entry → History
continued H [] = H
continued H (e ∷ rest) = continued (next H e) rest

-- the history of a list of issues, posts and rounds from a fresh group and its fresh bulletins
abbrev pub run_of : Setup → List Entry → History
run_of setup entries = continued (begins setup) entries

-- a round that is not there
abbrev pub no_bulletins_round : BulletinsRound
no_bulletins_round =
    record { round = no_round; bulletins = record { n = 0; tags = []; events = []; held = [] }; shown = [] }

-- what round u reports that station p shows; rounds are numbered from 1
unfoldable pub shown_in : List BulletinsRound → ℕ → ℕ → List Notice
shown_in rounds p zero = []
shown_in rounds p (suc u) = notices (slice_index_or (slice_index_or rounds u no_bulletins_round).shown p (shown_of []))
