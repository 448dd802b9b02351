-- What is read off a computed run: the lines of a report, as the listing prints them.
use Prim.Native.Nat.{ℕ, suc}
use mathlib.Core.Bool.{cond, not}
use lib.Dec.{eqb}
use mathlib.Core.List.{List, [], ◌∷◌, ◌++◌, map}
use lib.ListN.{get_or, take, replicate}
use Rattle.bodies.specs.declared.Body.{Body}
use Rattle.bodies.specs.declared.Body.TheVariants.{Empty, Neutral, Drop}
use Rattle.lists.specs.Below.{filter_map, tabulate}
use Rattle.station_spec.specs.declared.Taking.{Taking}
use Rattle.group_spec.specs.declared.Report.{Report}
use Rattle.station_spec.specs.State.{sized}
use Rattle.group_spec.specs.History.{History, Call.post, Call.round, history_of, no_round, report_in, unless_empty, edits_of, aired_list}

-- a line of the listing: a body taken, aired or ended, with its source
pub data Line : Type 0 where
  taken aired ended : ℕ → Body → Line

-- the lines of one report of station p among n, in the listing's order
unfoldable pub lines_of : ℕ → ℕ → Report → List Line
lines_of n p r =
    map (λ (t : Taking). taken t.source t.body) (take r.takings_len r.takings)
    ++ map (λ (t : Taking). aired t.source t.body) (cond r.turn.aired (edits_of n r.turn.row) [])
    ++ cond r.turn.ended (ended p r.turn.ended_body ∷ []) []
    ++ map (taken p) (unless_empty r.turn.started_body)

-- the lines of station p in round u + 1
unfoldable pub lines_in : ℕ → History → ℕ → ℕ → List Line
lines_in n H u p = lines_of n p (report_in (get_or H.rounds u no_round) p)

-- the edit of station k
unfoldable pub edit : ℕ → Body
edit k = Drop 0 (suc k)

-- the edits of n stations as a row airs them
abbrev pub edits : ℕ → List Taking
edits n = tabulate n (λ k. record { source = k; body = edit k })

-- one edit posted at each of n stations, and then rounds in which they hear by the same masks
unfoldable pub run : ℕ → ℕ → List ℕ → History
run n rounds masks = history_of (sized n) (tabulate n (λ k. post (record { station = k; desk = 0; body = edit k })) ++ replicate rounds (round masks))

-- what is read off a run in which everyone hears everyone: the lines of rounds 2 to 4 and what is
-- aired, station by station. One value, so that a run is computed once
pub record Seen : Type 0 where
  pub second : List (List Line)
  pub third : List (List Line)
  pub fourth : List (List Line)
  pub airs : List (List Taking)

abbrev pub seen : ℕ → History → Seen
seen n H =
    record {
      second = tabulate n (lines_in n H 1);
      third = tabulate n (lines_in n H 2);
      fourth = tabulate n (lines_in n H 3);
      airs = tabulate n (aired_list n H);
    }

-- with one edit of each of n stations: round 2 ends Empty and starts the edits, round 3 takes those
-- of the others and airs all, round 4 ends them
abbrev pub mesh : ℕ → Seen
mesh n =
    record {
      second = tabulate n (λ p. ended p Empty ∷ taken p (edit p) ∷ []);
      third = tabulate n (λ p. filter_map n (λ k. not (eqb k p)) (λ k. taken k (edit k)) ++ tabulate n (λ k. aired k (edit k)));
      fourth = tabulate n (λ p. ended p (edit p) ∷ taken p Neutral ∷ []);
      airs = replicate n (edits n);
    }
