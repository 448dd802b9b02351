-- What any station airs of a sender is a beginning of the edits that the sender started: its rows
-- have the first bodies that the sender started, in order.
use Prim.Native.Nat.{ℕ, zero, suc, ◌<◌}
use mathlib.Core.List.{List, [], ◌∷◌, ◌++◌, append-nil, append_assoc}
use mathlib.Core.Path.{◌≡◌, refl, sym, ap, ◌∙◌}
use native.Mathlib.Omega.{arith}
use lib.ListN.{get_or, take, drop, length, take-append-drop}
use Rattle.bodies.specs.declared.Body.{Body}
use Rattle.bodies.specs.declared.Body.TheVariants.{Empty}
use Rattle.bodies.specs.Body.{is_edit}
use Rattle.station_spec.specs.declared.Setup.{Setup}
use Rattle.group_spec.specs.History.{History, Call, history_of, takings_of, posts_at, only_edits, started, aired_list}
use Rattle.group_spec.specs.Demand.{Begins}
use Rattle.group_spec.proofs.Setups.{Accepts}
use Rattle.group_spec.proofs.Run.{Run}
use Rattle.group_spec.proofs.Lists.{started_by, rows_by}
use Rattle.group_spec.proofs.Takings.{takings_of-append, only_edits-append, gathered_own}
use Rattle.group_spec.proofs.TurnAccount.{if_edit}
use Rattle.group_spec.proofs.PostsAccounted.{starts_reported}
use Rattle.group_spec.proofs.Aired.{row_by, rows_of, aired_rows}
use Rattle.group_spec.proofs.CallRun.{run_of}
use Rattle.group_spec.proofs.HistoryRun.{Unrefused, history_rounds}
use Rattle.group_spec.proofs.HistoryLists.{started_list, aired_list_lem}

-- one body more; past the end there is none
take_more : (l : List Body) (k : ℕ) → only_edits (take (suc k) l) ≡ only_edits (take k l) ++ if_edit (get_or l k Empty)
unfolding only_edits
take_more [] zero = refl
take_more [] (suc k) = refl
take_more (x ∷ l) zero = append-nil (if_edit x)
take_more (x ∷ l) (suc k) =
    ap (λ (z : List Body). if_edit x ++ z) (take_more l k) ∙ sym (append_assoc (if_edit x) (only_edits (take k l)) (if_edit (get_or l k Empty)))

take_begins : (l : List Body) (k : ℕ) → Begins (only_edits (take k l)) (only_edits l)
take_begins l k = record { rest = only_edits (drop k l); whole = sym (only_edits-append (take k l) (drop k l)) ∙ ap only_edits (take-append-drop k l) }

module _ (R : Run) (v s : ℕ) (ls : s < R.n) where
  row_of : (k : ℕ) → takings_of s (row_by R v k) ≡ if_edit (get_or (started_by R v s) k Empty)
  unfolding row_by
  row_of k = gathered_own (λ r. is_edit (get_or (started_by R v r) k Empty)) (λ r. get_or (started_by R v r) k Empty) s R.n ls

  pub rows_of_lem : (k : ℕ) → takings_of s (rows_of R v k) ≡ only_edits (take k (started_by R v s))
  unfolding rows_of takings_of only_edits
  rows_of_lem zero = refl
  rows_of_lem (suc k) =
      takings_of-append s (rows_of R v k) (row_by R v k)
      ∙ (λ i. rows_of_lem k i ++ row_of k i)
      ∙ sym (take_more (started_by R v s) k)

module _ (setup : Setup) (ok : Accepts setup) (calls : List Call) (free : Unrefused (run_of setup ok calls)) where
  abbrev n : ℕ
  n = setup.n

  abbrev R : Run
  R = run_of setup ok calls

  abbrev H : History
  H = history_of setup calls

  abbrev last : ℕ
  last = length H.rounds

  pub aired_begin_starts : (p s : ℕ) → p < n → s < n → Begins (takings_of s (aired_list n H p)) (posts_at s H.starts)
  aired_begin_starts p s lp ls =
      let same = history_rounds setup ok calls free in
      rw (
        starts_reported setup ok calls s ls,
        aired_list_lem R H last same p lp,
        started_list R H last same s ls,
        aired_rows R last last p (omega arith) lp,
        rows_of_lem R last s ls (rows_by R last p),
      )
      (take_begins (started_by R last s) (rows_by R last p))
