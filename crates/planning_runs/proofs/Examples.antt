-- A run that shows what more hearings do not promise, computed: rows can be aired later or not at
-- all. Three stations, eight rounds, no posts; the second run has one hearing more, station 1 hears
-- station 0 in round 3. In the first station 2 airs rows in rounds 5 and 8, in the second in round
-- 5 only.
use mathlib.Core.Bool.{Bool, true, false}
use mathlib.Core.List.{List, [], ◌∷◌}
use mathlib.Core.Path.{◌≡◌, refl}
use Prim.Native.Nat.{ℕ}
use lib.ListN.{get_or}
use Rattle.lists.specs.Below.{tabulate}
use Rattle.station_spec.specs.State.{sized}
use Rattle.group_spec.specs.History.{History, Call, Call.round, history_of, no_round, report_in}
use Rattle.group_spec.proofs.Computing.{group_runs}

-- in which of the first eight rounds station p airs a row
unfoldable pub airs_in : History → ℕ → List Bool
airs_in H p = tabulate 8 (λ u. (report_in (get_or H.rounds u no_round) p).turn.aired)

-- the rounds, with this mask of station 1 in round 3
unfoldable pub eight_rounds : ℕ → List Call
eight_rounds mask =
    round (0 ∷ 5 ∷ 1 ∷ [])
    ∷ round (6 ∷ 0 ∷ 0 ∷ [])
    ∷ round (0 ∷ mask ∷ 1 ∷ [])
    ∷ round (2 ∷ 4 ∷ 0 ∷ [])
    ∷ round (4 ∷ 0 ∷ 2 ∷ [])
    ∷ round (4 ∷ 0 ∷ 0 ∷ [])
    ∷ round (0 ∷ 1 ∷ 1 ∷ [])
    ∷ round (0 ∷ 0 ∷ 2 ∷ [])
    ∷ []

pub record RowsNotMonotone : Type 0 where
  pub fewer_hearings :
      airs_in (history_of (sized 3) (eight_rounds 0)) 2 ≡ false ∷ false ∷ false ∷ false ∷ true ∷ false ∷ false ∷ true ∷ []
  pub one_more :
      airs_in (history_of (sized 3) (eight_rounds 1)) 2 ≡ false ∷ false ∷ false ∷ false ∷ true ∷ false ∷ false ∷ false ∷ []

pub rows_not_monotone : RowsNotMonotone
unfolding airs_in eight_rounds tabulate group_runs
rows_not_monotone = record { fewer_hearings = refl; one_more = refl }
