-- Runs of one, two and three stations, computed. They show that demand 3 is not empty: edits are
-- taken, aired and ended at every station.
use Prim.Native.Nat.{ℕ, suc}
use mathlib.Core.List.{[], ◌∷◌}
use mathlib.Core.Path.{◌≡◌, refl}
use lib.IntN.{pos}
use lib.ListN.{replicate}
use Rattle.bodies.specs.declared.Body.{Body}
use Rattle.bodies.specs.declared.Body.TheVariants.{Empty, Neutral, Insert}
use Rattle.lists.specs.Below.{filter_map, tabulate}
use Rattle.station_spec.specs.State.{sized}
use Rattle.group_spec.specs.declared.Post.{Post}
use Rattle.group_spec.specs.History.{History, Call.post, Call.round, history_of, takings_of, aired_list, ends_at}
use Rattle.group_spec.proofs.Computing.{group_runs}
use Rattle.group_spec.proofs.RunLines.{taken, aired, ended, lines_of, lines_in, edit, edits, run, seen, mesh}

unfoldable pub seven : Body
seven = Insert 0 7 (pos 100)

-- the calls of document 01's example
unfoldable pub listing : History
listing = history_of (record { n = 2; limit = 32; edition = 0 }) (post (record { station = 0; desk = 0; body = seven }) ∷ replicate 3 (round (2 ∷ 1 ∷ [])))

-- stations 0 and 2 hear station 1 only, and it hears both
abbrev pub chain : History
chain = run 3 8 (2 ∷ 5 ∷ 2 ∷ [])

-- an edit of a desk at a station alone
abbrev of_desk : ℕ → ℕ → Post
of_desk desk k = record { station = 0; desk = desk; body = edit k }

-- desk 1 posts one edit, then desk 0 three, and five rounds
unfoldable pub two_desks : History
two_desks =
    history_of (sized 1)
    (post (of_desk 1 0) ∷ post (of_desk 0 1) ∷ post (of_desk 0 2) ∷ post (of_desk 0 3) ∷ replicate 5 (round []))

pub record Runs : Type 0 where
  -- the listing of document 01: round 1 is silent, round 2 ends and starts, round 3 takes and airs
  pub listing_one : tabulate 2 (lines_in 2 listing 0) ≡ [] ∷ [] ∷ []
  pub listing_two : tabulate 2 (lines_in 2 listing 1) ≡ (ended 0 Empty ∷ taken 0 seven ∷ []) ∷ (ended 1 Empty ∷ taken 1 Neutral ∷ []) ∷ []
  pub listing_three :
      tabulate 2 (lines_in 2 listing 2) ≡ (taken 1 Neutral ∷ aired 0 seven ∷ []) ∷ (taken 0 seven ∷ aired 0 seven ∷ []) ∷ []
  -- everyone hears everyone
  pub two : seen 2 (run 2 4 (2 ∷ 1 ∷ [])) ≡ mesh 2
  pub three : seen 3 (run 3 4 (6 ∷ 5 ∷ 3 ∷ [])) ≡ mesh 3
  -- the chain: the two ends, two links from each other, need four rounds for a broadcast and the
  -- middle two; the same is aired everywhere
  pub chain_airs : tabulate 3 (aired_list 3 chain) ≡ replicate 3 (edits 3)
  pub chain_ends : tabulate 3 (λ s. filter_map 8 (λ u. ends_at chain s (suc u)) suc) ≡ (4 ∷ 8 ∷ []) ∷ (2 ∷ 4 ∷ 6 ∷ 8 ∷ []) ∷ (4 ∷ 8 ∷ []) ∷ []
  -- two desks: a fresh station gives way to desk 0, then to desk 1, and then desk 0 waits alone;
  -- all is aired in the order started
  pub desks_start : two_desks.starts ≡ of_desk 0 1 ∷ of_desk 1 0 ∷ of_desk 0 2 ∷ of_desk 0 3 ∷ []
  pub desks_aired : takings_of 0 (aired_list 1 two_desks 0) ≡ edit 1 ∷ edit 0 ∷ edit 2 ∷ edit 3 ∷ []

-- all by computation
pub runs : Runs
unfolding group_runs seven listing lines_of lines_in edit run two_desks takings_of
runs =
    record {
      listing_one = refl;
      listing_two = refl;
      listing_three = refl;
      two = refl;
      three = refl;
      chain_airs = refl;
      chain_ends = refl;
      desks_start = refl;
      desks_aired = refl;
    }
