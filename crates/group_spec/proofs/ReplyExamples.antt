-- A run in which every body is the same: two desks of station 0 post, station 1 replies once it has
-- aired the first, and each entry is told apart, at both stations.
use Prim.Native.Nat.{ℕ}
use mathlib.Core.List.{List, [], ◌∷◌, ◌++◌}
use mathlib.Core.Path.{◌≡◌, refl}
use lib.ListN.{length, replicate}
use Rattle.bodies.specs.declared.Body.TheVariants.{Drop}
use Rattle.bodies.specs.Refusals.{done}
use Rattle.lists.specs.Below.{tabulate}
use Rattle.station_spec.specs.State.{sized}
use Rattle.group_spec.specs.declared.Post.{Post}
use Rattle.group_spec.specs.Calls.{group_post_refusal}
use Rattle.group_spec.specs.History.{History, Call, Call.post, Call.round, history_of, takings_of, posts_of, aired_list}
use Rattle.group_spec.specs.Replies.{Edit, edit_after, edit_at, posts_from, entry_edit, aired_edit}
use Rattle.group_spec.proofs.Computing.{group_runs}

-- the post of a desk at a station, always of one body
abbrev by : ℕ → ℕ → Post
by station desk = record { station = station; desk = desk; body = Drop 0 7 }

abbrev edit : ℕ → ℕ → ℕ → Edit
edit source desk number = record { source = source; desk = desk; number = number }

-- both hear each other
abbrev rounds : ℕ → List Call
rounds k = replicate k (round (2 ∷ 1 ∷ []))

abbrev before : List Call
before = post (by 0 1) ∷ post (by 0 0) ∷ rounds 3

unfoldable pub seen : History
seen = history_of (sized 2) before

unfoldable pub replied : History
replied = history_of (sized 2) (before ++ (post (by 1 1) ∷ rounds 4))

pub record Replied : Type 0 where
  -- station 1 has aired one edit, of desk 0, and then posts
  pub one_aired : tabulate (length (aired_list 2 seen 1)) (aired_edit 2 seen 1) ≡ edit 0 0 0 ∷ []
  pub accepted : group_post_refusal seen.group (by 1 1) ≡ done
  pub reply : edit_after seen.accepted (by 1 1) ≡ edit 1 1 0
  -- the reply comes behind it, at both stations
  pub at_one :
      tabulate (length (aired_list 2 replied 1)) (aired_edit 2 replied 1) ≡ edit 0 0 0 ∷ edit 0 1 0 ∷ edit 1 1 0 ∷ []
  pub at_zero :
      tabulate (length (aired_list 2 replied 0)) (aired_edit 2 replied 0) ≡ edit 0 0 0 ∷ edit 0 1 0 ∷ edit 1 1 0 ∷ []

-- all by computation
pub replies : Replied
unfolding group_runs seen replied takings_of posts_of edit_at posts_from entry_edit
replies = record { one_aired = refl; accepted = refl; reply = refl; at_one = refl; at_zero = refl }
