-- Replies while the rounds of a log go, which the functions' contracts speak of: what each question
-- is answered so far. What a page is, and what its answers are, says `planning_spec`.
use Rattle.std.specs.Prelude.{if◌then◌else◌, Some, None, List, ◌≡◌, ℕ, ◌+◌, ◌<◌, ◌≤◌, nat_le}
use Rattle.std.specs.Prelude.{slice_index, slice_index_or}
use Rattle.std.specs.Prelude.{length}
use Rattle.links.specs.Log.{bit}
use Rattle.links.specs.Relay.{Links}
use Rattle.links.specs.Question.{answer_in}
use Rattle.planning.specs.Sets.{cell}
use Rattle.planning_spec.specs.Arrival.{Arrival}
use Rattle.planning_spec.specs.Questions.{question_at, arrival_of, never, most_questions}

-- a reply after round u, in which the receiver has so many broadcasts: what was replied stays
unfoldable pub settled : Arrival → ℕ → ℕ → ℕ → Arrival
settled (Some v) number received u = Some v
settled None number received u = if nat_le number received then Some u else None

-- how many broadcasts of s station r has, by the sets and the ends so far
unfoldable pub received_in : List ℕ → List ℕ → ℕ → ℕ → ℕ
received_in sets ends r s = slice_index ends s + (if bit (cell sets r s) s then 1 else 0)

-- the first replies are settled in round u, and the others stay
pub record Settled (done : ℕ) (page sets ends : List ℕ) (u : ℕ) (before after : List Arrival) : Type 0 where
  pub size : length after ≡ length before
  pub first :
      (i : ℕ) → i < done
      → slice_index_or after i never
      ≡ settled (slice_index_or before i never) (question_at page i).number
      (received_in sets ends (question_at page i).receiver (question_at page i).sender) u
  pub rest : (i : ℕ) → done ≤ i → slice_index_or after i never ≡ slice_index_or before i never

-- the replies are the answers within u rounds, and never past the page
pub record Replied (L : Links) (u count : ℕ) (page : List ℕ) (replies : List Arrival) : Type 0 where
  pub size : length replies ≡ most_questions
  pub each :
      (i : ℕ) → i < count
      → slice_index_or replies i never
      ≡ arrival_of (answer_in L (question_at page i).receiver (question_at page i).sender (question_at page i).number u)
  pub rest : (i : ℕ) → count ≤ i → slice_index_or replies i never ≡ never
