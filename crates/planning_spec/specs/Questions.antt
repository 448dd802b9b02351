-- Document 02, A11: a page of questions for one log. A page is a list of numbers, three to a
-- question: sender, receiver and the number of the broadcast.
use Rattle.std.specs.Prelude.{Bool, Result, Ok, Err, Some, None, if◌then◌else◌, not, ◌||◌, List, []}
use Rattle.std.specs.Prelude.{◌∷◌, ◌≡◌, ℕ, ◌+◌, ◌*◌, ◌/◌, ◌%◌, ◌<◌, ◌≤◌, ◌==◌, nat_le, nat_lt}
use Rattle.std.specs.Prelude.{slice_index, length, replicate}
use Rattle.std.proofs.Math.Option.{Option, none, some}
use Rattle.bodies.specs.declared.refusals.Refusal.{Refusal}
use Rattle.bodies.specs.Refusals.{done, short_buffer, bad_question, number, refuse_number}
use Rattle.lists.specs.Below.{any_below, set_below, tabulate}
use Rattle.links.specs.Question.{answer_in, Answered, Extends}
use Rattle.planning_spec.specs.Arrival.{Arrival}
use Rattle.planning_spec.specs.LinkLog.{rounds_of, links_of, log_refusal}

-- By which round has station `receiver` received broadcast number `number` of station `sender`?
pub record Question : Type 0 where
  pub sender : ℕ
  pub receiver : ℕ
  pub number : ℕ

-- question i of a page, from 0
unfoldable pub question_at : List ℕ → ℕ → Question
question_at page i =
    record {
      sender = slice_index page (3 * i);
      receiver = slice_index page (3 * i + 1);
      number = slice_index page (3 * i + 2);
    }

-- how many questions a page has, and the most that it may have
abbrev pub question_count : List ℕ → ℕ
question_count page = length page / 3

abbrev pub most_questions : ℕ
most_questions = 64

-- a question that names a station not below n, or has a number below 1
unfoldable pub is_bad : ℕ → Question → Bool
is_bad n q = nat_le n q.sender || (nat_le n q.receiver || q.number == 0)

-- the refusals of a page: 18 for a question that is not whole, too many questions, or a bad one
unfoldable pub page_refusal : ℕ → List ℕ → ℕ
page_refusal n page =
    refuse_number (not (length page % 3 == 0)) bad_question
    (refuse_number (nat_lt most_questions (question_count page)) bad_question
    (refuse_number (any_below (question_count page) (λ i. is_bad n (question_at page i))) bad_question done))

-- 1, 12, 18
unfoldable pub questions_refusal : ℕ → List ℕ → List ℕ → ℕ
questions_refusal n log page =
    refuse_number (not (log_refusal n (length log) == done)) (log_refusal n (length log)) (page_refusal n page)

-- the first questions of a page are whole, few, name stations below n, and have numbers from 1: so
-- they are where the page is not refused
pub record Asked (n count : ℕ) (page : List ℕ) : Type 0 where
  pub few : count ≤ most_questions
  pub whole : 3 * count ≤ length page
  pub senders : (i : ℕ) → i < count → (question_at page i).sender < n
  pub receivers : (i : ℕ) → i < count → (question_at page i).receiver < n
  pub numbers : (i : ℕ) → i < count → 1 ≤ (question_at page i).number

-- an answer as it is given out: a round, or never
unfoldable pub arrival_of : Option ℕ → Arrival
arrival_of none = None
arrival_of (some u) = Some u

-- the answer to one question, put alone
unfoldable pub answer_to : ℕ → List ℕ → Question → Arrival
answer_to n log q = arrival_of (answer_in (links_of n log) q.receiver q.sender q.number (rounds_of n log))

abbrev pub never : Arrival
never = None

-- what a call of questions answers: done or its refusal, and sixty-four answers
pub record PageAnswer : Type 0 where
  pub refusal : ℕ
  pub answers : List Arrival

-- the answer that a result stands for
abbrev pub page_answer : Result (List Arrival) Refusal → PageAnswer
page_answer (Ok answers) = record { refusal = done; answers = answers }
page_answer (Err refusal) = record { refusal = number refusal; answers = replicate most_questions never }

-- questions: each question of the page has its own answer, whatever the others are; never stands
-- past the page, and everywhere where it is refused
unfoldable pub questions_call : ℕ → List ℕ → List ℕ → PageAnswer
questions_call n log page =
    if questions_refusal n log page == done
    then record {
      refusal = done;
      answers =
          set_below (question_count page) (λ i. answer_to n log (question_at page i)) (replicate most_questions never);
    }
    else record { refusal = questions_refusal n log page; answers = replicate most_questions never }

-- The same answer said by relays alone: a reader may believe either. `call_relays`
-- (proofs/Questions) shows that each answer of a page is such a one, and `relay_only` that no other
-- is.
pub record RelayAnswer (n : ℕ) (log : List ℕ) (q : Question) (a : Arrival) : Type 0 where
  pub round : Option ℕ
  pub given : a ≡ arrival_of round
  pub by_relays : Answered (links_of n log) q.receiver q.sender q.number (rounds_of n log) round

-- What rounds added at the end make of an answer: a round stays, and never stays or becomes one of
-- the rounds added (`call_extends`).
pub record LaterAnswer (last more : ℕ) (a b : Arrival) : Type 0 where
  pub before : Option ℕ
  pub after : Option ℕ
  pub given : a ≡ arrival_of before
  pub later : b ≡ arrival_of after
  pub extends : Extends last more before after

-- a page with one question: its answer is the question's on any page (`put_alone`)
abbrev pub one_page : Question → List ℕ
one_page q = q.sender ∷ q.receiver ∷ q.number ∷ []

-- an answer as C has it: the round, or 4294967295 for never
unfoldable pub arrival_number : Arrival → ℕ
arrival_number None = 4294967295
arrival_number (Some u) = u

-- the answers of a page as C has them, one a question
unfoldable pub answer_numbers : ℕ → List ℕ → List ℕ → List ℕ
answer_numbers n log page =
    tabulate (question_count page) (λ i. arrival_number (answer_to n log (question_at page i)))

-- the call from C, which needs room for an answer a question: 1, 12, 18, 9
unfoldable pub questions_into_refusal : ℕ → List ℕ → List ℕ → List ℕ → ℕ
questions_into_refusal n log page answers =
    refuse_number (not (questions_refusal n log page == done)) (questions_refusal n log page)
    (refuse_number (nat_lt (length answers) (question_count page)) short_buffer done)
