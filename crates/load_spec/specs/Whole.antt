-- Document 02, A5: the calls of the generator one after the other.
use Rattle.std.specs.Prelude.{ℕ, suc, ◌+◌, ◌*◌, ◌≤◌, ◌≡◌, Bool, true, false, List, [], ◌++◌, length, take}
use Rattle.bodies.specs.Refusals.{done}
use Rattle.load_spec.specs.declared.Generated.{Generated}
use Rattle.load_spec.specs.Script.{field_width, post_length, script_of}
use Rattle.load_spec.specs.Calls.{most_rounds, generated, buffer_after}

-- a call in a buffer: its answer, and the bytes of which the answer gives the length
abbrev pub answer_in : ℕ → ℕ → ℕ → Bool → List ℕ → Generated
answer_in state n due head buffer = generated state n due head (length buffer)

abbrev pub written_in : ℕ → ℕ → ℕ → Bool → List ℕ → List ℕ
written_in state n due head buffer = take (answer_in state n due head buffer).len (buffer_after state n due head buffer)

-- Calls that write the rounds due, and all that they write. The state is that of the first call.
-- Each call lends a buffer of its own and is done; the next is given the state that it returned and
-- one round fewer as due.
pub data Rounds (n : ℕ) : ℕ → ℕ → List ℕ → Type 0 where
  none_due : (state : ℕ) → Rounds n state 0 []
  then_call :
      (state due : ℕ) (buffer text : List ℕ) →
      (answer_in state n (suc due) false buffer).refusal ≡ done →
      Rounds n (answer_in state n (suc due) false buffer).state due text →
      Rounds n state (suc due) (written_in state n (suc due) false buffer ++ text)

-- The same behind a call that writes the `N` line.
pub data Calls (n : ℕ) : ℕ → ℕ → List ℕ → Type 0 where
  head_first :
      (seed count : ℕ) (buffer text : List ℕ) →
      (answer_in seed n count true buffer).refusal ≡ done →
      Rounds n (answer_in seed n count true buffer).state count text →
      Calls n seed count (written_in seed n count true buffer ++ text)

-- All that such calls write is the script of the seed.
abbrev pub WritesWhole : Type 0
WritesWhole = (n seed count : ℕ) (text : List ℕ) → Calls n seed count text → text ≡ script_of seed n count

-- so many bytes hold what any call writes: the posts of sixteen stations, and a line of sixteen
-- masks
abbrev pub enough : ℕ
enough = post_length * 16 + (1 + field_width * 16 + 1)

-- In a buffer of that many bytes no call inside the limits is refused.
abbrev pub NeverShort : Type 0
NeverShort =
    (state n due : ℕ) (head : Bool) (room : ℕ) →
    1 ≤ n → n ≤ 16 → due ≤ most_rounds → enough ≤ room → (generated state n due head room).refusal ≡ done

-- So inside the limits there are such calls, and the script is what they write.
abbrev pub AlwaysWritten : Type 0
AlwaysWritten = (n seed count : ℕ) → 1 ≤ n → n ≤ 16 → count ≤ most_rounds → Calls n seed count (script_of seed n count)
