-- Document 02, A5: what a call of the generator writes and returns. It is given the seed or the
-- state that the call before returned, N, the number of rounds still due, whether the `N` line is
-- wanted, and a buffer.
use Rattle.std.specs.Prelude.{ℕ, ◌≡◌, Bool, if◌then◌else◌, not, ◌&&◌, ◌||◌, List, [], ◌∷◌, nat_le}
use Rattle.std.specs.Prelude.{nat_lt, ◌==◌, length, set}
use Rattle.bodies.specs.Refusals.{done, bad_number, short_buffer, refuse_number}
use Rattle.listing_lines.specs.Lines.{placed}
use Rattle.load_spec.specs.declared.Generated.{Generated}
use Rattle.load_spec.specs.Draws.{after_round}
use Rattle.load_spec.specs.Script.{size_line, round_lines, text_of}

-- as many rounds as a listing can number
abbrev pub most_rounds : ℕ
most_rounds = 999_999

-- N is 1 to 16, and no more rounds are due than that
unfoldable pub numbers_fit : ℕ → ℕ → Bool
numbers_fit n due = (nat_le 1 n && nat_le n 16) && nat_le due most_rounds

-- the lines that are written: the `N` line where it is wanted, else the next round's, and none
-- where no round is due
unfoldable pub call_lines : ℕ → ℕ → ℕ → Bool → List (List ℕ)
call_lines state n due head =
    if head then size_line n ∷ [] else (if due == 0 then [] else round_lines state n)

unfoldable pub call_text : ℕ → ℕ → ℕ → Bool → List ℕ
call_text state n due head = text_of (call_lines state n due head)

-- the state afterwards: only a round draws
unfoldable pub call_state : ℕ → ℕ → ℕ → Bool → ℕ
call_state state n due head = if head || due == 0 then state else after_round n state

-- 1, then 9
unfoldable pub call_refusal : ℕ → ℕ → ℕ → Bool → ℕ → ℕ
call_refusal state n due head room =
    refuse_number (not (numbers_fit n due)) bad_number
    (refuse_number (nat_lt room (length (call_text state n due head))) short_buffer done)

-- the answer, for a buffer of so many bytes: length and next state, or the refusal, length 0 and
-- the state as given
unfoldable pub generated : ℕ → ℕ → ℕ → Bool → ℕ → Generated
generated state n due head room =
    if call_refusal state n due head room == done
    then record { refusal = done; len = length (call_text state n due head); state = call_state state n due head }
    else record { refusal = call_refusal state n due head room; len = 0; state = state }

-- the buffer afterwards: the text at its front and the rest kept; a refused call leaves it as it
-- was
unfoldable pub buffer_after : ℕ → ℕ → ℕ → Bool → List ℕ → List ℕ
buffer_after state n due head buffer =
    if call_refusal state n due head (length buffer) == done
    then placed buffer 0 (call_text state n due head)
    else buffer

-- The call from C names what is wanted by a number: the `N` line for any but 0.
abbrev pub wanted : ℕ → Bool
wanted head = not (head == 0)

-- It lends two places more, for the next state and the length; fewer than two are a buffer too
-- short. It returns the refusal.
unfoldable pub host_refusal : ℕ → ℕ → ℕ → Bool → ℕ → ℕ → ℕ
host_refusal state n due head room places =
    refuse_number (not (numbers_fit n due)) bad_number
    (refuse_number (nat_lt places 2) short_buffer (call_refusal state n due head room))

-- the buffer and the two places after that call
unfoldable pub host_buffer : ℕ → ℕ → ℕ → Bool → ℕ → List ℕ → List ℕ
host_buffer state n due head places buffer =
    if host_refusal state n due head (length buffer) places == done
    then placed buffer 0 (call_text state n due head)
    else buffer

unfoldable pub host_places : ℕ → ℕ → ℕ → Bool → ℕ → List ℕ → List ℕ
host_places state n due head room next =
    if host_refusal state n due head room (length next) == done
    then set (set next 0 (call_state state n due head)) 1 (length (call_text state n due head))
    else next

-- what a part of the call promises: its text, where it fits, at the front of the buffer and the
-- state after it; else 9, the buffer and the state as given
pub record Writes (text : List ℕ) (state after : ℕ) (entry exit : List ℕ) (r : Generated) : Type 0 where
  pub answer :
      r
      ≡ (if nat_lt (length entry) (length text)
      then record { refusal = short_buffer; len = 0; state = state }
      else record { refusal = done; len = length text; state = after })
  pub put : exit ≡ (if nat_lt (length entry) (length text) then entry else placed entry 0 text)
