-- What a call returns and writes whose answer is two numbers, or a refusal.
use Rattle.std.specs.Prelude.{if◌then◌else◌, not, List, ◌∷◌, ℕ, ◌==◌, nat_lt, length, drop}
use Rattle.bodies.specs.Refusals.{done, short_buffer, refuse_number}

-- the answer's refusal, then 9
unfoldable pub pair_returned : ℕ → List ℕ → ℕ
pair_returned refusal buffer =
    refuse_number (not (refusal == done)) refusal (refuse_number (nat_lt (length buffer) 2) short_buffer done)

-- the buffer afterwards: the two numbers, and then what stood past them; or as it was
unfoldable pub pair_buffer : ℕ → ℕ → ℕ → List ℕ → List ℕ
pair_buffer refusal x y buffer = if pair_returned refusal buffer == done then x ∷ y ∷ drop 2 buffer else buffer
