-- What the inner functions promise to each other.
use Rattle.std.specs.Prelude.{ℕ, Result, Ok, Err}
use Rattle.bodies.specs.declared.refusals.Refusal.{Refusal}
use Rattle.bodies.specs.Refusals.{done, number}
use Rattle.load_spec.specs.declared.Generated.{Generated}
use Rattle.load.specs.declared.Written.{Written}

-- the answer of a call that was given a state, by what it wrote or why it wrote nothing
abbrev pub answer_of : ℕ → Result Written Refusal → Generated
answer_of state (Ok written) = record { refusal = done; len = written.len; state = written.state }
answer_of state (Err refusal) = record { refusal = number refusal; len = 0; state = state }
