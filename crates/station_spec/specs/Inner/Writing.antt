-- What the writer of a station's frame answers.
use Rattle.std.specs.Prelude.{ℕ, Result, Ok, Err}
use Rattle.bodies.specs.declared.refusals.Refusal.{Refusal}
use Rattle.bodies.specs.Refusals.{done, number}
use Rattle.frame_spec.specs.declared.Written.{Written}

-- what the writer of tables answers, with the refusal by its number
abbrev pub as_written : Result ℕ Refusal → Written
as_written (Ok len) = record { refusal = done; len = len }
as_written (Err refusal) = record { refusal = number refusal; len = 0 }
