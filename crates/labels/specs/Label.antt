-- Document 01, "Bodies, labels and records": the three labels, which follow each other in a circle.
use Rattle.std.specs.Prelude.{ℕ, ◌+◌, ◌%◌, Bool, nat_le}

-- "label"
abbrev pub is_label : ℕ → Bool
is_label label = nat_le label 2

-- "successor"
abbrev pub successor : ℕ → ℕ
successor label = (label + 1) % 3
