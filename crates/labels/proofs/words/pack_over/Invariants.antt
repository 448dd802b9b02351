use mathlib.Core.Path.{◌≡◌}
use Rattle.labels.proofs.Made.{word_from}
use Rattle.labels.proofs.words.pack_over.Given as goal

abbrev pub invariant-loop-i : goal.invariant-loop-i
invariant-loop-i l = l.word ≡ word_from l.labels l.n l.old l.i
