-- `labels::words::label_in` meets its contract: a shift by 2 k is a quotient by 4 ^ k, and what is
-- left by 4 fits a byte.
use Rattle.labels.specs.Packing.{label_in}
use Rattle.labels.proofs.Word.{four}
use Rattle.labels.proofs.words.label_in.Goals as goal

pub returns : goal.returns
unfolding label_in
returns c = rw (four c.args.k)
