-- `labels::words::labels_inside` meets its contract: of the first n labels none has both bits.
use Rattle.labels.proofs.Word.{inside_masked}
use Rattle.labels.proofs.words.labels_inside.Goals as goal

pub returns : goal.returns
returns c =
    let a = c.args in
    rw c.low.ensures (inside_masked a.n a.word c.requires)
