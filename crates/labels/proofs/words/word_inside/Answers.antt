-- `labels::words::word_inside` meets its contract: its test is the one to which `inside_one` takes
-- the definition.
use native.Mathlib.Omega.{arith}
use Rattle.labels.proofs.Word.{inside_one}
use Rattle.labels.proofs.words.word_inside.Goals as goal

pub returns : goal.returns
returns c =
    let a = c.args in
    inside_one a.n a.word c.requires (omega arith)
