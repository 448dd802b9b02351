use Rattle.std.proofs.Common.{◌∙◌, arith}
use Rattle.records.proofs.Writing.{word_put}
use Rattle.records.proofs.writer.put_word.Goals as goal

pub returns : goal.returns
returns c =
    let a = c.args in
    word_put a.at _ a.word a.bytes.now _ (omega arith) (omega arith) (c.copy_from_slice.ensures.after ∙ c.word_bytes.ensures)
