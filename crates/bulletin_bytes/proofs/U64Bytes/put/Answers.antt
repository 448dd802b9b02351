use Rattle.std.proofs.Common.{◌∙◌, arith}
use Rattle.bulletin_bytes.specs.Bulletins.{set_bytes}
use Rattle.bulletin_bytes.proofs.Bulletins.{length_set_bytes}
use Rattle.bulletin_bytes.proofs.Writing.{part_put, set_low_first}
use Rattle.bulletin_bytes.proofs.U64Bytes.put.Goals as goal

pub returns-clause-put : goal.returns-clause-put
returns-clause-put c =
    let a = c.args in
    let x = a.self.now in
    part_put a.at _ a.bytes.now (set_bytes x) _ (omega (arith, length_set_bytes x)) (omega (arith, length_set_bytes x))
    (c.copy_from_slice.ensures.after ∙ c.to_le_bytes.ensures ∙ set_low_first x)
