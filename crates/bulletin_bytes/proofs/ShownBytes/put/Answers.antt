use Rattle.std.proofs.Common.{◌≡◌, ◌+◌, length, ap, ◌∙◌, arith}
use Rattle.std.proofs.lemmas.List.Edits.{sets}
use Rattle.bulletins_spec.specs.Calls.{no_notice}
use Rattle.bulletin_bytes.specs.Shown.{encode_notice}
use Rattle.bulletin_bytes.proofs.Shown.{length-shown}
use Rattle.bulletin_bytes.proofs.Parts.{joined_parts}
use Rattle.bulletin_bytes.proofs.Writing.{shown_written}
use Rattle.bulletin_bytes.proofs.ShownBytes.put.Goals as goal

pub returns-clause-put : goal.returns-clause-put
returns-clause-put c =
    let a = c.args in
    let x = a.self.now in
    let long : length x.notices ≡ 64 = omega arith in
    shown_written a.bytes.now _ _ a.at x c.as_byte.result c.as_byte.ensures c.put_word.ensures
    (c.put_all.ensures ∙ ap (sets _ (a.at + 4)) (joined_parts encode_notice 64 x.notices no_notice long))

pub returns-clause-wide : goal.returns-clause-wide
returns-clause-wide c = length-shown c.args.self.now
