use Rattle.std.proofs.Common.{◌≡◌, length, ap, ◌∙◌, arith}
use Rattle.std.proofs.lemmas.List.Edits.{sets}
use Rattle.frame_spec.specs.Words.{word_bytes}
use Rattle.bulletin_bytes.specs.Bulletins.{set_bytes}
use Rattle.bulletin_bytes.proofs.Parts.{joined_parts}
use Rattle.bulletin_bytes.proofs.Writing.{bulletins_written}
use Rattle.bulletin_bytes.proofs.put_bulletins.Goals as goal

pub returns : goal.returns
returns c =
    let b = c.args.b in
    let tags : length b.tags ≡ 64 = omega arith in
    let events : length b.events ≡ 64 = omega arith in
    let held : length b.held ≡ 16 = omega arith in
    bulletins_written c.args.bytes.now _ _ _ _ b c.as_byte.result c.as_byte.ensures c.put_word.ensures
    (c.put_all.ensures ∙ ap (sets _ 4) (joined_parts word_bytes 64 b.tags 0 tags))
    (c.put_all-2.ensures ∙ ap (sets _ 260) (joined_parts word_bytes 64 b.events 0 events))
    (c.put_all-3.ensures ∙ ap (sets _ 516) (joined_parts set_bytes 16 b.held 0 held))
