-- `station_encoder::put_body` meets its contract: four bytes and two words, one behind the other.
use Rattle.std.proofs.Common.{ap, ◌∙◌}
use Rattle.frame_spec.specs.Words.{unsigned}
use Rattle.station_encoder.proofs.Writing.{word_cast, body_written}
use Rattle.station_encoder.proofs.put_body.Goals as goal

pub returns : goal.returns
returns c =
    let argument = word_cast c.argument.result _ (record { sfits = c.argument.type_inv }) c.cast_unsigned.ensures in
    body_written _ _ c.args.body _ _ _ _ _ _ _ c.kind.ensures c.channel.ensures c.event.ensures (argument ∙ ap unsigned c.argument.ensures) c.put_four.ensures c.put_word.ensures
    c.put_word-2.ensures
