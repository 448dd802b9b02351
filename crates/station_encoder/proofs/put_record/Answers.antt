-- `station_encoder::put_record` meets its contract: four writes, one behind the other.
use Rattle.std.proofs.Common.{ap, ◌∙◌}
use Rattle.frame_spec.specs.Words.{unsigned}
use Rattle.station_encoder.proofs.Writing.{word_cast, record_written}
use Rattle.station_encoder.proofs.put_record.Goals as goal

pub returns : goal.returns
returns c =
    let argument = word_cast c.argument.result _ (record { sfits = c.argument.type_inv }) c.cast_unsigned.ensures in
    record_written _ _ c.args.r _ _ _ _ _ _ _ _ c.kind.ensures c.channel.ensures c.event.ensures (argument ∙ ap unsigned c.argument.ensures) c.put_four.ensures c.put_word.ensures
    c.put_word-2.ensures c.put_word-3.ensures
