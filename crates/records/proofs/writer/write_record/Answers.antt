use Rattle.std.proofs.Common.{ap, ◌∙◌}
use mir.Syntax.{w32}
use mir.ValLaws.{to_z-of_z}
use Rattle.frame_spec.specs.Words.{word_bytes, unsigned}
use Rattle.records.proofs.Writing.{record_made}
use Rattle.records.proofs.writer.write_record.Goals as goal

pub returns : goal.returns
returns c =
    c.copy_from_slice.ensures.after
    ∙ record_made c.args.n c.args.from _ _ _ _ _
    c.kind-kind.ensures
    c.channel-channel.ensures
    (c.word_bytes.ensures ∙ ap word_bytes c.event.ensures)
    (c.word_bytes-2.ensures ∙ ap word_bytes (c.unsigned.ensures ∙ ap unsigned (to_z-of_z w32 _ (record { sfits = c.argument.type_inv }) ∙ c.argument.ensures)))
    (c.word_bytes-3.ensures ∙ ap word_bytes c.over.ensures)
