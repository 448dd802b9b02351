-- What is read from the bytes is what they decode to, so the round of it is the round of the bytes.
use Rattle.group_calls.proofs.Bulletins.{both_read}
use Rattle.group_calls.proofs.bulletin_calls.both_round.Goals as goal

pub returns : goal.returns
returns c =
    both_read _ _ _ _ c.read_group-stations.ensures _ c.read_bulletins-before.ensures _
    c.sixteen_masks-sixteen.ensures _ c.round.ensures
