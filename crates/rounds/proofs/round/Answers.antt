use Rattle.rounds.proofs.GroupLengths.{group_lengths}
use Rattle.rounds.proofs.round.Goals as goal

pub play-refusal-requires-clause-shaped : goal.play-refusal-requires-clause-shaped
play-refusal-requires-clause-shaped c = group_lengths c.args.g _ c.well_formed.0
