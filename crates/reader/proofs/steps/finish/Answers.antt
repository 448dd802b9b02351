-- `reader::steps::finish` closes the script.
use Rattle.listing_spec.specs.Remaining.{held_by}
use Rattle.listing_spec.proofs.Steps.{at_end}
use Rattle.reader.proofs.steps.finish.Goals as goal

pub returns : goal.returns
returns c = rw (at_end c.args.r.session (held_by c.args.r)) c.close.ensures
