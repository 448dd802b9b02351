-- `listing::ends::close` puts the last line behind what is left.
use Rattle.std.proofs.Common.{arith}
use Rattle.listing_lines.proofs.Placed.{put_more}
use Rattle.listing.proofs.ends.close.Goals as goal

pub returns : goal.returns
returns c = put_more _ _ _ 0 _ _ _ _ (omega arith) c.put_rest-at.ensures.text c.put_end.ensures
