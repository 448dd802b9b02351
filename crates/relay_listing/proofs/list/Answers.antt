use Rattle.std.proofs.Common.{arith}
use Rattle.std.proofs.lemmas.Result.{on_ok_weaker}
use Rattle.listing_spec.proofs.Parts.{put_fits}
use Rattle.relay_listing.proofs.Parts.{put_front, lists_finished}
use Rattle.relay_listing.proofs.list.Goals as goal

pub write_front-requires : goal.write_front-requires
write_front-requires g c = omega (arith, put_fits _ _ _ _ c.finish-end.ensures c.finish-end.auto.out, c.finish-end.auto.out)

pub returns : goal.returns
returns g c =
    on_ok_weaker _
    (λ written. lists_finished _ _ _ _ _ _ c.in_ok-reader.ensures.reads (rw (put_front _ _ _ _ c.finish-end.ensures) at written))
    c.write_front.ensures
