use Rattle.std.proofs.Common.{rules, arith, length}
use Rattle.listing_lines.proofs.Placed.{part_length}
use Rattle.listing_spec.proofs.Parts.{put_fits}
use Rattle.relay_listing.proofs.Parts.{passes_none, passes_more, passes_all}
use Rattle.relay_listing.proofs.pass.Goals as goal

pub loop-from-init : goal.loop-from-init
loop-from-init g c = (search rules, search rules, search rules, passes_none _ _)

pub write_front-requires : goal.write_front-requires
write_front-requires g c =
    let fits = put_fits _ _ _ _ c.feed-fed.ensures.lists.put c.feed-fed.auto.out in
    omega (arith, fits, c.feed-fed.auto.out)

pub loop-from-smaller : goal.loop-from-smaller
loop-from-smaller g c =
    let part = c.args.part.now in
    let size = part_length part c.loop-from.from (length part) (omega arith) in
    let some = c.feed-fed.ensures.moves (omega (arith, size)) in
    omega arith

pub loop-from-preserved : goal.loop-from-preserved
loop-from-preserved g c = (
  search rules,
  search rules,
  search rules,
  passes_more _ _ _ _ _ _ _ _ _ _ c.loop-from.invariant.3 c.feed-fed.ensures c.in_ok-write_front.ensures,
)

pub returns-clause-passes : goal.returns-clause-passes
returns-clause-passes g c = passes_all _ _ c.args.part.now c.loop-from.from _ _ (omega arith) c.loop-from.invariant.3
