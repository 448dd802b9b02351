use Rattle.bulletin_bytes.proofs.Parts.{one_put}
use Rattle.bulletin_bytes.proofs.put_all.Goals as goal

pub loop-k-preserved : goal.loop-k-preserved
loop-k-preserved g c =
    one_put g.T.Bytes.encoded g.T.Bytes.WIDTH c.WIDTH.result c.args.bytes.now c.args.at c.args.parts.now c.loop-k.k c.loop-k.bytes _ c.index-parts-k.result
    c.loop-k-test.true c.loop-k.invariant c.index-parts-k.is c.WIDTH.ensures c.put.ensures.put c.put.ensures.wide
