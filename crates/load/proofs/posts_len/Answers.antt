use Rattle.std.proofs.Common.{◌+◌, arith}
use Rattle.load_spec.proofs.Text.{posts_at_most}
use Rattle.load_spec.proofs.Steps.{steps_none, post_drawn, steps_more, posts_none, length_more}
use Rattle.load.proofs.posts_len.Goals as goal

pub loop-p-init : goal.loop-p-init
loop-p-init c = record { drawn = steps_none c.args.state; counted = rw (posts_none c.args.state) }

pub overflow_add-len : goal.overflow_add-len
overflow_add-len c =
    let l = c.loop-p in
    let s = c.args.state in
    let post = post_drawn l.p s _ _ l.invariant.drawn c.station.ensures.post in
    let more = length_more s l.p _ _ _ post l.invariant.counted c.post_len-len.ensures in
    omega (arith, more, posts_at_most s (l.p + 1))

pub loop-p-preserved : goal.loop-p-preserved
loop-p-preserved c =
    let l = c.loop-p in
    let s = c.args.state in
    let post = post_drawn l.p s _ _ l.invariant.drawn c.station.ensures.post in
    record {
      drawn = steps_more l.p s _ _ l.invariant.drawn c.station.ensures.steps;
      counted = length_more s l.p _ _ _ post l.invariant.counted c.post_len-len.ensures;
    }
