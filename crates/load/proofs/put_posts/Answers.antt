use Rattle.std.proofs.Common.{◌≡◌, ◌+◌, length, refl, ◌∙◌, arith}
use Rattle.load_spec.specs.Script.{text_of, post_lines}
use Rattle.load_spec.proofs.Steps.{steps_none, post_drawn, steps_more, length_more, length_grows}
use Rattle.load.proofs.Lines.{posts_put_none, posts_put_more}
use Rattle.load.proofs.put_posts.Goals as goal

pub loop-p-init : goal.loop-p-init
loop-p-init c =
    let a = c.args in
    record { whole = refl; drawn = steps_none a.state; lines = posts_put_none a.state a.out.now }

pub put_post-end-requires : goal.put_post-end-requires
put_post-end-requires c =
    let a = c.args in
    let l = c.loop-p in
    let post = post_drawn l.p a.state _ _ l.invariant.drawn c.station.ensures.post in
    let behind : l.end ≡ length (text_of (post_lines a.state l.p)) = omega (arith, l.invariant.lines.behind) in
    let more = length_more a.state l.p _ l.end _ post behind refl in
    omega (arith, more, length_grows a.state (l.p + 1) a.n (omega arith), c.requires, l.invariant.whole)

pub loop-p-preserved : goal.loop-p-preserved
loop-p-preserved c =
    let a = c.args in
    let l = c.loop-p in
    let post = post_drawn l.p a.state _ _ l.invariant.drawn c.station.ensures.post in
    record {
      whole = c.put_post-end.auto.out ∙ l.invariant.whole;
      drawn = steps_more l.p a.state _ _ l.invariant.drawn c.station.ensures.steps;
      lines = posts_put_more a.state l.p _ a.out.now l.out _ l.end _ post l.invariant.lines c.put_post-end.ensures;
    }

pub shape_of-out : goal.shape_of-out
shape_of-out c = c.loop-p.invariant.whole
