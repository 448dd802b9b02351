-- `group::try_post` meets its contract, refusal by refusal; then the station has the post.
use Rattle.std.proofs.Common.{◌∙◌, set, ap, refl, sym, arith}
use Rattle.group_spec.specs.declared.GroupAnswer.{GroupAnswer}
use Rattle.group_spec.proofs.Members.{group_high}
use Rattle.group_spec.proofs.CallSteps.{post_outside, post_nobody, post_there}
use Rattle.group.proofs.try_post.Goals as goal

pub returns-then-not-group_inside : goal.returns-then-not-group_inside
returns-then-not-group_inside c =
    let e = post_outside c.args.g.now c.args.post (sym c.group_inside.ensures ∙ c.if-not-group_inside.true) in
    record { refusal = ap (λ (a : GroupAnswer). a.refusal) e; group = ap (λ (a : GroupAnswer). a.group) e }

pub returns-then-g-post : goal.returns-then-g-post
returns-then-g-post c =
    let e = post_nobody c.args.g.now c.args.post (sym c.group_inside.ensures ∙ c.if-not-group_inside.false) c.if-g-post.true in
    record { refusal = ap (λ (a : GroupAnswer). a.refusal) e; group = ap (λ (a : GroupAnswer). a.group) e }

pub offset_bounds-g-post : goal.offset_bounds-g-post
offset_bounds-g-post c = omega (arith, group_high c.args.g.now (sym c.group_inside.ensures ∙ c.if-not-group_inside.false))

pub bounds-g-post : goal.bounds-g-post
bounds-g-post c = omega (arith, group_high c.args.g.now (sym c.group_inside.ensures ∙ c.if-not-group_inside.false))

pub returns : goal.returns
returns c =
    let g = c.args.g.now in
    let e = post_there g c.args.post (sym c.group_inside.ensures ∙ c.if-not-group_inside.false) c.if-g-post.false _ refl in
    record {
      refusal = c.post_in_place.ensures.refusal ∙ ap (λ (a : GroupAnswer). a.refusal) e;
      group = ap (set g c.args.post.station) c.post_in_place.ensures.station ∙ ap (λ (a : GroupAnswer). a.group) e;
    }
