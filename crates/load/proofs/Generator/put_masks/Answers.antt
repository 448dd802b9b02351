use Rattle.std.proofs.Common.{◌≡◌, refl, ◌∙◌, arith}
use Rattle.load_spec.specs.Draws.{after_round}
use Rattle.load_spec.proofs.Steps.{steps_none, mask_drawn, steps_more}
use Rattle.load.proofs.Lines.{masks_put_none, masks_put_more}
use Rattle.load.proofs.Generator.put_masks.Goals as goal

pub loop-p-init : goal.loop-p-init
loop-p-init c =
    let a = c.args in
    record {
      whole = refl;
      drawn = steps_none a.self.now.state;
      behind = omega arith;
      masks = masks_put_none a.self.now.state a.out.now a.at;
    }

pub put_field-end-requires : goal.put_field-end-requires
put_field-end-requires c =
    let l = c.loop-p in omega (arith, c.requires.room, l.invariant.behind, l.invariant.whole)

pub loop-p-preserved : goal.loop-p-preserved
loop-p-preserved c =
    let a = c.args in
    let l = c.loop-p in
    let s = a.self.now.state in
    let field = c.put_field-end in
    let station = c.station.ensures in
    let mask = mask_drawn l.p s _ _ _ l.invariant.drawn station.steps station.mask in
    record {
      whole = field.auto.out ∙ l.invariant.whole;
      drawn = steps_more l.p s _ _ l.invariant.drawn station.steps;
      behind = omega (arith, field.ensures.behind, l.invariant.behind);
      masks =
          masks_put_more s l.p _ a.out.now l.out _ a.at l.end _ (omega (arith, c.requires.room)) mask l.invariant.masks
          field.ensures.digits;
    }

pub returns-clause-masks : goal.returns-clause-masks
returns-clause-masks c = let all : c.loop-p.p ≡ c.args.n = omega arith in rw all at c.loop-p.invariant.masks

pub returns-clause-after : goal.returns-clause-after
unfolding after_round
returns-clause-after c = let all : c.loop-p.p ≡ c.args.n = omega arith in rw all at c.loop-p.invariant.drawn
