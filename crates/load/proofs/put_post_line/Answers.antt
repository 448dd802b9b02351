-- The letter, four numbers and the line end stand one behind the other.
use Rattle.std.proofs.Common.{◌+◌, ◌<◌, length, arith, length-set}
use Rattle.listing_lines.proofs.Placed.{put_more}
use Rattle.load_spec.specs.Script.{post_line}
use Rattle.load.proofs.Lines.{put_byte, line_made, four_fields}
use Rattle.load.proofs.put_post_line.Goals as goal

pub put_field-event-requires : goal.put_field-event-requires
put_field-event-requires c =
    let field = c.put_field-kind in
    omega (arith, c.requires, field.ensures.behind, simp length-set at field.auto.out)

pub put_field-start-requires : goal.put_field-start-requires
put_field-start-requires c =
    let field = c.put_field-kind in
    let second = c.put_field-event in
    omega (arith, c.requires, field.ensures.behind, simp length-set at field.auto.out, second.ensures.behind, second.auto.out)

pub put_field-end-requires : goal.put_field-end-requires
put_field-end-requires c =
    let field = c.put_field-kind in
    let second = c.put_field-event in
    let third = c.put_field-start in
    omega (
      arith,
      c.requires,
      field.ensures.behind,
      simp length-set at field.auto.out,
      second.ensures.behind,
      second.auto.out,
      third.ensures.behind,
      third.auto.out,
    )

pub bounds-out-end : goal.bounds-out-end
bounds-out-end c =
    let field = c.put_field-kind in
    let second = c.put_field-event in
    let third = c.put_field-start in
    let fourth = c.put_field-end in
    omega (
      arith,
      c.requires,
      field.ensures.behind,
      simp length-set at field.auto.out,
      second.ensures.behind,
      second.auto.out,
      third.ensures.behind,
      third.auto.out,
      fourth.ensures.behind,
      fourth.auto.out,
    )

pub shape_of-out : goal.shape_of-out
shape_of-out c =
    let put_field2 = c.put_field-event in
    let field = c.put_field-kind in
    simp length-set
    (omega (
      arith,
      simp length-set at field.auto.out,
      put_field2.auto.out,
      c.put_field-start.auto.out,
      c.put_field-end.auto.out,
    ))

pub returns : goal.returns
unfolding post_line
returns c =
    let a = c.args in
    let field = c.put_field-kind in
    let second = c.put_field-event in
    let third = c.put_field-start in
    let fourth = c.put_field-end in
    let size = simp length-set at field.auto.out in
    let inside : a.at < length a.out.now = omega (arith, c.requires) in
    let room : fourth.result < length fourth.new.out =
    omega (
      arith,
      c.requires,
      field.ensures.behind,
      size,
      second.ensures.behind,
      second.auto.out,
      third.ensures.behind,
      third.auto.out,
      fourth.ensures.behind,
      fourth.auto.out,
    ) in
    let two = put_more _ _ _ (a.at + 1) _ _ _ _ (simp length-set (omega (arith, c.requires))) field.ensures.digits second.ensures.digits in
    let three = put_more _ _ _ (a.at + 1) _ _ _ _ (simp length-set (omega (arith, c.requires))) two third.ensures.digits in
    let four = put_more _ _ _ (a.at + 1) _ _ _ _ (simp length-set (omega (arith, c.requires))) three fourth.ensures.digits in
    line_made a.out.now _ _ _ a.at (a.at + 1) _ _ 80 (omega (arith, c.requires)) (put_byte _ a.at 80 inside) _
    (rw (four_fields a.station 2 (a.draw + 1) a.draw) at four) (put_byte _ _ 10 room)

pub put_field-kind-requires : goal.put_field-kind-requires
put_field-kind-requires c = simp length-set (omega arith)
