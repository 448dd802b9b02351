-- The letter, the number and the line end stand one behind the other.
use Rattle.std.proofs.Common.{◌<◌, length, arith, length-set}
use Rattle.load_spec.specs.Script.{size_line}
use Rattle.load.proofs.Lines.{put_byte, line_made, one_field}
use Rattle.load.proofs.put_size.Goals as goal

pub bounds-out-end : goal.bounds-out-end
bounds-out-end c =
    let field = c.put_field-end in
    omega (arith, c.requires, field.ensures.behind, simp length-set at field.auto.out)

pub shape_of-out : goal.shape_of-out
shape_of-out c = simp length-set (simp length-set at c.put_field-end.auto.out)

pub returns : goal.returns
unfolding size_line
returns c =
    let a = c.args in
    let field = c.put_field-end in
    let inside : 0 < length a.out.now = omega (arith, c.requires) in
    let room : field.result < length field.new.out =
    omega (arith, c.requires, field.ensures.behind, simp length-set at field.auto.out) in
    (line_made a.out.now _ _ _ 0 1 _ _ 78 (omega arith) (put_byte _ 0 78 inside) _
    (rw (one_field a.n) at field.ensures.digits) (put_byte _ _ 10 room)).holds

pub put_field-end-requires : goal.put_field-end-requires
put_field-end-requires c = simp length-set (omega arith)
