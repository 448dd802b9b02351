use Rattle.std.proofs.Common.{sym, refl, arith}
use Rattle.load_spec.proofs.Text.{length_size}
use Rattle.load_spec.proofs.Answers.{too_long, written}
use Rattle.load.proofs.write_size.Goals as goal

pub returns-then-out-lt-SIZE_LEN : goal.returns-then-out-lt-SIZE_LEN
returns-then-out-lt-SIZE_LEN c =
    let a = c.args in too_long _ a.state _ a.out.now (omega (arith, length_size a.n))

pub returns : goal.returns
returns c =
    let a = c.args in
    written _ a.state _ a.out.now _ 11 a.state (omega (arith, length_size a.n)) (sym (length_size a.n)) refl
    c.put_size.ensures
