-- `load::write_round` knows the length of the round before it writes.
use Rattle.std.proofs.Common.{◌≡◌, ◌+◌, ◌*◌, length, arith}
use Rattle.load_spec.specs.Script.{text_of, round_lines}
use Rattle.load_spec.proofs.Text.{length_round, posts_at_most}
use Rattle.load_spec.proofs.Answers.{too_long, written}
use Rattle.load.proofs.write_round.Goals as goal

pub overflow_add-len : goal.overflow_add-len
overflow_add-len c = omega (arith, c.posts_len.ensures, posts_at_most c.args.state c.args.n)

pub overflow_add-len-2 : goal.overflow_add-len-2
overflow_add-len-2 c = omega (arith, c.posts_len.ensures, posts_at_most c.args.state c.args.n)

pub returns-then-out-len : goal.returns-then-out-len
returns-then-out-len c =
    let a = c.args in
    too_long _ a.state _ a.out.now (omega (arith, c.if-out-len.true, c.posts_len.ensures, length_round a.state a.n))

pub put_round-after-requires-clause-room : goal.put_round-after-requires-clause-room
put_round-after-requires-clause-room c =
    omega (arith, c.if-out-len.false, c.posts_len.ensures, length_round c.args.state c.args.n)

pub returns : goal.returns
returns c =
    let a = c.args in
    let posts = c.posts_len in
    let round = c.put_round-after.ensures in
    let size : posts.result + 9 * a.n + 2 ≡ length (text_of (round_lines a.state a.n)) =
    omega (arith, posts.ensures, length_round a.state a.n) in
    written _ a.state _ a.out.now _ _ _ (omega (arith, c.if-out-len.false, size)) size round.after round.lines
