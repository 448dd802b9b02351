-- There is room for the posts, the letter, the masks and the line end, one behind the other.
use Rattle.std.proofs.Common.{◌<◌, length, arith, length-set}
use Rattle.load_spec.proofs.Text.{length_round}
use Rattle.load.proofs.Lines.{put_byte, round_made}
use Rattle.load.proofs.put_round.Goals as goal

pub put_posts-at-requires : goal.put_posts-at-requires
put_posts-at-requires c = omega (arith, c.requires.room, length_round c.args.state c.args.n)

pub bounds-out-at : goal.bounds-out-at
bounds-out-at c =
    let posts = c.put_posts-at in
    omega (arith, c.requires.room, length_round c.args.state c.args.n, posts.ensures.behind, posts.auto.out)

pub overflow_add-at : goal.overflow_add-at
overflow_add-at c =
    let posts = c.put_posts-at in
    record { fits = omega (arith, c.requires.room, length_round c.args.state c.args.n, posts.ensures.behind, c.well_formed.0) }

pub put_masks-last-requires-clause-room : goal.put_masks-last-requires-clause-room
put_masks-last-requires-clause-room c =
    let posts = c.put_posts-at in
    simp length-set (omega (arith, c.requires.room, length_round c.args.state c.args.n, posts.ensures.behind, posts.auto.out))

pub bounds-out-last : goal.bounds-out-last
bounds-out-last c =
    let posts = c.put_posts-at in
    let masks = c.put_masks-last in
    omega (
      arith,
      c.requires.room,
      length_round c.args.state c.args.n,
      posts.ensures.behind,
      posts.auto.out,
      masks.ensures.behind,
      simp length-set at masks.auto.out,
    )

pub returns-clause-lines : goal.returns-clause-lines
returns-clause-lines c =
    let a = c.args in
    let posts = c.put_posts-at in
    let masks = c.put_masks-last in
    let size = length_round a.state a.n in
    let inside : posts.result < length posts.new.out = omega (arith, c.requires.room, size, posts.ensures.behind, posts.auto.out) in
    let room : masks.result < length masks.new.out =
    omega (arith, c.requires.room, size, posts.ensures.behind, posts.auto.out, masks.ensures.behind, simp length-set at masks.auto.out) in
    round_made a.state a.n a.out.now posts.new.out _ masks.new.out _ posts.result masks.result (omega arith) posts.ensures
    (put_byte _ posts.result 82 inside) masks.ensures.masks (put_byte _ _ 10 room)
