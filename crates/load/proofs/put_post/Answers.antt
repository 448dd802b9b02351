use Rattle.std.proofs.Common.{sym, ◌∙◌, arith}
use Rattle.listing_lines.proofs.Placed.{put_none}
use Rattle.load_spec.specs.Script.{text_of}
use Rattle.load_spec.proofs.Text.{length_post}
use Rattle.load.proofs.put_post.Goals as goal

pub put_post_line-requires : goal.put_post_line-requires
put_post_line-requires c =
    let a = c.args in
    let posting = sym c.posts.ensures ∙ c.if-posts.true in
    omega (arith, rw posting at c.requires, length_post a.station a.draw)

pub returns-else-posts : goal.returns-else-posts
unfolding text_of
returns-else-posts c = let silent = sym c.posts.ensures ∙ c.if-posts.false in rw silent (put_none _ _)
