-- The generator stands before the draws of station p, and the posts of the stations below p are
-- counted.
use Rattle.std.proofs.Common.{◌≡◌, ◌*◌, length}
use Rattle.load_spec.specs.Draws.{steps}
use Rattle.load_spec.specs.Script.{text_of, post_lines}
use Rattle.load.proofs.posts_len.Given as goal

abbrev pub invariant-loop-p : goal.invariant-loop-p
invariant-loop-p l =
    record {
      drawn : l.generator.state ≡ steps (2 * l.p) l.state;
      counted : l.len ≡ length (text_of (post_lines l.state l.p));
    }
