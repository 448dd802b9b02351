-- The generator stands before the draws of station p, and the posts of the stations below p stand
-- one behind the other.
use Rattle.std.proofs.Common.{◌≡◌, ◌*◌, length}
use Rattle.listing_lines.specs.Lines.{Put}
use Rattle.load_spec.specs.Draws.{steps}
use Rattle.load_spec.specs.Script.{text_of, post_lines}
use Rattle.load.proofs.put_posts.Given as goal

abbrev pub invariant-loop-p : goal.invariant-loop-p
invariant-loop-p l =
    record {
      whole : length l.out ≡ length l.initial.out;
      drawn : l.generator.state ≡ steps (2 * l.p) l.state;
      lines : Put l.initial.out l.out 0 l.end (text_of (post_lines l.state l.p));
    }
