-- The generator stands before the draws of station p, and the masks of the stations below p stand
-- one behind the other.
use Rattle.std.proofs.Common.{◌≡◌, ◌+◌, ◌*◌, length}
use Rattle.lists.specs.Below.{tabulate}
use Rattle.listing_lines.specs.Lines.{Put}
use Rattle.load_spec.specs.Draws.{steps, mask_draw}
use Rattle.load_spec.specs.Script.{fields}
use Rattle.load.proofs.Generator.put_masks.Given as goal

abbrev pub invariant-loop-p : goal.invariant-loop-p
invariant-loop-p l =
    record {
      whole : length l.out ≡ length l.initial.out;
      drawn : l.self.state ≡ steps (2 * l.p) l.initial.self.state;
      behind : l.end ≡ l.at + 9 * l.p;
      masks : Put l.initial.out l.out l.at l.end (fields (tabulate l.p (mask_draw l.initial.self.state)));
    }
