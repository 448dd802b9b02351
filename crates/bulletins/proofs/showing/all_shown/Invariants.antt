use Rattle.std.proofs.Common.{◌≡◌, ◌*◌, slice_index, take}
use Rattle.lists.specs.Below.{set_below}
use Rattle.bulletins_spec.specs.State.{set_of, notice_at}
use Rattle.bulletins_spec.specs.Order.{picked}
use Rattle.bulletins_spec.specs.Calls.{shown_of, none_shown}
use Rattle.bulletins.specs.Sets.{new_in}
use Rattle.bulletins.proofs.showing.all_shown.Given as goal

abbrev pub invariant-loop-p : goal.invariant-loop-p
invariant-loop-p l = l.shown ≡ set_below l.p
    (λ q. shown_of (picked (new_in (set_of l.b q) (slice_index l.after q)) (notice_at l.b) (take (4 * l.b.n) l.places))) none_shown
