use Rattle.std.proofs.Common.{◌≡◌, take}
use Rattle.bulletins_spec.specs.State.{notice_at}
use Rattle.bulletins_spec.specs.Order.{picked}
use Rattle.bulletins_spec.specs.Calls.{shown_of}
use Rattle.bulletins.specs.Sets.{new_in}
use Rattle.bulletins.proofs.showing.shown_by.Given as goal

abbrev pub invariant-loop-s : goal.invariant-loop-s
invariant-loop-s l = l.shown ≡ shown_of (picked (new_in l.before l.after) (notice_at l.b) (take l.s-index l.s-items))
