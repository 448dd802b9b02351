use Rattle.std.proofs.Common.{ℕ, ◌*◌, List, set, slice_index, take, sym, ap, ap₂, ◌∙◌, arith}
use Rattle.lists.proofs.Laws.{set_below_more}
use Rattle.bulletins_spec.specs.declared.Shown.{Shown}
use Rattle.bulletins_spec.specs.State.{set_of, notice_at}
use Rattle.bulletins_spec.specs.Order.{picked}
use Rattle.bulletins_spec.specs.Calls.{shown_of, none_shown}
use Rattle.bulletins.specs.Sets.{new_in}
use Rattle.bulletins.proofs.Pushing.{picked_none, none_new, same_set}
use Rattle.bulletins.proofs.showing.all_shown.Goals.{then-b-p, else-b-p}
use Rattle.bulletins.proofs.showing.all_shown.Goals as goal

pub loop-p-preserved : goal.loop-p-preserved
loop-p-preserved c =
    let b = c.args.b.now in
    let p = c.loop-p.p in
    let places = take (4 * b.n) c.args.places.now in
    let news = λ (q : ℕ). new_in (set_of b q) (slice_index c.args.after.now q) in
    let f = λ (q : ℕ). shown_of (picked (news q) (notice_at b) places) in
    elim c.if-b-p.branch [
      | then-b-p w ↦
          w.shown-is ∙ ap₂ (λ (x : List Shown) (y : Shown). set x p y) c.loop-p.invariant w.shown_by.ensures ∙ set_below_more p f none_shown
      | else-b-p w ↦
          w.shown-is
          ∙ c.loop-p.invariant
          ∙ same_set f p (omega arith)
          (ap shown_of (sym (picked_none (news p) (notice_at b) places (λ s. ap (λ (x : ℕ). new_in (set_of b p) x s) (sym w.if-b-p.false) ∙ none_new (set_of b p) s))))
    ]
