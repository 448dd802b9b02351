-- `listing_lines::rounds::put_aired` puts the line of edit after edit. The invariant: the texts of
-- the row's places below k stand one behind the other.
use Rattle.std.proofs.Common.{◌≡◌, ◌∙◌, arith, ◌&&◌, slice_index_or}
use Rattle.bodies.specs.Body.{is_edit}
use Rattle.queues.specs.Queue.{no_slot}
use Rattle.listing_lines.specs.Reports.{aired_text}
use Rattle.listing_lines.proofs.Joined.{joined_none, joined_more}
use Rattle.listing_lines.proofs.rounds.put_aired.Goals as goal
use Rattle.listing_lines.proofs.rounds.put_aired.Goals.{then-turn, else-turn}

pub loop-k-init : goal.loop-k-init
loop-k-init c = (omega arith, joined_none _ _ _)

pub put_if-end-requires : goal.put_if-end-requires
put_if-end-requires c = omega arith

pub loop-k-preserved : goal.loop-k-preserved
loop-k-preserved c =
    let l = c.loop-k in
    let turn = c.args.turn.now in
    let wanted : c.if-turn.put_if ≡ (turn.aired && is_edit (slice_index_or turn.row l.k no_slot).body) = elim c.if-turn.branch [
      | then-turn w ↦ w.put_if-is ∙ w.is_edit.ensures ∙ rw w.if-turn.true
      | else-turn w ↦ w.put_if-is ∙ rw w.if-turn.false
    ] in (
      omega (arith, c.put_if-end.ensures.few),
      joined_more _ l.k c.args.out.now l.out _ c.args.at l.end _ (omega (arith, c.requires)) l.invariant.1
          (rw wanted at c.put_if-end.ensures.text),
    )

pub returns-clause-text : goal.returns-clause-text
unfolding aired_text
returns-clause-text c =
    let e : c.loop-k.k ≡ c.args.n = omega arith in
    rw e at c.loop-k.invariant.1
