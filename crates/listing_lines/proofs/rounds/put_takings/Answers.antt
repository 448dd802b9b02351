-- `listing_lines::rounds::put_takings` puts the line of taking after taking. The invariant: the
-- texts of the takings below k stand one behind the other.
use Rattle.std.proofs.Common.{◌≡◌, arith}
use Rattle.listing_lines.specs.Reports.{taken_text}
use Rattle.listing_lines.proofs.Joined.{joined_none, joined_more}
use Rattle.listing_lines.proofs.rounds.put_takings.Goals as goal

pub loop-k-init : goal.loop-k-init
loop-k-init c = (omega arith, joined_none _ _ _)

pub put_if-end-requires : goal.put_if-end-requires
put_if-end-requires c = omega arith

pub loop-k-preserved : goal.loop-k-preserved
loop-k-preserved c =
    let l = c.loop-k in (
      omega (arith, c.put_if-end.ensures.few),
      joined_more _ l.k c.args.out.now l.out _ c.args.at l.end _ (omega (arith, c.requires)) l.invariant.1 c.put_if-end.ensures.text,
    )

pub returns-clause-text : goal.returns-clause-text
unfolding taken_text
returns-clause-text c =
    let e : c.loop-k.k ≡ 30 = omega arith in
    rw e at c.loop-k.invariant.1
