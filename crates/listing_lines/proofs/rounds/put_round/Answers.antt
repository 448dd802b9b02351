-- `listing_lines::rounds::put_round` puts report after report. The invariant: the texts of the
-- stations below p stand one behind the other.
use Rattle.std.proofs.Common.{◌≡◌, arith}
use Rattle.listing_lines.specs.Reports.{round_text}
use Rattle.listing_lines.proofs.Joined.{joined_none, joined_more}
use Rattle.listing_lines.proofs.rounds.put_round.Goals as goal

pub loop-p-init : goal.loop-p-init
loop-p-init c = (omega arith, joined_none _ _ _)

pub loop-p-preserved : goal.loop-p-preserved
loop-p-preserved c =
    let l = c.loop-p in (
      omega (arith, c.put_report-end.ensures.few),
      joined_more _ l.p c.args.out.now l.out _ 0 l.end _ (omega arith) l.invariant.1 c.put_report-end.ensures.text,
    )

pub returns : goal.returns
unfolding round_text
returns c =
    let all : c.loop-p.p ≡ c.args.n = omega arith in
    rw all at c.loop-p.invariant.1
