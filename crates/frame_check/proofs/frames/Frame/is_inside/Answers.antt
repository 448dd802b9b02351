use Rattle.std.proofs.Common.{ℕ, List, sym, ap, ◌∙◌, arith, get_or}
use Rattle.frame_spec.specs.Record.{bytes_inside}
use Rattle.frame_check.proofs.Records.{checked_none, checked_more, checked_all}
use Rattle.frame_check.proofs.frames.Frame.is_inside.Goals as goal

pub loop-k-init : goal.loop-k-init
loop-k-init c = checked_none _ _ _

pub loop-k-preserved : goal.loop-k-preserved
loop-k-preserved c =
    let a = c.args in
    let l = c.loop-k in
    checked_more a.edition a.self.now a.n l.k l.found l.least l.invariant
    (sym (c.record_inside.ensures ∙ ap (bytes_inside a.edition a.n) c.part-part.ensures.part) ∙ c.if-not-record_inside.false)
    _ _ (ap (λ (p : List ℕ). get_or p 0 0) c.part-part.ensures.part) c.sender-sender.ensures (omega arith)

pub returns : goal.returns
returns c =
    let l = c.loop-k in
    checked_all c.args.edition c.args.self.now c.args.n l.k l.found l.least l.invariant (omega arith)
