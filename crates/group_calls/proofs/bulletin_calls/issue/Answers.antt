-- Each return is a case of the definition: no bulletins, the issue's refusal, or the bulletins
-- written over their bytes.
use Rattle.std.proofs.Common.{ℕ, List, sym, ap, arith, ◌∙◌}
use Rattle.bulletins_spec.specs.declared.Bulletins.{Bulletins}
use Rattle.bulletins_spec.specs.declared.IssueDone.{IssueDone}
use Rattle.bulletins_spec.specs.Calls.{issue_call}
use Rattle.bulletin_bytes.specs.Bulletins.{encode_bulletins}
use Rattle.bulletin_bytes.proofs.Bulletins.{length_bulletins}
use Rattle.station_calls.proofs.Returns.{not_judged, over_refused, over_done}
use Rattle.group_calls.specs.Bulletins.{issue_returned}
use Rattle.group_calls.proofs.Bulletins.{bulletins_long}
use Rattle.group_calls.proofs.bulletin_calls.issue.Goals as goal

abbrev refusal : IssueDone → ℕ
refusal x = x.refusal

abbrev encoded : IssueDone → List ℕ
encoded x = encode_bulletins x.bulletins

pub returns-then-not-is_bulletins : goal.returns-then-not-is_bulletins
unfolding issue_returned
returns-then-not-is_bulletins c =
    let h = not_judged _ (sym c.is_bulletins.ensures ∙ c.if-not-is_bulletins.true) _ c.number.ensures _ _ _ in
    record { returned = h.0; written = h.1 }

pub read_bulletins-before-requires : goal.read_bulletins-before-requires
read_bulletins-before-requires c = omega (arith, bulletins_long _ (sym c.is_bulletins.ensures ∙ c.if-not-is_bulletins.false))

pub returns-then-issued-ne-DONE : goal.returns-then-issued-ne-DONE
unfolding issue_returned
returns-then-issued-ne-DONE c =
    let s = c.args in
    let answered = c.issue-issued.ensures ∙ ap (λ (x : Bulletins). issue_call x s.issuer s.tag s.event) c.read_bulletins-before.ensures in
    let h = over_refused refusal encoded _ _ answered _ (sym c.is_bulletins.ensures ∙ c.if-not-is_bulletins.false) _ c.if-issued-ne-DONE.true in
    record { returned = h.0; written = h.1 }

pub put_bulletins-requires : goal.put_bulletins-requires
put_bulletins-requires c = omega (arith, bulletins_long _ (sym c.is_bulletins.ensures ∙ c.if-not-is_bulletins.false))

pub returns : goal.returns
unfolding issue_returned
returns c =
    let s = c.args in
    let answered = c.issue-issued.ensures ∙ ap (λ (x : Bulletins). issue_call x s.issuer s.tag s.event) c.read_bulletins-before.ensures in
    let judged = sym c.is_bulletins.ensures ∙ c.if-not-is_bulletins.false in
    let h =
    over_done refusal encoded _ _ answered _ judged _ c.if-issued-ne-DONE.false (length_bulletins _ ∙ sym (bulletins_long _ judged)) _
    c.put_bulletins.ensures in
    record { returned = h.0; written = h.1 }
