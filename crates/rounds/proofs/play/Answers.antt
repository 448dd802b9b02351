-- `rounds::play` meets its contract. First the frames: those of the stations below k stand, where
-- none of them is refused. Then the stations hear, and those below j have heard. Then each acts and
-- takes its turn, and those below i have. The lemmas of `RoundLoop` say what one more station does
-- in each loop.
use Rattle.std.proofs.Common.{◌+◌, ◌-◌, ◌*◌, ◌<◌, ◌≡◌, refl, sym, ap, ◌∙◌, arith}
use Rattle.bodies.specs.Refusals.{number_of}
use Rattle.station_spec.proofs.CallSteps.{valid_parts}
use Rattle.group_spec.specs.State.{size_of}
use Rattle.group_spec.specs.declared.Report.{Report}
use Rattle.group_spec.specs.Calls.{no_report}
use Rattle.group_spec.proofs.CallSteps.{round_outside}
use Rattle.rounds.specs.Frames.{worse}
use Rattle.rounds.proofs.WrittenFrames.{sent_none, sent_more}
use Rattle.rounds.proofs.RoundSteps.{size_outside, round_judged}
use Rattle.rounds.proofs.RoundLoop.{in_parts, begun_sent, turning_blank, listening_hears, listening_next, listening_stopped, turning_none, turning_size, turning_turns, turning_more, may_turn_all, turning_done}
use Rattle.rounds.proofs.play.Goals as goal

pub returns-then-not-valid_number : goal.returns-then-not-valid_number
returns-then-not-valid_number c =
    let g = c.args.group.now in
    let p = in_parts 2 g _ _ (round_outside g c.args.masks.now (size_outside g (sym c.valid_number.ensures ∙ c.if-not-valid_number.true))) in
    record { refusal = c.number.ensures ∙ p.0; group = p.1; reports = c.requires.blank ∙ p.2 }

-- ---- the frames

pub loop-k-init : goal.loop-k-init
loop-k-init c = sent_none c.args.group.now _ refl

pub loop-k-preserved : goal.loop-k-preserved
loop-k-preserved c =
    let g = c.args.group.now in
    let m = c.args.masks.now in
    let valid = sym c.valid_number.ensures ∙ c.if-not-valid_number.false in
    let l = c.loop-k in
    let sent = c.send-sent.ensures in
    sent_more g l.k (omega (arith, (valid_parts (size_of g) 0 valid).1)) _ l.bytes l.invariant _ sent.bytes _
    (c.worse-judged.ensures ∙ ap (worse (number_of l.judged)) sent.refusal)

pub returns-then-refusal-ne-NOT_REFUSED : goal.returns-then-refusal-ne-NOT_REFUSED
returns-then-refusal-ne-NOT_REFUSED c =
    let g = c.args.group.now in
    let valid = sym c.valid_number.ensures ∙ c.if-not-valid_number.false in
    let l = c.loop-k in
    let judged = c.number_of-refusal.ensures ∙ l.invariant.judged in
    let p =
    in_parts c.number_of-refusal.result g _ _
    (round_judged g c.args.masks.now l.k _ (omega arith) (valid_parts (size_of g) 0 valid).0 judged c.if-refusal-ne-NOT_REFUSED.true) in
    record { refusal = p.0; group = p.1; reports = c.requires.blank ∙ p.2 }

-- ---- hearing

pub listen-heard-requires-clause-listens : goal.listen-heard-requires-clause-listens
listen-heard-requires-clause-listens c =
    let g = c.args.group.now in
    let m = c.args.masks.now in
    let valid = sym c.valid_number.ensures ∙ c.if-not-valid_number.false in
    let begun = begun_sent g _ _ c.loop-k.bytes c.loop-k.invariant (omega arith) valid (sym c.number_of-refusal.ensures ∙ c.if-refusal-ne-NOT_REFUSED.false) c.requires.shaped in
    (listening_hears g m no_report c.loop-k.bytes begun c.loop-j.j (omega arith)).0

pub listen-heard-requires-clause-frames : goal.listen-heard-requires-clause-frames
listen-heard-requires-clause-frames c =
    let g = c.args.group.now in
    let m = c.args.masks.now in
    let valid = sym c.valid_number.ensures ∙ c.if-not-valid_number.false in
    let begun = begun_sent g _ _ c.loop-k.bytes c.loop-k.invariant (omega arith) valid (sym c.number_of-refusal.ensures ∙ c.if-refusal-ne-NOT_REFUSED.false) c.requires.shaped in
    (listening_hears g m no_report c.loop-k.bytes begun c.loop-j.j (omega arith)).1

pub returns-then-heard-ne-NOT_REFUSED : goal.returns-then-heard-ne-NOT_REFUSED
returns-then-heard-ne-NOT_REFUSED c =
    let g = c.args.group.now in
    let m = c.args.masks.now in
    let valid = sym c.valid_number.ensures ∙ c.if-not-valid_number.false in
    let begun = begun_sent g _ _ c.loop-k.bytes c.loop-k.invariant (omega arith) valid (sym c.number_of-refusal.ensures ∙ c.if-refusal-ne-NOT_REFUSED.false) c.requires.shaped in
    let j = c.loop-j.j in
    let low : j < 16 = omega (arith, (valid_parts (size_of g) 0 valid).1) in
    let below : j < size_of g = omega arith in
    let h = c.listen-heard in
    let p =
    in_parts h.result.refusal g _ _
    (listening_stopped g m no_report c.loop-k.bytes begun _ _ _ j c.loop-j.invariant low below _ _ h.result h.ensures c.if-heard-ne-NOT_REFUSED.true) in
    record { refusal = p.0; group = p.1; reports = c.requires.blank ∙ p.2 }

pub loop-j-preserved : goal.loop-j-preserved
loop-j-preserved c =
    let g = c.args.group.now in
    let m = c.args.masks.now in
    let valid = sym c.valid_number.ensures ∙ c.if-not-valid_number.false in
    let begun = begun_sent g _ _ c.loop-k.bytes c.loop-k.invariant (omega arith) valid (sym c.number_of-refusal.ensures ∙ c.if-refusal-ne-NOT_REFUSED.false) c.requires.shaped in
    let j = c.loop-j.j in
    let low : j < 16 = omega (arith, (valid_parts (size_of g) 0 valid).1) in
    let below : j < size_of g = omega arith in
    let h = c.listen-heard in
    listening_next g m no_report c.loop-k.bytes begun _ _ _ j c.loop-j.invariant low below _ _ h.result h.ensures c.if-heard-ne-NOT_REFUSED.false _ _
    (omega arith) (omega arith)

-- ---- the turns

pub loop-i-init : goal.loop-i-init
loop-i-init c = turning_none _ _ _ _ _ _

pub act_and_turn-requires-clause-size : goal.act_and_turn-requires-clause-size
act_and_turn-requires-clause-size c =
    let g = c.args.group.now in
    let m = c.args.masks.now in
    let valid = sym c.valid_number.ensures ∙ c.if-not-valid_number.false in
    let begun = begun_sent g _ _ c.loop-k.bytes c.loop-k.invariant (omega arith) valid (sym c.number_of-refusal.ensures ∙ c.if-refusal-ne-NOT_REFUSED.false) c.requires.shaped in
    let l = c.loop-i in
    let all : c.loop-j.j ≡ size_of g = omega arith in
    let heard = rw all at c.loop-j.invariant in
    let may = may_turn_all g m no_report c.loop-k.bytes begun c.loop-j.ears c.loop-j.places c.loop-j.taken (size_of g) refl heard in
    turning_size g c.loop-k.bytes c.loop-j.ears c.loop-j.places c.loop-j.taken _ l.group l.reports l.i l.invariant (may.size l.i (omega arith))

pub act_and_turn-requires-clause-inside : goal.act_and_turn-requires-clause-inside
act_and_turn-requires-clause-inside c =
    let g = c.args.group.now in
    let m = c.args.masks.now in
    let valid = sym c.valid_number.ensures ∙ c.if-not-valid_number.false in
    let begun = begun_sent g _ _ c.loop-k.bytes c.loop-k.invariant (omega arith) valid (sym c.number_of-refusal.ensures ∙ c.if-refusal-ne-NOT_REFUSED.false) c.requires.shaped in
    let l = c.loop-i in
    let all : c.loop-j.j ≡ size_of g = omega arith in
    let heard = rw all at c.loop-j.invariant in
    let may = may_turn_all g m no_report c.loop-k.bytes begun c.loop-j.ears c.loop-j.places c.loop-j.taken (size_of g) refl heard in
    let e16 : 16 * l.i + 16 - 16 * l.i ≡ 16 = omega arith in
    let e30 : 30 * l.i + 30 - 30 * l.i ≡ 30 = omega arith in
    rw (e16, e30)
    (turning_turns g c.loop-k.bytes c.loop-j.ears c.loop-j.places c.loop-j.taken _ l.group l.reports l.i l.invariant _ refl (may.inside l.i (omega arith)))

pub act_and_turn-requires-clause-blank : goal.act_and_turn-requires-clause-blank
unfolding no_report
act_and_turn-requires-clause-blank c =
    let g = c.args.group.now in
    let m = c.args.masks.now in
    let valid = sym c.valid_number.ensures ∙ c.if-not-valid_number.false in
    ap (λ (r : Report). r.takings) (turning_blank g _ _ _ _ _ _ _ c.loop-i.i _ (omega (arith, (valid_parts (size_of g) 0 valid).1)) c.requires.blank c.loop-i.invariant)

pub loop-i-preserved : goal.loop-i-preserved
loop-i-preserved c =
    let g = c.args.group.now in
    let m = c.args.masks.now in
    let valid = sym c.valid_number.ensures ∙ c.if-not-valid_number.false in
    let begun = begun_sent g _ _ c.loop-k.bytes c.loop-k.invariant (omega arith) valid (sym c.number_of-refusal.ensures ∙ c.if-refusal-ne-NOT_REFUSED.false) c.requires.shaped in
    let l = c.loop-i in
    let all : c.loop-j.j ≡ size_of g = omega arith in
    let heard = rw all at c.loop-j.invariant in
    let may = may_turn_all g m no_report c.loop-k.bytes begun c.loop-j.ears c.loop-j.places c.loop-j.taken (size_of g) refl heard in
    let e16 : 16 * l.i + 16 - 16 * l.i ≡ 16 = omega arith in
    let e30 : 30 * l.i + 30 - 30 * l.i ≡ 30 = omega arith in
    let done = c.act_and_turn in
    let station = rw (e16, e30) at done.ensures.station in
    let report = rw (e16, e30) at done.ensures.report in
    turning_more g c.loop-k.bytes c.loop-j.ears c.loop-j.places c.loop-j.taken _ l.group l.reports l.i l.invariant _ refl done.new.s station done.new.report report

pub returns : goal.returns
returns c =
    let g = c.args.group.now in
    let m = c.args.masks.now in
    let valid = sym c.valid_number.ensures ∙ c.if-not-valid_number.false in
    let begun = begun_sent g _ _ c.loop-k.bytes c.loop-k.invariant (omega arith) valid (sym c.number_of-refusal.ensures ∙ c.if-refusal-ne-NOT_REFUSED.false) c.requires.shaped in
    let l = c.loop-i in
    let all : c.loop-j.j ≡ size_of g = omega arith in
    let heard = rw all at c.loop-j.invariant in
    let may = may_turn_all g m no_report c.loop-k.bytes begun c.loop-j.ears c.loop-j.places c.loop-j.taken (size_of g) refl heard in
    let p =
    in_parts 0 l.group l.reports _
    (turning_done g m no_report c.loop-k.bytes begun c.loop-j.ears c.loop-j.places c.loop-j.taken (size_of g) refl heard l.group l.reports l.i
    (rw c.requires.blank at l.invariant) (omega arith)) in
    record { refusal = p.0; group = p.1; reports = p.2 }
