use Rattle.std.proofs.Common.{sym, ◌∙◌, arith}
use Rattle.air_logs.proofs.Logs.{both_end, first_ends, second_ends, edits_differ, edits_same}
use Rattle.air_logs.proofs.compare_logs.Goals as goal

pub returns-in_default-next : goal.returns-in_default-next
returns-in_default-next c =
    let l = c.loop-one in
    let one = c.in-Some.ensures.line in
    sym (sym l.invariant.same ∙ second_ends l.position _ _ _ _ one.log c.in_default-next.ensures.none)

pub returns-then-not-same_edit : goal.returns-then-not-same_edit
returns-then-not-same_edit c =
    let l = c.loop-one in
    let one = c.in-Some.ensures.line in
    let other = c.in-Some-next.ensures.line in
    sym
    (sym l.invariant.same
    ∙ edits_differ l.position _ _ _ _ one.log _ _ other.log (sym c.same_edit.ensures ∙ c.if-not-same_edit.true))

pub loop-one-preserved : goal.loop-one-preserved
loop-one-preserved c =
    let l = c.loop-one in
    let one = c.in-Some.ensures.line in
    let other = c.in-Some-next.ensures.line in
    record {
      counted = omega (arith, l.invariant.counted, one.shorter);
      same =
          rw (c.next.ensures.station, c.next-in-Some.ensures.station)
          (sym (edits_same l.position _ _ _ _ one.log _ _ other.log (sym c.same_edit.ensures ∙ c.if-not-same_edit.false)) ∙ l.invariant.same);
    }

pub returns-in-None : goal.returns-in-None
returns-in-None c =
    let l = c.loop-one in
    sym (sym l.invariant.same ∙ both_end l.position _ _ c.in_default.ensures.none c.in-None.ensures.none)

pub returns-in-Some-next-2 : goal.returns-in-Some-next-2
returns-in-Some-next-2 c =
    let l = c.loop-one in
    let other = c.in-Some-next-2.ensures.line in
    sym (sym l.invariant.same ∙ first_ends l.position _ _ _ _ other.log c.in_default.ensures.none)
