-- `reader::feed` reads line after line: what is in the buffer and what is still to be listed make
-- up the same.
use Rattle.std.proofs.Common.{◌≡◌, ◌+◌, ◌-◌, ◌≤◌, ◌<◌, refl, arith, rules, length}
use Rattle.listing_lines.proofs.Placed.{part_length, put-length}
use Rattle.listing_spec.proofs.Parts.{put_fits, put_tail, listed_none, listed_held, listed_line, fed_by}
use Rattle.reader.proofs.feed.Goals as goal

pub loop-out-init : goal.loop-out-init
loop-out-init c =
    let long : length c.args.r.line ≡ 146 = c.well_formed.0.1.1.1.1.0.1.0.1 in
    (omega arith, omega arith, omega arith, λ h. absurd (omega arith), listed_none _ _ _ _)

pub returns-then-read-part : goal.returns-then-read-part
returns-then-read-part c =
    let taken = c.take_line-taken in
    fed_by _ _ _ _ _ _ _ _ _ _ c.answer.ensures
    (listed_held _ _ _ _ _ _ _ _ _ c.loop-out.invariant.4 _ _ taken.ensures.forward taken.ensures.ends.0 taken.ensures.same)
    taken.ensures.kept (λ h. omega arith)

pub overflow_add-at : goal.overflow_add-at
overflow_add-at c =
    let fits = put_fits _ _ _ _ c.apply-at.ensures.text c.apply-at.auto.out in
    search rules

pub loop-out-preserved : goal.loop-out-preserved
loop-out-preserved c =
    let l = c.loop-out in
    let taken = c.take_line-taken in
    let applied = c.apply-at in
    let out = l.out in
    let at = l.at in
    let k = length out - at in
    let more : taken.result.next < length c.args.part.now = omega (arith, taken.ensures.ends.0) in
    let fits = put_fits _ _ _ _ applied.ensures.text applied.auto.out in
    let put = put_tail out applied.new.out _ at k applied.result refl applied.ensures.text in
    let room : at + applied.result ≤ length out = omega (arith, part_length out at (length out) (omega arith)) in
    let same = put-length out _ at (at + applied.result) _ put room in (
      omega arith,
      omega (arith, taken.auto.line),
      omega (arith, same, room),
      λ h. omega arith,
      listed_line _ _ _ _ _ _ _ _ _
          (listed_held _ _ _ _ _ _ _ _ _ l.invariant.4 _ _ taken.ensures.forward taken.ensures.ends.0 taken.ensures.same)
          _ _ applied.result more (taken.ensures.ends.1 more) l.invariant.2 applied.ensures.session put,
    )
