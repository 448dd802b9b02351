-- `reader::steps::take_line` copies the bytes of the line, as far as they are kept: with what is
-- left of the part, the same is still to be listed.
use Rattle.std.proofs.Common.{◌≡◌, ◌+◌, ◌-◌, arith, take, drop, length, length-drop}
use lib.Seq.{take_all}
use Rattle.listing_spec.proofs.Held.{takes}
use Rattle.reader.proofs.steps.take_line.Goals as goal

pub returns-clause-same : goal.returns-clause-same
returns-clause-same c =
    let a = c.args in
    let part = a.part.now in
    let read = c.line_len-read.result in
    let kept = c.min-kept.result in
    let rest = take (length part - a.from) (drop a.from part) in
    let all : rest ≡ drop a.from part = take_all (length part - a.from) (drop a.from part) (omega (arith, length-drop a.from part)) in
    let taken : a.from + read - a.from ≡ read = omega arith in
    let size : a.held + kept - a.held ≡ kept = omega arith in
    rw (taken, size, ← all) (takes a.line.now rest c.copy_from_slice.new.self a.held read kept c.requires.held c.requires.whole
    (omega arith) (omega arith) (omega arith) (λ few. omega arith) c.line_len-read.ensures.inner c.copy_from_slice.ensures.after)
