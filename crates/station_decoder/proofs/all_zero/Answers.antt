-- `station_decoder::all_zero` meets its contract: where no bit of the bytes so far is set, they
-- are 0.
use Rattle.std.proofs.Common.{arith, drop, sym, ◌∙◌, ◌+◌, ◌-◌, ◌<◌}
use Rattle.std.proofs.lemmas.List.{get_or-take, get_or-drop, length-take}
use borrow.Author.Count.{below_more}
use Rattle.station_decoder.proofs.Zeros.{none_of}
use Rattle.station_decoder.proofs.all_zero.Goals as goal

pub loop-byte-preserved : goal.loop-byte-preserved
loop-byte-preserved c e =
    let s = c.args in
    let i = c.loop-byte.byte-index in
    let few : i < s.at + s.count - s.at = omega (arith, length-take (s.at + s.count - s.at) (drop s.at s.bytes.now)) in
    let n = none_of c.loop-byte.joined _ e in
    below_more _ i (c.loop-byte.invariant n.0)
    (sym (get_or-take _ (drop s.at s.bytes.now) i 0 few ∙ get_or-drop s.at s.bytes.now i 0) ∙ n.1)
