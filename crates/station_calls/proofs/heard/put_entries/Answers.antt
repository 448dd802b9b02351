-- `station_calls::heard::put_entries` meets its contract: the records of the stations before k are
-- written.
use Rattle.std.proofs.Common.{arith}
use Rattle.station_calls.proofs.HeardSteps.{entries_none, entries_clear, entries_put, entries_done}
use Rattle.station_calls.proofs.heard.put_entries.Goals as goal

pub loop-k-init : goal.loop-k-init
loop-k-init c = entries_none c.args.n _ c.args.bytes.now c.args.places.now

pub loop-k-preserved-then-at-eq0 : goal.loop-k-preserved-then-at-eq0
loop-k-preserved-then-at-eq0 c = entries_clear _ c.loop-k.k _ _ _ _ _ c.loop-k.invariant c.if-at-eq0.true c.clear_entry.ensures

pub loop-k-preserved : goal.loop-k-preserved
loop-k-preserved c = entries_put _ c.loop-k.k _ _ _ _ _ c.loop-k.invariant c.if-at-eq0.false c.put_entry.ensures

pub returns : goal.returns
returns c = entries_done c.args.n c.loop-k.k _ _ c.args.bytes.now c.args.places.now (omega arith) c.loop-k.invariant
