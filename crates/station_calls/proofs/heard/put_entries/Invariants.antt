use Rattle.station_calls.specs.Changes.{ChangesOf, entries_below}
use Rattle.station_calls.proofs.heard.put_entries.Given as goal

abbrev pub invariant-loop-k : goal.invariant-loop-k
invariant-loop-k l = ChangesOf l.n l.initial.state l.state (λ s. entries_below s l.bytes l.places l.k)
