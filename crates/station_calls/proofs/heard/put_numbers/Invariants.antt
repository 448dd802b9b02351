use Rattle.station_calls.specs.Changes.{Changes}
use Rattle.station_calls.proofs.HeardSteps.{numbers_below}
use Rattle.station_calls.proofs.heard.put_numbers.Given as goal

abbrev pub invariant-loop-k : goal.invariant-loop-k
invariant-loop-k l = Changes l.initial.state l.state (λ s. numbers_below s l.heard l.k)
