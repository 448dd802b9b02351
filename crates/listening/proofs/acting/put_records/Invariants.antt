use Rattle.std.proofs.Common.{◌≡◌}
use Rattle.lists.specs.Below.{set_below}
use Rattle.hearing_spec.specs.StandsFor.{holds_at}
use Rattle.listening.specs.Listened.{entry_over}
use Rattle.listening.proofs.acting.put_records.Given as goal

abbrev pub invariant-loop-k : goal.invariant-loop-k
invariant-loop-k l = record {
  held : l.held ≡ set_below l.k (holds_at l.places) l.initial.held;
  table : l.table ≡ set_below l.k (entry_over l.n l.bytes l.places l.initial.table) l.initial.table;
}
