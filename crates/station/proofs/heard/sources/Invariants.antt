use Rattle.std.proofs.Common.{◌≡◌, take, drop}
use Rattle.station_spec.specs.Calls.{sources_of}
use Rattle.station.proofs.heard.sources.Given as goal

abbrev pub invariant-loop-i : goal.invariant-loop-i
invariant-loop-i l = l.places ≡ sources_of (drop l.i (take l.len l.takings))
