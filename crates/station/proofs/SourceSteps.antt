-- The stations in a list of takings, from the last taking to the first.
use Prim.Native.Nat.{ℕ, ◌+◌, ◌<◌, ◌≤◌}
use native.Mathlib.Omega.{arith}
use native.Mathlib.Numerals.{add-one}
use mathlib.Core.Path.{◌≡◌}
use mathlib.Core.Bool.{true, false}
use mathlib.Core.List.{List}
use lib.ListN.{get_or, set, take, drop, length, replicate, length-take, drop_of_length-le}
use lib.Seq.{drop-cons, get_or-take}
use Rattle.station_spec.specs.declared.Taking.{Taking}
use Rattle.station_spec.specs.Hearing.{no_taking}
use Rattle.station_spec.specs.Calls.{sources_of}

pub sources_none : (t : List Taking) (len : ℕ) → replicate 16 false ≡ sources_of (drop len (take len t))
unfolding sources_of
sources_none t len = rw (drop_of_length-le (take len t) {i = len} (rw length-take (omega arith)))

pub sources_more :
    (t : List Taking) (len i : ℕ) → i < len → len ≤ length t →
    set (sources_of (drop (i + 1) (take len t))) (get_or t i no_taking).source true ≡ sources_of (drop i (take len t))
unfolding sources_of
sources_more t len i l m =
    let b : i < length (take len t) = rw length-take (omega arith) in
    rw (add-one, drop-cons (take len t) i no_taking b, get_or-take len t i no_taking l)
