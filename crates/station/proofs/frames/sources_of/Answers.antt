-- `station::frames::sources_of` meets its contract: the first of the thirty takings are those that
-- were heard.
use Prim.Native.Nat.{ℕ}
use mathlib.Core.Path.{◌≡◌, ap, ◌∙◌}
use mathlib.Core.List.{List, ◌++◌}
use lib.ListN.{take, length, length-map, length-take}
use lib.Seq.{take_at}
use native.Mathlib.Omega.{arith}
use Rattle.station_spec.specs.declared.Taking.{Taking}
use Rattle.station_spec.specs.Calls.{sources_of}
use Rattle.hearing_spec.specs.Buffer.{taking_at}
use Rattle.listening.specs.Listened.{takings_at}
use Rattle.station.proofs.frames.sources_of.Goals as goal

takings_front : (ts us rest : List Taking) (len : ℕ) → length ts ≡ len → us ≡ ts ++ rest → take len us ≡ ts
takings_front ts us rest len e is = ap (take len) is ∙ take_at ts rest len e

pub returns : goal.returns
returns c =
    let t = c.requires in
    let both = c.args.both.now in
    let taken = c.args.taken.now in
    let len = c.args.len in
    let sized : length (takings_at both taken len) ≡ len =
    length-map (take len taken) (taking_at both) ∙ omega (arith, length-take len taken, t.long, t.few) in
    c.sources.ensures ∙ ap sources_of (takings_front (takings_at both taken len) _ _ len sized c.put_takings.ensures)

pub sources-requires : goal.sources-requires
sources-requires c = c.requires.few
