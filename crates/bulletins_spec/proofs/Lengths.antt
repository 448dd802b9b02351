-- The lengths that the arrays of a state have by their types, out of what owning it tells: each
-- array says how many entries it has.
use mathlib.Core.List.{List}
use mathlib.Core.Path.{◌≡◌}
use lib.ListN.{length}
use mir.Val.{Val}
use denote.Shadow.{shadow}
use denote.Struct as Struct
use Rattle.bulletins_spec.specs.declared.Bulletins.{Bulletins}
use Rattle.bulletins_spec.specs.contracts.Bulletins as Declared

pub record Shaped (B : Bulletins) : Type 0 where
  pub tags : length B.tags ≡ 64
  pub events : length B.events ≡ 64
  pub held : length B.held ≡ 16

pub lengths_at : (B : Bulletins) (vs : List Val) → shadow ((Struct.Declared.row Declared.the_type).own_val B vs) → Shaped B
lengths_at B vs h =
    record {
      tags = h.1.1.1.0.1.0.1;
      events = h.1.1.1.1.0.1.0.1;
      held = h.1.1.1.1.1.0.1.0.1;
    }
