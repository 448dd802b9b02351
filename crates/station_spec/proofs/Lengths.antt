-- The lengths that a station's arrays have by their types, out of what owning a station tells: each
-- array says how many entries it has.
use Prim.Native.Nat.{ℕ, zero, suc, ◌<◌}
use native.Mathlib.Omega.{arith}
use mathlib.Core.List.{List, [], ◌∷◌}
use lib.ListN.{get_or, length}
use mir.Val.{Val}
use base.Fml.{Fml}
use denote.Shadow.{shadow}
use denote.Array.{each}
use denote.Struct as Struct
use denote.Struct.Laws as Laws
use Rattle.station_spec.specs.declared.Station.{Station}
use Rattle.station_spec.proofs.Setters.{Shaped}
use Rattle.queues.proofs.WaitingOwned.{owned_sized}
use Rattle.station_spec.specs.contracts.Station as Declared
use Rattle.station_spec.proofs.Station.TheLaws as DeclaredLaws

-- what is said of each element is said of the one at a place
pub each_at :
    {X : Type 0} (own : X → List Val → Fml) (xs : List X) (us : List Val) → shadow (each X own xs us) → (i : ℕ) (d : X) → i < length xs →
    (u : Val) × shadow (own (get_or xs i d) (u ∷ []))
each_at own [] us h i d l = absurd (omega arith)
each_at own (x ∷ xs) [] h i d l = absurd h
each_at own (x ∷ xs) (u ∷ us) h zero d l = (u, h.0)
each_at own (x ∷ xs) (u ∷ us) h (suc i) d l = each_at own xs us h.1 i d (omega arith)

-- what owning a station tells
abbrev pub Owned : Station → Type 0
Owned s = shadow ((Struct.Declared.row Declared.the_type).own_val s (Laws.val Declared.the_type DeclaredLaws.the_laws s ∷ []))

pub lengths_at : (s : Station) (vs : List Val) → shadow ((Struct.Declared.row Declared.the_type).own_val s vs) → Shaped s
lengths_at s vs h =
    record {
      acked = h.1.1.1.1.1.1.0.1.0.1;
      labels = h.1.1.1.1.1.1.1.1.1.0.1.0.1;
      held = h.1.1.1.1.1.1.1.1.1.1.0.1.0.1;
      table = h.1.1.1.1.1.1.1.1.1.1.1.0.1.0.1;
      lanes = h.1.1.1.1.1.1.1.1.1.1.1.1.0.1.0.1;
      waiting = owned_sized s.waiting _ h.1.1.1.1.1.0;
    }

pub lengths : (s : Station) → Owned s → Shaped s
lengths s h = lengths_at s (Laws.val Declared.the_type DeclaredLaws.the_laws s ∷ []) h
