-- The lengths that the arrays of an ear have by their types, out of what owning one tells.
use mathlib.Core.Path.{◌≡◌}
use mathlib.Core.List.{[], ◌∷◌}
use lib.ListN.{length}
use denote.Shadow.{shadow}
use denote.Struct as Struct
use denote.Struct.Laws as Laws
use Rattle.hearing_spec.specs.declared.Ear.{Ear}
use Rattle.hearing_spec.specs.contracts.Ear as Declared
use Rattle.hearing_spec.proofs.Ear.TheLaws as DeclaredLaws

abbrev pub Owned : Ear → Type 0
Owned e = shadow ((Struct.Declared.row Declared.the_type).own_val e (Laws.val Declared.the_type DeclaredLaws.the_laws e ∷ []))

module _ (e : Ear) (h : Owned e) where
  pub acked_long : length e.acked ≡ 16
  acked_long = h.1.1.1.1.0.1.0.1

  pub labels_long : length e.labels ≡ 16
  labels_long = h.1.1.1.1.1.0.1.0.1
