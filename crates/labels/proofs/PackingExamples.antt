-- Document 01's marked examples M5 to M7, of the definition.
use mathlib.Core.List.{[], ◌∷◌}
use mathlib.Core.Path.{◌≡◌, refl}
use lib.ListN.{replicate}
use Rattle.labels.specs.Packing.{packed}

-- labels 1, 2 pack to 9
pub m5 : packed (1 ∷ 2 ∷ []) ≡ 9
unfolding packed
m5 = refl

-- labels 2, 2, 1 pack to 26
pub m6 : packed (2 ∷ 2 ∷ 1 ∷ []) ≡ 26
unfolding packed
m6 = refl

-- sixteen labels 2 pack to hexadecimal AAAAAAAA
pub m7 : packed (replicate 16 2) ≡ 0xAAAA_AAAA
unfolding packed
m7 = refl
