-- Document 01's marked examples M1 to M4, of the definition, and the four outcomes of document 02,
-- A4.
use Prim.Native.Nat.{ℕ}
use mathlib.Core.Bool.{Bool, true, false}
use mathlib.Core.Path.{◌≡◌, refl}
use Rattle.labels.specs.declared.Age.{Age}
use Rattle.labels.specs.declared.Age.TheVariants.{Newer, Same, Conflicting, Older}
use Rattle.labels.specs.Newer.{is_newer, age_of}

-- held label 1 count 0, seen label 1 count 1: newer
pub m1 : is_newer true 1 0 1 1 ≡ true
unfolding is_newer
m1 = refl

-- seen label 1 count 0: not
pub m2 : is_newer true 1 0 1 0 ≡ false
unfolding is_newer
m2 = refl

-- held label 2, seen label 0: newer, at any counts
pub m3 : (held_count seen_count : ℕ) → is_newer true 2 held_count 0 seen_count ≡ true
unfolding is_newer
m3 held_count seen_count = refl

-- held label 0, seen label 2: not, at any counts
pub m4 : (held_count seen_count : ℕ) → is_newer true 0 held_count 2 seen_count ≡ false
unfolding is_newer
m4 held_count seen_count = refl

-- the four outcomes, held label 1 count 4. What else is equal is looked at where label and count
-- are the held ones
abbrev beside : ℕ → ℕ → Bool → Age
beside label count equal = age_of true 1 4 label count equal

pub record Ages : Type 0 where
  pub same : beside 1 4 true ≡ Same
  pub conflicting : beside 1 4 false ≡ Conflicting
  pub more_counted : (beside 1 5 true ≡ Newer) × (beside 1 5 false ≡ Newer)
  pub next_label : (beside 2 0 true ≡ Newer) × (beside 2 4 false ≡ Newer)
  pub less_counted : (beside 1 3 true ≡ Older) × (beside 1 3 false ≡ Older)
  pub label_before : (beside 0 4 true ≡ Older) × (beside 0 9 false ≡ Older)
  pub none_held : (age_of false 1 4 1 4 true ≡ Newer) × (age_of false 1 4 1 4 false ≡ Newer)

pub ages : Ages
unfolding is_newer age_of
ages =
    record {
      same = refl;
      conflicting = refl;
      more_counted = (refl, refl);
      next_label = (refl, refl);
      less_counted = (refl, refl);
      label_before = (refl, refl);
      none_held = (refl, refl);
    }
