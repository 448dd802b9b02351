-- The loop over the records of a frame: at record r the first r records are placed.
use Prim.Native.Nat.{ℕ, suc, ◌+◌, ◌≤◌, ◌<◌}
use mathlib.Core.List.{List}
use mathlib.Core.Path.{◌≡◌, refl, ap, ◌∙◌}
use native.Mathlib.Omega.{arith}
use lib.ListN.{get_or, set, length, length-set}
use Rattle.listening.specs.OwnPlaces.{record_place, places_of}

pub record Placing (bytes : List ℕ) (start : ℕ) (places₀ places : List ℕ) (at : ℕ) : Type 0 where
  pub r : ℕ
  pub place : at ≡ record_place start r
  pub many : r ≤ get_or bytes (start + 2) 0
  pub is : places ≡ places_of bytes start places₀ r
  pub long : length places ≡ 16

module _ (bytes : List ℕ) (start : ℕ) (places₀ : List ℕ) where
  pub placing_none : length places₀ ≡ 16 → Placing bytes start places₀ places₀ (start + 4)
  unfolding places_of
  placing_none long = record { r = 0; place = omega arith; many = omega arith; is = refl; long = long }

  module _ (places : List ℕ) (at : ℕ) (c : Placing bytes start places₀ places at) where
    pub placing_more : c.r < get_or bytes (start + 2) 0 → Placing bytes start places₀ (set places (get_or bytes at 0) at) (at + 16)
    unfolding places_of
    placing_more more =
        record {
          r = suc c.r;
          place = omega (arith, c.place);
          many = more;
          is = (λ i. set (c.is i) (get_or bytes (c.place i) 0) (c.place i));
          long = length-set places (get_or bytes at 0) at ∙ c.long;
        }

    pub placing_all : c.r ≡ get_or bytes (start + 2) 0 → places ≡ places_of bytes start places₀ (get_or bytes (start + 2) 0)
    placing_all e = c.is ∙ ap (places_of bytes start places₀) e
