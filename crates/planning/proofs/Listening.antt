-- Uniting a row with the sets of those in a mask, lowest bit first. The invariant: there is a place
-- up to which all have been heard, and what is left of the mask is its bits from there up to n. The
-- lowest of these is the next to be heard, and nobody stands between.
use mathlib.Core.Bool.{Bool, true, false, cond, ◌&&◌, not, and-false, and-true}
use mathlib.Core.List.{List}
use mathlib.Core.Path.{◌≡◌, sym, ap, ◌∙◌}
use Prim.Native.Nat.{ℕ, ◌+◌, ◌-◌, ◌^◌, ◌<◌, ◌≤◌}
use native.Mathlib.Decide.{ℕ_discrete, dec_le}
use native.Mathlib.Omega.{arith}
use borrow.Author.Tests.{eq-eqb, ne_eqb, le-leb, lt-leb, leb-true, lt-ltb, ltb-true}
use lib.Bits.{bit_and, bit_or, and_le_l}
use lib.Count.{count_trailing_zeros}
use lib.Dec.{eqb, leb, ltb}
use lib.ListN.{get_or}
use Rattle.lists.proofs.Laws.{and_left, and_right}
use Rattle.links.specs.Log.{bit}
use Rattle.links.proofs.Log.{bit_zero}
use Rattle.planning.specs.Sets.{cell, FirstAre, united}
use Rattle.planning.proofs.Bits.{bit_below}
use Rattle.planning.proofs.Lowest.{Lowest, lowest_bit}
use Rattle.planning.proofs.Rows.{first_same, first_then, first_ext, united_zero, united_more, united_silent}

pub record Heard (n mask : ℕ) (before row₀ row : List ℕ) (rest : ℕ) : Type 0 where
  pub place : ℕ
  pub within : place ≤ n
  pub small : rest < 65536
  pub united_so_far : FirstAre 16 row₀ row (λ s. united place (bit mask) (λ j. cell before j s) (get_or row₀ s 0))
  pub left : (i : ℕ) → bit rest i ≡ (leb place i && (bit mask i && ltb i n))

module _ (n mask : ℕ) (before row₀ : List ℕ) where
  pub heard_none : mask < 65536 → Heard n mask before row₀ row₀ (bit_and mask (2 ^ n - 1))
  heard_none h =
      record {
        place = 0;
        within = omega arith;
        small = omega (arith, and_le_l mask (2 ^ n - 1));
        united_so_far = first_same row₀ _ (λ s l. sym (united_zero (bit mask) (λ j. cell before j s) (get_or row₀ s 0)));
        left = λ i. bit_below mask n i ∙ sym (ap (λ (b : Bool). b && (bit mask i && ltb i n)) (le-leb 0 i (omega arith)));
      }

  module _ (row : List ℕ) (rest : ℕ) (h : Heard n mask before row₀ row rest) (some : 0 < rest) where
    low : Lowest rest (count_trailing_zeros 16 rest) (bit_and rest (rest - 1))
    low = lowest_bit 16 rest some h.small

    there : (leb h.place (count_trailing_zeros 16 rest) && (bit mask (count_trailing_zeros 16 rest) && ltb (count_trailing_zeros 16 rest) n)) ≡ true
    there = sym (h.left (count_trailing_zeros 16 rest)) ∙ low.set

    in_mask : (bit mask (count_trailing_zeros 16 rest) && ltb (count_trailing_zeros 16 rest) n) ≡ true
    in_mask = and_right (leb h.place (count_trailing_zeros 16 rest)) _ there

    -- The next to be heard is a station.
    pub next_below : count_trailing_zeros 16 rest < n
    next_below = ltb-true (count_trailing_zeros 16 rest) n (and_right (bit mask (count_trailing_zeros 16 rest)) _ in_mask)

    next_from : h.place ≤ count_trailing_zeros 16 rest
    next_from = leb-true h.place (count_trailing_zeros 16 rest) (and_left _ (bit mask (count_trailing_zeros 16 rest) && ltb (count_trailing_zeros 16 rest) n) there)

    -- Nobody between is in the mask.
    silent : (j : ℕ) → h.place ≤ j → j < count_trailing_zeros 16 rest → bit mask j ≡ false
    silent j l k =
        let e : (leb h.place j && (bit mask j && ltb j n)) ≡ false = sym (h.left j) ∙ low.below j k in
        sym (and-true (bit mask j))
        ∙ ap (λ (b : Bool). bit mask j && b) (sym (lt-ltb j n (omega (arith, next_below))))
        ∙ sym (ap (λ (b : Bool). b && (bit mask j && ltb j n)) (le-leb h.place j l))
        ∙ e

    pub heard_next : (row' : List ℕ) → FirstAre 16 row row' (λ s. bit_or (get_or row s 0) (cell before (count_trailing_zeros 16 rest) s))
        → Heard n mask before row₀ row' (bit_and rest (rest - 1))
    heard_next row' r =
        record {
          place = count_trailing_zeros 16 rest + 1;
          within = omega (arith, next_below);
          small = omega (arith, and_le_l rest (rest - 1), h.small);
          united_so_far =
              first_then row₀ row row' _ _ _ h.united_so_far r
              (λ s l.
              ap (λ (x : ℕ). bit_or x (cell before (count_trailing_zeros 16 rest) s))
              (h.united_so_far.first s l
              ∙ sym (united_silent (bit mask) (λ j. cell before j s) (get_or row₀ s 0) h.place (count_trailing_zeros 16 rest) next_from silent))
              ∙ sym (united_more (bit mask) (λ j. cell before j s) (get_or row₀ s 0) (count_trailing_zeros 16 rest)
              ∙ ap (λ (b : Bool). cond b (bit_or (united (count_trailing_zeros 16 rest) (bit mask) (λ j. cell before j s) (get_or row₀ s 0)) (cell before (count_trailing_zeros 16 rest) s)) (united (count_trailing_zeros 16 rest) (bit mask) (λ j. cell before j s) (get_or row₀ s 0)))
              (and_left (bit mask (count_trailing_zeros 16 rest)) _ in_mask)));
          left = rest_left;
        }
      where
        rest_left : (i : ℕ) → bit (bit_and rest (rest - 1)) i ≡ (leb (count_trailing_zeros 16 rest + 1) i && (bit mask i && ltb i n))
        rest_left i =
            low.others i
            ∙ elim (dec_le (count_trailing_zeros 16 rest + 1) i) [
              | yes l ↦
                  rw (le-leb (count_trailing_zeros 16 rest + 1) i l, ne_eqb i (count_trailing_zeros 16 rest) (λ e. absurd (omega arith)))
                  (and-true (bit rest i) ∙ h.left i ∙ ap (λ (b : Bool). b && (bit mask i && ltb i n)) (le-leb h.place i (omega (arith, next_from))))
              | no g ↦
                  rw (lt-leb (count_trailing_zeros 16 rest + 1) i (omega arith))
                  (elim (ℕ_discrete i (count_trailing_zeros 16 rest)) [
                    | yes e ↦ rw (eq-eqb i (count_trailing_zeros 16 rest) e) (and-false (bit rest i))
                    | no d ↦ ap (λ (b : Bool). b && not (eqb i (count_trailing_zeros 16 rest))) (low.below i (omega arith))
                  ])
            ]

  -- Nothing left: all have been heard.
  pub heard_all : (row : List ℕ) → Heard n mask before row₀ row 0
      → FirstAre 16 row₀ row (λ s. united n (bit mask) (λ j. cell before j s) (get_or row₀ s 0))
  heard_all row h =
      first_ext row₀ row _ _ h.united_so_far
      (λ s l. sym (united_silent (bit mask) (λ j. cell before j s) (get_or row₀ s 0) h.place n h.within none))
    where
      none : (j : ℕ) → h.place ≤ j → j < n → bit mask j ≡ false
      none j l k =
          let e : (leb h.place j && (bit mask j && ltb j n)) ≡ false = sym (h.left j) ∙ bit_zero j in
          sym (and-true (bit mask j))
          ∙ ap (λ (b : Bool). bit mask j && b) (sym (lt-ltb j n k))
          ∙ sym (ap (λ (b : Bool). b && (bit mask j && ltb j n)) (le-leb h.place j l))
          ∙ e
