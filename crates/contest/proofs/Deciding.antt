-- What a loop over picks decides.
use mathlib.Core.Bool.{Bool, true, false, not}
use mathlib.Core.List.{List}
use mathlib.Core.Path.{◌≡◌, refl, sym, ap, ◌∙◌}
use Prim.Native.Nat.{ℕ, zero, suc, ◌-◌, ◌*◌, ◌<◌}
use native.Mathlib.Omega.{arith}
use lib.ListN.{get_or}
use Rattle.lists.proofs.Laws.{all_below_make, all_below_fails, any_below_hit, any_below_none, all_below_ext, any_below_ext}
use Rattle.planning.specs.Sets.{is_full}
use Rattle.contest.specs.Winner.{decided}
use Rattle.contest.specs.declared.Player.{Player}
use Rattle.contest.specs.declared.Player.TheVariants.{Keeper, Breaker}
use Rattle.contest.specs.Inner.KnownSets.{after, mask_of, begun, is_keeper, wins_from, opening}

-- Who is not the keeper is the breaker.
pub breaker_is : (a : Player) → (a ≡ Keeper → ⊥) → is_keeper a ≡ false
breaker_is Keeper d = absurd (d refl)
breaker_is Breaker d = refl

other : (b keeper : Bool) → (b ≡ keeper → ⊥) → b ≡ not keeper
other true true d = absurd (d refl)
other true false d = refl
other false true d = refl
other false false d = absurd (d refl)

pub decided_hit : (keeper : Bool) (count : ℕ) (f : ℕ → Bool) (i : ℕ) → i < count → f i ≡ keeper → decided keeper count f ≡ keeper
unfolding decided
decided_hit true count f i l e = any_below_hit count f i l e
decided_hit false count f i l e = all_below_fails count f i l e

pub decided_none : (keeper : Bool) (count : ℕ) (f : ℕ → Bool) → ((i : ℕ) → i < count → f i ≡ keeper → ⊥) → decided keeper count f ≡ not keeper
unfolding decided
decided_none true count f h = any_below_none count f (λ i l. other (f i) true (h i l))
decided_none false count f h = all_below_make count f (λ i l. other (f i) false (h i l))

pub decided_ext : (keeper : Bool) (count : ℕ) (f g : ℕ → Bool) → ((i : ℕ) → i < count → f i ≡ g i) → decided keeper count f ≡ decided keeper count g
unfolding decided
decided_ext true count f g h = any_below_ext count f g h
decided_ext false count f g h = all_below_ext count f g h

module _ (n s count : ℕ) (masks : List ℕ) where
  pub wins_over : (left : ℕ) (keeper : Bool) (know : List ℕ) → is_full n (get_or know s 0) ≡ true → wins_from n s count masks left keeper know ≡ true
  unfolding wins_from
  wins_over zero keeper know e = e
  wins_over (suc left) keeper know e = rw e

  pub wins_none : (left : ℕ) (keeper : Bool) (know : List ℕ) → left ≡ 0 → wins_from n s count masks left keeper know ≡ is_full n (get_or know s 0)
  unfolding wins_from
  wins_none zero keeper know z = refl
  wins_none (suc left) keeper know z = absurd (omega arith)

  -- A pick's outcome.
  abbrev pub outcome : ℕ → Bool → List ℕ → ℕ → Bool
  outcome left keeper know i = wins_from n s count masks (left - 1) (not keeper) (after n s (mask_of masks (i * n)) know)

  pub wins_more : (left : ℕ) (keeper : Bool) (know : List ℕ) → (left ≡ 0 → ⊥) → is_full n (get_or know s 0) ≡ false
      → wins_from n s count masks left keeper know ≡ decided keeper count (outcome left keeper know)
  unfolding wins_from
  wins_more zero keeper know d e = absurd (d refl)
  wins_more (suc left) keeper know d e =
      let z : left ≡ suc left - 1 = omega arith in
      rw e (ap (λ (m : ℕ). decided keeper count (λ i. wins_from n s count masks m (not keeper) (after n s (mask_of masks (i * n)) know))) z)

  pub wins_hit : (left : ℕ) (keeper : Bool) (know : List ℕ) (i : ℕ) → (left ≡ 0 → ⊥) → is_full n (get_or know s 0) ≡ false → i < count
      → outcome left keeper know i ≡ keeper → wins_from n s count masks left keeper know ≡ keeper
  wins_hit left keeper know i d e l h = wins_more left keeper know d e ∙ decided_hit keeper count (outcome left keeper know) i l h

  pub wins_not : (left : ℕ) (keeper : Bool) (know : List ℕ) → (left ≡ 0 → ⊥) → is_full n (get_or know s 0) ≡ false
      → ((i : ℕ) → i < count → outcome left keeper know i ≡ keeper → ⊥) → wins_from n s count masks left keeper know ≡ not keeper
  wins_not left keeper know d e h = wins_more left keeper know d e ∙ decided_none keeper count (outcome left keeper know) h

  pub opening_is : (left i : ℕ) (know next : List ℕ) (w : Bool) → know ≡ begun s → next ≡ after n s (mask_of masks (i * n)) know
      → w ≡ wins_from n s count masks left false next → opening n s count masks left i ≡ w
  unfolding opening
  opening_is left i know next w a b e =
      ap (λ (k : List ℕ). wins_from n s count masks left false (after n s (mask_of masks (i * n)) k)) (sym a)
      ∙ ap (λ (k : List ℕ). wins_from n s count masks left false k) (sym b)
      ∙ sym e
