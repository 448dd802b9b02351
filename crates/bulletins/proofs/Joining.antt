-- A round of the group and its bulletins, return by return: the parts are those of the definition.
use mathlib.Core.Bool.{Bool, true, false}
use mathlib.Core.List.{List}
use mathlib.Core.Path.{◌≡◌, refl, sym, ap, ◌∙◌}
use Prim.Native.Nat.{ℕ, ◌*◌, ◌≤◌}
use native.Mathlib.Omega.{arith}
use borrow.Author.Tests.{eq-eqb, ne_eqb}
use lib.Dec.{eqb}
use lib.ListN.{get_or, length, replicate, take}
use Rattle.bodies.specs.Refusals.{done, outside_limits}
use Rattle.lists.specs.Below.{set_below}
use Rattle.lists.proofs.Laws.{set_below_inside, set_below_ext, and_left}
use Rattle.station_spec.specs.declared.Station.{Station}
use Rattle.group_spec.specs.declared.RoundDone.{RoundDone}
use Rattle.group_spec.specs.State.{size_of}
use Rattle.group_spec.specs.Calls.{no_report, round_call}
use Rattle.bulletins_spec.specs.declared.Bulletins.{Bulletins}
use Rattle.bulletins_spec.specs.declared.Shown.{Shown}
use Rattle.bulletins_spec.specs.declared.BulletinsRound.{BulletinsRound}
use Rattle.bulletins_spec.specs.State.{set_of, tag_at, notice_at, bulletins_inside}
use Rattle.bulletins_spec.specs.Order.{in_order, picked}
use Rattle.bulletins_spec.specs.Calls.{set_after, bulletins_after, gains, shown_by, shown_of, none_shown, all_shown, fits, round_part, bulletins_round_call}
use Rattle.bulletins.specs.Sets.{new_in}

-- the bulletins of a round that is not refused, and what is shown in it
module _ (B : Bulletins) (masks : List ℕ) (long : length B.held ≡ 16) (high : B.n ≤ 16) where
  pub held_is : (after : List ℕ) → after ≡ set_below B.n (set_after B masks) B.held
      → ◌≡◌ {A = Bulletins} (record { n = B.n; tags = B.tags; events = B.events; held = after }) (bulletins_after B masks)
  unfolding bulletins_after
  held_is after e = ap (λ (x : List ℕ). record { n = B.n; tags = B.tags; events = B.events; held = x }) e

  new_is : (p : ℕ) → new_in (set_of B p) (set_after B masks p) ≡ gains B masks p
  unfolding new_in gains
  new_is p = refl

  pub shown_is : (after places : List ℕ) (shown : List Shown)
      → after ≡ set_below B.n (set_after B masks) B.held → take (4 * B.n) places ≡ in_order (tag_at B) B.n
      → shown ≡ set_below B.n (λ p. shown_of
      (picked (new_in (set_of B p) (get_or after p 0)) (notice_at B) (take (4 * B.n) places))) none_shown
      → shown ≡ all_shown B masks
  unfolding all_shown shown_by
  shown_is after places shown e o s =
      s
      ∙ ap (λ (l : List ℕ). set_below B.n (λ p. shown_of (picked (new_in (set_of B p) (get_or after p 0)) (notice_at B) l)) none_shown) o
      ∙ set_below_ext B.n _ _ none_shown
      (λ p l.
      ap (λ (x : ℕ). shown_of (picked (new_in (set_of B p) x) (notice_at B) (in_order (tag_at B) B.n)))
      (ap (λ (t : List ℕ). get_or t p 0) e ∙ set_below_inside B.n (set_after B masks) B.held p 0 l (omega (arith, long)))
      ∙ ap (λ (f : ℕ → Bool). shown_of (picked f (notice_at B) (in_order (tag_at B) B.n))) (new_is p))

module _ (g : List Station) (B : Bulletins) (masks : List ℕ) where
  pub fit_inside : fits g B ≡ true → bulletins_inside B ≡ true
  fit_inside h = and_left (bulletins_inside B) (eqb (size_of g) B.n) h

  pub unfit : fits g B ≡ false
      → ◌≡◌ {A = BulletinsRound}
      (record { round = record { refusal = outside_limits; group = g; reports = replicate 16 no_report }; bulletins = B; shown = none_shown })
      (bulletins_round_call g B masks)
  unfolding bulletins_round_call round_part
  unfit e = rw e

  module _ (fit : fits g B ≡ true) (d : RoundDone) (called : d ≡ round_call g masks) where
    part : round_part g B masks ≡ d
    unfolding round_part
    part = rw fit (sym called)

    pub round_refused : (d.refusal ≡ done → ⊥) → (silent : List Shown) → silent ≡ none_shown
        → ◌≡◌ {A = BulletinsRound} (record { round = d; bulletins = B; shown = silent }) (bulletins_round_call g B masks)
    unfolding bulletins_round_call
    round_refused n silent s = rw (s, part, ne_eqb d.refusal done n)

    pub round_done : d.refusal ≡ done → (X : Bulletins) (shown : List Shown) → X ≡ bulletins_after B masks → shown ≡ all_shown B masks
        → ◌≡◌ {A = BulletinsRound} (record { round = d; bulletins = X; shown = shown }) (bulletins_round_call g B masks)
    unfolding bulletins_round_call
    round_done n X shown x s = rw (x, s, part, eq-eqb d.refusal done n)
